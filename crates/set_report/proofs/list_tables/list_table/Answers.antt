-- At first no class has its lists.
use Rattle.set_report.proofs.DoneLaws.{none_done}
use Rattle.set_report.proofs.list_tables.list_table.Goals as goal

pub loop-place-init : goal.loop-place-init
loop-place-init c = none_done c.args.records.now c.new-table.result c.new-table.ensures.empty
