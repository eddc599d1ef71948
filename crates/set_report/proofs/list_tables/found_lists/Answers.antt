-- The lists in the table are those of their class.
use Rattle.set_report.proofs.DoneLaws.{found_has}
use Rattle.set_report.proofs.list_tables.found_lists.Goals as goal

pub returns : goal.returns
returns c =
    found_has c.args.records.now c.args.table.now c.args.class.now c.get.result c.get.ensures.value c.requires
