-- What was made so far.
use Rattle.set_report.specs.DoneLists.{AreDone}
use Rattle.set_report.proofs.list_tables.list_table.Given as goal

abbrev pub invariant-loop-place : goal.invariant-loop-place
invariant-loop-place l = AreDone l.records l.table
