-- Those of all so far were made.
use Rattle.std.proofs.Common.{◌≡◌, take, true}
use Rattle.std.specs.List.{list_all}
use Rattle.set_report.specs.DoneLists.{is_done}
use Rattle.set_report.proofs.list_tables.are_done.Given as goal

abbrev pub invariant-loop-class : goal.invariant-loop-class
invariant-loop-class l = list_all (is_done l.table) (take l.class-index l.classes) ≡ true
