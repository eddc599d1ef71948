-- What was appended so far.
use Rattle.std.proofs.Common.{◌≡◌, take}
use Rattle.std.specs.Prelude.{flat_map}
use Rattle.set_report.specs.ClassLists.{listed_by, listed_in}
use Rattle.set_report.proofs.class_lists.listed_above.Given as goal

abbrev pub invariant-loop-class : goal.invariant-loop-class
invariant-loop-class l = l.found.items ≡ flat_map (listed_by l.records (listed_in l.kind)) (take l.class-index l.above)
