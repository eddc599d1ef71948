-- What was appended so far.
use Rattle.std.proofs.Common.{◌≡◌, ◌++◌, take}
use Rattle.std.specs.Prelude.{flat_map}
use Rattle.set_report.specs.ClassLists.{listed_by, unregistered_in}
use Rattle.set_report.specs.DoneLists.{done_by, labels_of}
use Rattle.set_report.proofs.list_tables.unregistered_with.Given as goal

abbrev pub invariant-loop-above : goal.invariant-loop-above
invariant-loop-above l =
    l.found.items
    ≡ listed_by l.records unregistered_in l.class
    ++ flat_map (done_by l.table labels_of) (take l.above-index l.supers)
