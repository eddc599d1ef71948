-- What was appended so far.
use Rattle.std.proofs.Common.{◌≡◌, ◌++◌, take}
use Rattle.std.specs.Prelude.{flat_map}
use Rattle.set_report.specs.ClassLists.{listed_by, listed_in}
use Rattle.set_report.specs.DoneLists.{done_by, ids_of}
use Rattle.set_report.proofs.list_tables.listed_with.Given as goal

abbrev pub invariant-loop-above : goal.invariant-loop-above
invariant-loop-above l =
    l.found.items
    ≡ listed_by l.records (listed_in l.kind) l.class
    ++ flat_map (done_by l.table (ids_of l.kind)) (take l.above-index l.supers)
