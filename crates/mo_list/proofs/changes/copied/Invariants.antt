use Rattle.std.proofs.Common.{◌≡◌, take}
use Rattle.mo_list.specs.Entries.{objects_in}
use Rattle.mo_list.proofs.changes.copied.Given as goal

-- what was copied so far holds the objects of the front
abbrev pub invariant-loop-entry : goal.invariant-loop-entry
invariant-loop-entry l = objects_in l.copies.items ≡ objects_in (take l.entry-index l.entries)
