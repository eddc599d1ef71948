-- Between the two places; what was found is what the subtree has in front of here, and each of it was a visit.
use Rattle.std.proofs.Common.{◌≡◌, ◌+◌, ◌≤◌, length, take}
use Rattle.scope_select.specs.Subtrees.{referred, subtree_of}
use Rattle.mo_list.specs.Entries.{objects_in}
use Rattle.mo_list.proofs.places.subtree_in.Given as goal

abbrev pub invariant-loop-at : goal.invariant-loop-at
invariant-loop-at g l =
    (l.first ≤ l.at) × (l.at ≤ l.end)
    × (referred l.found.items ≡ subtree_of (take l.at (objects_in l.entries)) l.base)
    × (l.steps ≡ l.initial.steps + length (referred l.found.items))
