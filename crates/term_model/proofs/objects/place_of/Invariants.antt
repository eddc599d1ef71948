use Rattle.std.proofs.Common.{◌≡◌, ◌++◌, drop, take}
use Rattle.term_model.specs.declared.objects.NamedObject.{NamedObject}
use Rattle.term_model.specs.NamedObjects.{stored}
use Rattle.term_model.proofs.objects.place_of.Given as goal

-- an entry of the name stands behind those that were gone through
abbrev pub invariant-loop-at : goal.invariant-loop-at
invariant-loop-at l =
    (entry : NamedObject) → entry.name ≡ l.name
    → stored entry l.entries ≡ take l.at l.entries ++ stored entry (drop l.at l.entries)
