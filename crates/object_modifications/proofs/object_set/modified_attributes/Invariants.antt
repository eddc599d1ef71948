-- The attributes so far.
use Rattle.std.proofs.Common.{◌≡◌, take}
use Rattle.object_modifications.specs.Settling.{modified_among}
use Rattle.object_modifications.proofs.object_set.modified_attributes.Given as goal

abbrev pub invariant-loop-attribute : goal.invariant-loop-attribute
invariant-loop-attribute l =
    l.values.items ≡ modified_among l.records l.made.done (take l.attribute-index l.attribute-items)
