-- The values of the attributes so far.
use Rattle.std.proofs.Common.{◌≡◌, take}
use Rattle.op_object.specs.GetSteps.{values_given}
use Rattle.op_object.proofs.object_get.values_given.Given as goal

abbrev pub invariant-loop-attribute : goal.invariant-loop-attribute
invariant-loop-attribute l =
    l.given.items ≡ values_given l.records l.wanted l.readable (take l.attribute-index l.attributes)
