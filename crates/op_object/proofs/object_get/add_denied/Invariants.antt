-- The errors of the attributes so far.
use Rattle.std.proofs.Common.{◌≡◌, ◌++◌, take}
use Rattle.op_object.specs.GetSteps.{denied_errors}
use Rattle.op_object.proofs.object_get.add_denied.Given as goal

abbrev pub invariant-loop-attribute : goal.invariant-loop-attribute
invariant-loop-attribute l =
    l.errors.items ≡ l.fn.errors.items ++ denied_errors l.wanted l.readable (take l.attribute-index l.attributes)
