-- The values of the attributes so far.
use Rattle.std.proofs.Common.{◌≡◌, take}
use Rattle.std.specs.Prelude.{filter, map}
use Rattle.term_model.specs.declared.object.Attribute.{Attribute}
use Rattle.term_model.specs.ObjectGet.{told}
use Rattle.term_model.specs.ObjectOperation.{is_readable}
use Rattle.op_object.proofs.object_get.readable_values.Given as goal

abbrev pub invariant-loop-attribute : goal.invariant-loop-attribute
invariant-loop-attribute l =
    l.given.items
    ≡ map (told l.schema.attributes)
    (filter (λ (attribute : Attribute). is_readable l.schema l.object.class attribute.id)
    (take l.attribute-index l.attribute-items))
