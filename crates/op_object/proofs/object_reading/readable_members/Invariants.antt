-- What was made of the front of the list so far.
use Rattle.std.proofs.Common.{◌≡◌, take}
use Rattle.std.specs.Prelude.{map, filter}
use Rattle.term_model.specs.declared.object.Attribute.{Attribute}
use Rattle.term_model.specs.ObjectOperation.{attribute_octets, is_readable}
use Rattle.op_object.proofs.object_reading.readable_members.Given as goal

abbrev pub invariant-loop-attribute : goal.invariant-loop-attribute
invariant-loop-attribute l =
    l.members.items ≡ map (attribute_octets l.schema.attributes)
    (filter (λ (attribute : Attribute). is_readable l.schema l.object.class attribute.id)
    (take l.attribute-index l.attribute-items))
