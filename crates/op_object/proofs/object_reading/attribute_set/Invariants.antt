-- What was made of the front of the list so far.
use Rattle.std.proofs.Common.{◌≡◌, take}
use Rattle.std.specs.Prelude.{map}
use Rattle.term_model.specs.ObjectOperation.{attribute_octets}
use Rattle.op_object.proofs.object_reading.attribute_set.Given as goal

abbrev pub invariant-loop-attribute : goal.invariant-loop-attribute
invariant-loop-attribute l =
    l.members.items ≡ map (attribute_octets l.records) (take l.attribute-index l.attribute-items)
