-- The rest has the same first property of the attribute.
use Rattle.std.proofs.Common.{◌≡◌, drop}
use Rattle.term_model.specs.ClassAttributes.{property_among}
use Rattle.creation_values.proofs.attribute_tests.property_among.Given as goal

abbrev pub invariant-loop-property : goal.invariant-loop-property
invariant-loop-property l =
    property_among (drop l.property-index l.property-items) l.id ≡ property_among l.property-items l.id
