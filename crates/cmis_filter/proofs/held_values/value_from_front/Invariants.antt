use Rattle.std.proofs.Common.{◌≡◌, drop}
use Rattle.term_model.specs.FilterTruth.{value_in}
use Rattle.cmis_filter.proofs.held_values.value_from_front.Given as goal

abbrev pub invariant-loop-attribute : goal.invariant-loop-attribute
invariant-loop-attribute l = value_in (drop l.attribute-index l.attributes) l.id ≡ value_in l.attributes l.id
