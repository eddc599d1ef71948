-- The identifiers so far.
use Rattle.std.proofs.Common.{◌≡◌, ℕ, List, take}
use Rattle.term_model.specs.ObjectGet.{has_attribute}
use Rattle.op_object.specs.IdSets.{has_id}
use Rattle.op_object.proofs.asked_ids.attribute_ids.Given as goal

abbrev pub invariant-loop-attribute : goal.invariant-loop-attribute
invariant-loop-attribute l = (q : List ℕ) → has_id l.ids q ≡ has_attribute (take l.attribute-index l.attributes) q
