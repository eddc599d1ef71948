use Rattle.std.proofs.Common.{◌≡◌}
use Rattle.asn1_names.specs.NumbersFound.{beneath_tags}
use Rattle.asn1_names.specs.TermViews.{type_term}
use Rattle.asn1_names.proofs.type_walk.beneath_tags.Given as goal

abbrev pub invariant-loop-left : goal.invariant-loop-left
invariant-loop-left l = beneath_tags (type_term l.left) ≡ beneath_tags (type_term l.of)
