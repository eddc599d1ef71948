-- The octets of the attributes from here on.
use Rattle.std.proofs.Common.{◌≡◌, drop}
use Rattle.term_values.specs.Lengths.{counted}
use Rattle.attribute_rules.specs.Weights.{weights}
use Rattle.attribute_rules.proofs.sizes.weights.Given as goal

abbrev pub invariant-loop-i : goal.invariant-loop-i
invariant-loop-i l = l.total ≡ counted (weights l.records l.bound (drop l.i l.attributes))
