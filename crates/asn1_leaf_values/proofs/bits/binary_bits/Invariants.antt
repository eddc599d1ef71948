use Rattle.std.proofs.Common.{◌≡◌, ◌++◌, drop}
use Rattle.asn1_leaf_values.specs.Bits.{binary_bits}
use Rattle.asn1_leaf_values.proofs.bits.binary_bits.Given as goal

abbrev pub invariant-loop-digit : goal.invariant-loop-digit
invariant-loop-digit l = binary_bits l.digits ≡ l.items.items ++ binary_bits (drop l.digit-index l.digits)
