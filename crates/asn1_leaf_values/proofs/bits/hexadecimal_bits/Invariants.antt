use Rattle.std.proofs.Common.{◌≡◌, ◌++◌, drop}
use Rattle.asn1_leaf_values.specs.Bits.{hexadecimal_bits}
use Rattle.asn1_leaf_values.proofs.bits.hexadecimal_bits.Given as goal

abbrev pub invariant-loop-digit : goal.invariant-loop-digit
invariant-loop-digit l = hexadecimal_bits l.digits ≡ l.items.items ++ hexadecimal_bits (drop l.digit-index l.digits)
