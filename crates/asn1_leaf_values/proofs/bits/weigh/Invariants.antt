use Rattle.std.proofs.Common.{◌≡◌, ◌≤◌, ◌+◌, ◌*◌, drop}
use Rattle.asn1_leaf_values.specs.Bits.{weighed}
use Rattle.asn1_leaf_values.proofs.bits.weigh.Given as goal

abbrev pub invariant-loop-bit : goal.invariant-loop-bit
invariant-loop-bit l = record {
  sum : weighed 128 l.bits ≡ l.octet + weighed l.weight (drop l.bit-index l.bits);
  small : l.octet + 2 * l.weight ≤ 256;
}
