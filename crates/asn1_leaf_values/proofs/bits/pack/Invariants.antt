use Rattle.std.proofs.Common.{◌≡◌, ◌≤◌, ◌++◌, ◌-◌, drop, length}
use Rattle.asn1_leaf_values.specs.Bits.{packed}
use Rattle.asn1_leaf_values.proofs.bits.pack.Given as goal

abbrev pub invariant-octets : goal.invariant-octets
invariant-octets l = record {
  within : l.at ≤ length l.bits;
  same : packed l.bits ≡ l.items.items ++ packed (drop l.at l.bits);
}

abbrev pub decreases-octets : goal.decreases-octets
decreases-octets l = length l.bits - l.at
