use Rattle.std.proofs.Common.{◌≡◌, ◌≤◌, ◌++◌, ◌-◌, drop, length}
use Rattle.std.specs.Prelude.{option_map}
use Rattle.asn1_leaf_values.specs.Literals.{undoubled}
use Rattle.asn1_leaf_values.proofs.strings.undouble.Given as goal

abbrev pub invariant-octets : goal.invariant-octets
invariant-octets l = record {
  within : l.at ≤ length l.text;
  same : undoubled l.delimiter l.text ≡ option_map (λ rest. l.items.items ++ rest)
      (undoubled l.delimiter (drop l.at l.text));
}

abbrev pub decreases-octets : goal.decreases-octets
decreases-octets l = length l.text - l.at
