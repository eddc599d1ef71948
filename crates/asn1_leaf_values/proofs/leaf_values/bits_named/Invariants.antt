use Rattle.std.proofs.Common.{◌≡◌, drop}
use Rattle.asn1_leaf_values.specs.LeafTexts.{bits_named}
use Rattle.asn1_leaf_values.proofs.leaf_values.bits_named.Given as goal

abbrev pub invariant-loop-k : goal.invariant-loop-k
invariant-loop-k l = bits_named (drop l.k l.numbers) ≡ l.items.items
