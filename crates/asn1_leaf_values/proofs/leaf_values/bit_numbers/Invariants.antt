use Rattle.std.proofs.Common.{◌≡◌, ◌++◌, drop, option_map}
use Rattle.asn1_leaf_values.specs.LeafTexts.{bit_numbers}
use Rattle.asn1_leaf_values.specs.TextValues.{parts_said}
use Rattle.asn1_leaf_values.proofs.leaf_values.bit_numbers.Given as goal

abbrev pub invariant-loop-part : goal.invariant-loop-part
invariant-loop-part l =
    bit_numbers l.names (parts_said l.parts)
    ≡ option_map (λ ns. l.items.items ++ ns) (bit_numbers l.names (parts_said (drop l.part-index l.parts)))
