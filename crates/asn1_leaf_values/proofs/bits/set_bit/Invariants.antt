use Rattle.std.proofs.Common.{◌≡◌, ◌+◌, ◌-◌, length}
use Rattle.asn1_leaf_values.specs.LeafTexts.{with_bit}
use Rattle.asn1_leaf_values.proofs.bits.set_bit.Given as goal

abbrev pub invariant-loop-bits : goal.invariant-loop-bits
invariant-loop-bits l = with_bit l.number l.bits.items ≡ with_bit l.number l.initial.bits.items

abbrev pub decreases-loop-bits : goal.decreases-loop-bits
decreases-loop-bits l = l.number + 1 - length l.bits.items
