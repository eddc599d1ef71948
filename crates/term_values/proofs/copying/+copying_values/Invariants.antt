use Rattle.std.proofs.Common.{◌≡◌, take}
use Rattle.term_values.proofs.copying.+copying_values.Given as goal

abbrev pub invariant-copy_slots-loop-slot : goal.invariant-copy_slots-loop-slot
invariant-copy_slots-loop-slot l = l.items.items ≡ take l.slot-index l.slot-items

abbrev pub invariant-copy_values-loop-value : goal.invariant-copy_values-loop-value
invariant-copy_values-loop-value l = l.items.items ≡ take l.value-index l.value-items
