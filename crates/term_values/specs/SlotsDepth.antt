-- No component has as many nodes as the list of components.
use Rattle.std.specs.Prelude.{◌≤◌, List, [], ◌∷◌}
use Rattle.std.proofs.Common.{arith}
use denote.Param.Weighed.{most}
use Rattle.term_values.specs.declared.value.Slot.{Slot}
use Rattle.term_values.specs.declared.value.Slot.TheVariants.{Absent, Present}
use Rattle.term_values.specs.declared.value.Slots.TheDeep.{deep-Slot}
use Rattle.term_values.specs.ValueSize.{nodes_slots}
use Rattle.term_values.specs.SlotsView.{slots_listed}

pub most_below_slots : (xs : List Slot) → most deep-Slot xs ≤ nodes_slots (slots_listed xs)
most_below_slots [] = omega arith
most_below_slots (Absent ∷ xs) = omega (arith, most_below_slots xs)
most_below_slots (Present x ∷ xs) = omega (arith, most_below_slots xs)
