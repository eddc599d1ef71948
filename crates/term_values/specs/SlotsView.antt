-- How the components of a value of the program are seen.
use Rattle.std.specs.Prelude.{List, [], ◌∷◌}
use Rattle.term_values.specs.declared.value.Slot.{Slot}
use Rattle.term_values.specs.declared.value.Slot.TheVariants.{Absent, Present}
use Rattle.term_values.specs.Typed.{TypedSlots}
use Rattle.term_values.specs.Typed.TypedSlots.{NoSlots, Filled, Empty}

abbrev pub slots_listed : List Slot → TypedSlots
slots_listed [] = NoSlots
slots_listed (Absent ∷ xs) = Empty (slots_listed xs)
slots_listed (Present x ∷ xs) = Filled x (slots_listed xs)
