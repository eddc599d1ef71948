-- Equality of components of the program, as a test.
use Rattle.std.specs.Prelude.{Bool, true, false}
use Rattle.term_values.specs.SameValue.{same_value}
use Rattle.term_values.specs.declared.value.Slot.{Slot}
use Rattle.term_values.specs.declared.value.Slot.TheVariants.{Absent, Present}

abbrev pub same_slot : Slot → Slot → Bool
same_slot Absent Absent = true
same_slot (Present x) (Present y) = same_value x y
same_slot _ _ = false
