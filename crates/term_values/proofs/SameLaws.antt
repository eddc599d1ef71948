-- Equality of values, as a test, is equality; lists of unequal length are unequal.
use Rattle.std.proofs.Common.{◌≡◌, ◌≢◌, Bool, true, false, List, [], ◌∷◌, length, refl, arith}
use Rattle.std.specs.Prelude.{◌&&◌}
use Rattle.term_values.specs.SameValue.{same_value, same_slots, same_values}
use Rattle.term_values.specs.SlotsView.{slots_listed}
use Rattle.term_values.specs.Typed.{TypedValue, listed}
use Rattle.term_values.specs.declared.value.Slot.{Slot}
use Rattle.term_values.specs.declared.value.Slot.TheVariants.{Absent, Present}

and_false : (b c : Bool) → c ≡ false → b && c ≡ false
and_false true c e = e
and_false false c e = refl

pub unequal_slots : (xs ys : List Slot) → length xs ≢ length ys
    → same_slots (slots_listed xs) (slots_listed ys) ≡ false
unequal_slots [] [] h = absurd (h refl)
unequal_slots [] (Absent ∷ ys) h = refl
unequal_slots [] (Present y ∷ ys) h = refl
unequal_slots (Absent ∷ xs) [] h = refl
unequal_slots (Present x ∷ xs) [] h = refl
unequal_slots (Absent ∷ xs) (Absent ∷ ys) h = unequal_slots xs ys (λ e. h (omega arith))
unequal_slots (Absent ∷ xs) (Present y ∷ ys) h = refl
unequal_slots (Present x ∷ xs) (Absent ∷ ys) h = refl
unequal_slots (Present x ∷ xs) (Present y ∷ ys) h =
    and_false (same_value x y) _ (unequal_slots xs ys (λ e. h (omega arith)))

pub unequal_values : (xs ys : List TypedValue) → length xs ≢ length ys
    → same_values (listed xs) (listed ys) ≡ false
unequal_values [] [] h = absurd (h refl)
unequal_values [] (y ∷ ys) h = refl
unequal_values (x ∷ xs) [] h = refl
unequal_values (x ∷ xs) (y ∷ ys) h = and_false (same_value x y) _ (unequal_values xs ys (λ e. h (omega arith)))
