-- Components, alternatives and members by their places: X.680, sections 24 to 29.
use Rattle.std.proofs.Common.{◌≡◌, ◌≢◌, ◌&&◌, ◌≤◌, ◌<◌, ℕ, zero, suc, Bool, true, false, List, [], ◌∷◌, length, get_or}
use Rattle.std.proofs.Common.{refl, ap, sym, arith}
use Rattle.ber_values.proofs.DecodingLaws.{count_listed}
use Rattle.term_values.specs.Bounded.{allowed_size}
use Rattle.term_values.specs.PartsView.{parts_listed}
use Rattle.term_values.specs.SlotsView.{slots_listed}
use Rattle.term_values.specs.Syntaxes.{Bounds}
use Rattle.term_values.specs.Typed.{TypedValue, listed}
use Rattle.term_values.specs.Typed.TypedValue.{Many}
use Rattle.term_values.specs.declared.syntax.Part.{Part}
use Rattle.term_values.specs.declared.value.Slot.{Slot}
use Rattle.term_values.specs.declared.value.Slot.TheVariants.{Absent, Present}
use Rattle.term_values.specs.FitTest.{value_fits, parts_fit, pick_fits, all_fit, list_fits, may_be_empty}

and_false : (b c : Bool) → c ≡ false → b && c ≡ false
and_false true c e = e
and_false false c e = refl

-- as many components as the type has
pub unequal_fit : (xs : List Part) (ys : List Slot) → length xs ≢ length ys
    → parts_fit (parts_listed xs) (slots_listed ys) ≡ false
unequal_fit [] [] h = absurd (h refl)
unequal_fit [] (Absent ∷ ys) h = refl
unequal_fit [] (Present y ∷ ys) h = refl
unequal_fit (x ∷ xs) [] h = refl
unequal_fit (x ∷ xs) (Absent ∷ ys) h =
    and_false (may_be_empty x.optional x.default) _ (unequal_fit xs ys (λ e. h (omega arith)))
unequal_fit (x ∷ xs) (Present y ∷ ys) h =
    and_false (value_fits x.syntax y) _ (unequal_fit xs ys (λ e. h (omega arith)))

pub pick_at : (xs : List Part) (k : ℕ) (x : Part) (value : TypedValue) → k < length xs → x ≡ get_or xs k x
    → pick_fits (parts_listed xs) k value ≡ value_fits x.syntax value
pick_at [] k x value h e = absurd (omega arith)
pick_at (y ∷ ys) zero x value h e = ap (λ (z : Part). value_fits z.syntax value) (sym e)
pick_at (y ∷ ys) (suc k) x value h e = pick_at ys k x value (omega arith) e

pub pick_past : (xs : List Part) (k : ℕ) (value : TypedValue) → length xs ≤ k
    → pick_fits (parts_listed xs) k value ≡ false
pick_past [] k value h = refl
pick_past (y ∷ ys) zero value h = absurd (omega arith)
pick_past (y ∷ ys) (suc k) value h = pick_past ys k value (omega arith)

-- the size of a list is that of its members
pub list_listed : (sizes : Bounds) (fits : TypedValue → Bool) (xs : List TypedValue)
    → list_fits sizes fits (Many (listed xs)) ≡ (allowed_size sizes (length xs) && all_fit fits (listed xs))
list_listed sizes fits xs = ap (λ n. allowed_size sizes n && all_fit fits (listed xs)) (count_listed xs)
