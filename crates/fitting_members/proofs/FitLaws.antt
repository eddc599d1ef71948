-- Whether rising members fit a SET OF, by their number and each of them.
use Rattle.std.proofs.Common.{◌≡◌, ◌&&◌, ℕ, Bool, true, false, List, [], ◌∷◌, length, map, refl, sym, ap, ◌∙◌}
use Rattle.std.proofs.lemmas.Bool.{false≢true}
use Rattle.term_values.specs.Bounded.{allowed_size}
use Rattle.term_values.specs.FitTest.{all_fit, list_fits, rise_from, set_fits, value_fits}
use Rattle.term_values.specs.Rearranged.{IsRising, may_precede}
use Rattle.term_values.specs.Syntaxes.{Bounds, TypeSyntax}
use Rattle.term_values.specs.Syntaxes.TypeSyntax.{SetOf}
use Rattle.term_values.specs.Typed.{TypedValue, listed}
use Rattle.term_values.specs.Typed.TypedValue.{Many}
use Rattle.term_values.specs.ValueContents.{member_encodings}
use Rattle.term_values.specs.Written.{der}
use Rattle.ber_values.proofs.DecodingLaws.{count_listed}
use Rattle.fitting_members.specs.MemberPlaces.{AreRising}
use Rattle.fitting_members.proofs.PlaceLaws.{encodings_listed}

pub both_true : (a b : Bool) → (a && b) ≡ true → (a ≡ true) × (b ≡ true)
both_true true b h = (refl, h)
both_true false b h = absurd (false≢true h)

rises_from : (x : List ℕ) (xs : List (List ℕ)) → IsRising (x ∷ xs) → rise_from x xs ≡ true
rises_from x [] r = refl
rises_from x (y ∷ ys) r = ap (λ b. b && rise_from y ys) r.0 ∙ rises_from y ys r.1

from_rises : (x : List ℕ) (xs : List (List ℕ)) → rise_from x xs ≡ true → IsRising (x ∷ xs)
from_rises x [] h = tt
from_rises x (y ∷ ys) h =
    let both = both_true (may_precede x y) (rise_from y ys) h in
    (both.0, from_rises y ys both.1)

pub none_first : (x : List ℕ) → may_precede [] x ≡ true
none_first [] = refl
none_first (n ∷ ns) = refl

pub all_rise : (xs : List (List ℕ)) → IsRising xs → rise_from [] xs ≡ true
all_rise [] r = refl
all_rise (x ∷ xs) r = ap (λ b. b && rise_from x xs) (none_first x) ∙ rises_from x xs r

pub rise_all : (xs : List (List ℕ)) → rise_from [] xs ≡ true → IsRising xs
rise_all [] h = tt
rise_all (x ∷ xs) h = from_rises x xs (both_true (may_precede [] x) (rise_from x xs) h).1

list_listed : (sizes : Bounds) (fits : TypedValue → Bool) (xs : List TypedValue)
    → list_fits sizes fits (Many (listed xs)) ≡ (allowed_size sizes (length xs) && all_fit fits (listed xs))
list_listed sizes fits xs = ap (λ n. allowed_size sizes n && all_fit fits (listed xs)) (count_listed xs)

pub set_told : (member : TypeSyntax) (sizes : Bounds) (items : List TypedValue) → AreRising (der member) items
    → value_fits (SetOf member sizes) (Many (listed items))
    ≡ (allowed_size sizes (length items) && all_fit (value_fits member) (listed items))
set_told member sizes items r =
    by (list_fits sizes (value_fits member) (Many (listed items))) ∙ list_listed sizes (value_fits member) items
  where
    rise : rise_from [] (member_encodings (der member) (listed items)) ≡ true
    rise = ap (rise_from []) (encodings_listed (der member) items) ∙ all_rise (map (der member) items) r

    by : (b : Bool) → set_fits (der member) b (Many (listed items)) ≡ b
    by true = rise
    by false = refl

pub rising_of : (member : TypeSyntax) (sizes : Bounds) (items : List TypedValue)
    → value_fits (SetOf member sizes) (Many (listed items)) ≡ true → AreRising (der member) items
rising_of member sizes items h = by (list_fits sizes (value_fits member) (Many (listed items))) h
  where
    by : (b : Bool) → set_fits (der member) b (Many (listed items)) ≡ true → AreRising (der member) items
    by true rise = rise_all (map (der member) items) (ap (rise_from []) (sym (encodings_listed (der member) items)) ∙ rise)
    by false rise = absurd (false≢true rise)

pub fit_of : (member : TypeSyntax) (sizes : Bounds) (items : List TypedValue)
    → value_fits (SetOf member sizes) (Many (listed items)) ≡ true
    → all_fit (value_fits member) (listed items) ≡ true
fit_of member sizes items h =
    (both_true (allowed_size sizes (length items)) (all_fit (value_fits member) (listed items))
    (sym (set_told member sizes items (rising_of member sizes items h)) ∙ h)).1
