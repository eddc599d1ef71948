-- The availabilityStatus of a log without logFull fits where it did, and is no longer.
use Rattle.std.proofs.Common.{◌≡◌, ℕ, ◌+◌, ◌≤◌, Bool, true, false, List, [], ◌∷◌, refl, arith}
use Rattle.std.proofs.Common.{length, length-append}
use Rattle.std.specs.Prelude.{if◌then◌else◌}
use Rattle.term_values.specs.Fits.{AllFit, Fits}
use Rattle.term_values.specs.Rearranged.{IsRising, joined, may_precede}
use Rattle.term_values.specs.Syntaxes.{TypeSyntax}
use Rattle.term_values.specs.Syntaxes.TypeSyntax.{SetOf}
use Rattle.term_values.specs.TreeTags.{due}
use Rattle.term_values.specs.Typed.{TypedValue, TypedValues}
use Rattle.term_values.specs.Typed.TypedValue.{Many}
use Rattle.term_values.specs.Typed.TypedValues.{Nothing, Then}
use Rattle.term_values.specs.UniversalTags.{set}
use Rattle.term_values.specs.ValueContents.{member_encodings}
use Rattle.term_values.specs.Written.{der}
use Rattle.term_values.proofs.RisingLaws.{may_precede_through}
use Rattle.std.specs.Prelude.{None}
use Rattle.term_model.specs.CreateValues.{is_log_full, not_full, without_full}
use Rattle.opening_laws.proofs.EncodingLengths.{contents_within, encoded_short}

-- ---- members that are left

left_fit : (P : TypedValue → Type 0) (xs : TypedValues) → AllFit P xs → AllFit P (without_full xs)
left_fit P Nothing all = tt
left_fit P (Then x xs) all = either (is_log_full x) (left_fit P xs all.1)
  where
    either : (b : Bool) → AllFit P (without_full xs)
        → AllFit P (if b then without_full xs else Then x (without_full xs))
    either true later = later
    either false later = (all.0, later)

second_left : (e f : List ℕ) (xs : List (List ℕ)) → may_precede e f ≡ true → IsRising (f ∷ xs) → IsRising (e ∷ xs)
second_left e f [] h r = tt
second_left e f (g ∷ gs) h r = (may_precede_through e f g h r.0, r.1)

front_kept : (encoding : TypedValue → List ℕ) (e : List ℕ) (xs : TypedValues)
    → IsRising (e ∷ member_encodings encoding xs) → IsRising (e ∷ member_encodings encoding (without_full xs))
front_kept encoding e Nothing r = tt
front_kept encoding e (Then x xs) r =
    either (is_log_full x)
    (front_kept encoding e xs (second_left e (encoding x) (member_encodings encoding xs) r.0 r.1))
    (front_kept encoding (encoding x) xs r.1)
  where
    either : (b : Bool) → IsRising (e ∷ member_encodings encoding (without_full xs))
        → IsRising (encoding x ∷ member_encodings encoding (without_full xs))
        → IsRising (e ∷ member_encodings encoding (if b then without_full xs else Then x (without_full xs)))
    either true without with_it = without
    either false without with_it = (r.0, with_it)

behind_rises : (e : List ℕ) (xs : List (List ℕ)) → IsRising (e ∷ xs) → IsRising xs
behind_rises e [] r = tt
behind_rises e (x ∷ xs) r = r.1

left_rise : (encoding : TypedValue → List ℕ) (xs : TypedValues) → IsRising (member_encodings encoding xs)
    → IsRising (member_encodings encoding (without_full xs))
left_rise encoding Nothing r = tt
left_rise encoding (Then x xs) r =
    either (is_log_full x) (left_rise encoding xs (behind_rises (encoding x) (member_encodings encoding xs) r))
    (front_kept encoding (encoding x) xs r)
  where
    either : (b : Bool) → IsRising (member_encodings encoding (without_full xs))
        → IsRising (encoding x ∷ member_encodings encoding (without_full xs))
        → IsRising (member_encodings encoding (if b then without_full xs else Then x (without_full xs)))
    either true without with_it = without
    either false without with_it = with_it

left_short : (encoding : TypedValue → List ℕ) (xs : TypedValues)
    → length (joined (member_encodings encoding (without_full xs))) ≤ length (joined (member_encodings encoding xs))
left_short encoding Nothing = omega arith
left_short encoding (Then x xs) = either (is_log_full x) (left_short encoding xs)
  where
    whole : length (joined (member_encodings encoding (Then x xs)))
        ≡ length (encoding x) + length (joined (member_encodings encoding xs))
    whole = length-append (encoding x) (joined (member_encodings encoding xs))

    either : (b : Bool)
        → length (joined (member_encodings encoding (without_full xs)))
        ≤ length (joined (member_encodings encoding xs))
        → length (joined (member_encodings encoding (if b then without_full xs else Then x (without_full xs))))
        ≤ length (joined (member_encodings encoding (Then x xs)))
    either true later = omega (arith, later, whole)
    either false later =
        let also = length-append (encoding x) (joined (member_encodings encoding (without_full xs))) in
        omega (arith, later, whole, also)

-- ---- the value

pub not_full_fits : (member : TypeSyntax) (value : TypedValue) → Fits (SetOf member []) value
    → Fits (SetOf member []) (not_full value)
not_full_fits member (Many values) fits =
    (left_fit (Fits member) values fits.0, refl, left_rise (der member) values fits.2)
not_full_fits member _ fits = absurd fits

pub not_full_short : (member : TypeSyntax) (value : TypedValue) → Fits (SetOf member []) value
    → length (der (SetOf member []) (not_full value)) ≤ 15 + length (der (SetOf member []) value)
not_full_short member (Many values) fits =
    let left = joined (member_encodings (der member) (without_full values)) in
    let all = joined (member_encodings (der member) values) in
    let header = encoded_short true (due None set) left in
    let fewer = left_short (der member) values in
    let within = contents_within true (due None set) all in
    omega (arith, header, fewer, within)
not_full_short member _ fits = absurd fits
