-- What is written of components, alternatives and members, one more or one less.
use Rattle.std.proofs.Common.{◌≡◌, ◌≤◌, ◌<◌, ◌+◌, min, ⊎_elim, ℕ, zero, suc, Bool, true, false, cond, List, [], ◌∷◌}
use Rattle.std.proofs.Common.{◌++◌, length, drop, get_or, Option, None, Some, refl, ap, sym, ◌∙◌, arith, append_assoc}
use Rattle.std.proofs.lemmas.Bool.{cases_lt}
use Rattle.term_values.proofs.LengthCounts.{both_count}
use Rattle.term_values.specs.Components.{is_default, slot_octets, slot_encodings}
use Rattle.term_values.specs.Lengths.{octet_count, counted}
use Rattle.term_values.specs.PartsView.{parts_listed}
use Rattle.term_values.specs.Rearranged.{joined}
use Rattle.term_values.specs.SlotsView.{slots_listed}
use Rattle.term_values.specs.Typed.{TypedValue}
use Rattle.term_values.specs.Typed.TypedSlots.{NoSlots}
use Rattle.term_values.specs.SameValue.{same_value}
use Rattle.term_values.specs.Written.{der_as, part_encodings, pick_encoding, unless_default}
use Rattle.term_values.specs.declared.syntax.Part.{Part}
use Rattle.term_values.specs.declared.value.Slot.{Slot}
use Rattle.term_values.specs.declared.value.Slot.TheVariants.{Absent, Present}

unless_is : (default : Option TypedValue) (value : TypedValue) (encoding : TypedValue → List ℕ) (others : List (List ℕ))
    → unless_default default value (encoding value) others ≡ slot_encodings default encoding (Present value) ++ others
unless_is None value encoding others = refl
unless_is (Some default) value encoding others = either (same_value value default)
  where
    either : (b : Bool) → cond b others (encoding value ∷ others) ≡ cond b [] (encoding value ∷ []) ++ others
    either true = refl
    either false = refl

-- one component and the others
pub one_encoded : (x : Part) (xs : List Part) (y : Slot) (ys : List Slot)
    → part_encodings (parts_listed (x ∷ xs)) (slots_listed (y ∷ ys))
    ≡ slot_encodings x.default (der_as None x.syntax) y ++ part_encodings (parts_listed xs) (slots_listed ys)
one_encoded x xs Absent ys = refl
one_encoded x xs (Present value) ys =
    unless_is x.default value (der_as None x.syntax) (part_encodings (parts_listed xs) (slots_listed ys))

joined_two : (xs ys : List (List ℕ)) → joined (xs ++ ys) ≡ joined xs ++ joined ys
joined_two [] ys = refl
joined_two (x ∷ xs) ys = ap (λ zs. x ++ zs) (joined_two xs ys) ∙ sym (append_assoc x (joined xs) (joined ys))

joined_slot : (default : Option TypedValue) (encoding : TypedValue → List ℕ) (y : Slot)
    → joined (slot_encodings default encoding y) ≡ slot_octets default encoding y
joined_slot default encoding Absent = refl
joined_slot default encoding (Present value) = either (is_default default value)
  where
    empty : (zs : List ℕ) → zs ++ [] ≡ zs
    empty [] = refl
    empty (z ∷ zs) = ap (λ ws. z ∷ ws) (empty zs)

    either : (b : Bool) → joined (cond b [] (encoding value ∷ [])) ≡ cond b [] (encoding value)
    either true = refl
    either false = empty (encoding value)

pub one_written : (x : Part) (xs : List Part) (y : Slot) (ys : List Slot)
    → joined (part_encodings (parts_listed (x ∷ xs)) (slots_listed (y ∷ ys)))
    ≡ slot_octets x.default (der_as None x.syntax) y ++ joined (part_encodings (parts_listed xs) (slots_listed ys))
one_written x xs y ys =
    ap joined (one_encoded x xs y ys)
    ∙ joined_two (slot_encodings x.default (der_as None x.syntax) y) (part_encodings (parts_listed xs)
    (slots_listed ys))
    ∙ ap (λ zs. zs ++ joined (part_encodings (parts_listed xs) (slots_listed ys))) (joined_slot x.default
    (der_as None x.syntax) y)

none_given : (xs : List Part) → part_encodings (parts_listed xs) NoSlots ≡ []
none_given [] = refl
none_given (x ∷ xs) = refl

-- behind the last component, or the last value of one, nothing is written
pub no_parts_left : (xs : List Part) (ys : List Slot) (i : ℕ) → length xs ≤ i
    → part_encodings (parts_listed (drop i xs)) (slots_listed (drop i ys)) ≡ []
no_parts_left [] ys zero h = refl
no_parts_left [] ys (suc i) h = refl
no_parts_left (x ∷ xs) ys zero h = absurd (omega arith)
no_parts_left (x ∷ xs) [] (suc i) h = none_given (drop (suc i) (x ∷ xs))
no_parts_left (x ∷ xs) (y ∷ ys) (suc i) h = no_parts_left xs ys i (omega arith)

pub no_slots_left : (xs : List Part) (ys : List Slot) (i : ℕ) → length ys ≤ i
    → part_encodings (parts_listed (drop i xs)) (slots_listed (drop i ys)) ≡ []
no_slots_left xs [] zero h = none_given xs
no_slots_left xs [] (suc i) h = none_given (drop (suc i) xs)
no_slots_left xs (y ∷ ys) zero h = absurd (omega arith)
no_slots_left [] (y ∷ ys) (suc i) h = refl
no_slots_left (x ∷ xs) (y ∷ ys) (suc i) h = no_slots_left xs ys i (omega arith)

-- the alternative at an index
pub pick_at : (xs : List Part) (k : ℕ) (d : Part) (value : TypedValue) → k < length xs
    → pick_encoding (parts_listed xs) k value ≡ der_as None (get_or xs k d).syntax value
pick_at [] k d value h = absurd (omega arith)
pick_at (x ∷ xs) zero d value h = refl
pick_at (x ∷ xs) (suc k) d value h = pick_at xs k d value (omega arith)

pub pick_past : (xs : List Part) (k : ℕ) (value : TypedValue) → length xs ≤ k
    → pick_encoding (parts_listed xs) k value ≡ []
pick_past [] k value h = refl
pick_past (x ∷ xs) zero value h = absurd (omega arith)
pick_past (x ∷ xs) (suc k) value h = pick_past xs k value (omega arith)

-- behind the last of the shorter list
pub all_passed : (xs : List Part) (ys : List Slot) (i : ℕ) → min (length xs) (length ys) ≤ i
    → part_encodings (parts_listed (drop i xs)) (slots_listed (drop i ys)) ≡ []
all_passed xs ys i h =
    ⊎_elim
    (λ (less : length xs < length ys). no_parts_left xs ys i (omega arith))
    (λ (more : length ys ≤ length xs). no_slots_left xs ys i (omega arith))
    (cases_lt (length xs) (length ys))

-- one component more stands in front
pub part_counts : (xs : List Part) (ys : List Slot) (j : ℕ) (x : Part) (y : Slot) (front back : ℕ)
    → drop j xs ≡ x ∷ drop (j + 1) xs → drop j ys ≡ y ∷ drop (j + 1) ys
    → front ≡ octet_count (slot_octets x.default (der_as None x.syntax) y)
    → back ≡ octet_count (joined (part_encodings (parts_listed (drop (j + 1) xs)) (slots_listed (drop (j + 1) ys))))
    → counted (front + back) ≡ octet_count (joined (part_encodings (parts_listed (drop j xs))
    (slots_listed (drop j ys))))
part_counts xs ys j x y front back e f a b =
    rw (e, f) (both_count (slot_octets x.default (der_as None x.syntax) y)
    (joined (part_encodings (parts_listed (drop (j + 1) xs)) (slots_listed (drop (j + 1) ys)))) front back a b
    ∙ ap octet_count (sym (one_written x (drop (j + 1) xs) y (drop (j + 1) ys))))
