-- Equality of values, as a test, is equality.
use Rattle.std.proofs.Common.{◌≡◌, ℕ, true, false, List, refl, sym, ap, ◌∙◌}
use Rattle.std.proofs.lemmas.Bool.{and_parts, and_from, eqb-true, eq-eqb, false≢true}
use Rattle.std.proofs.lemmas.Slice.Eq.{bytes_eq-Decides}
use Rattle.std.specs.Cmp.{signed_Decides}
use Rattle.term_values.specs.SameValue.{same_octets, same_value, same_slots, same_values}
use Rattle.term_values.specs.Typed.{TypedValue, TypedSlots, TypedValues}
use Rattle.term_values.specs.Typed.TypedValue.{Truth, Int, Bits, Octets, Null, Identifier, Text, Time, Parts, Many}
use Rattle.term_values.specs.Typed.TypedValue.{Pick, Raw}
use Rattle.term_values.specs.Typed.TypedSlots.{NoSlots, Filled, Empty}
use Rattle.term_values.specs.Typed.TypedValues.{Nothing, Then}

octets_are : (xs ys : List ℕ) → same_octets xs ys ≡ true → xs ≡ ys
octets_are xs ys = (bytes_eq-Decides xs ys).0

octets_same : (xs : List ℕ) → same_octets xs xs ≡ true
octets_same xs = (bytes_eq-Decides xs xs).1 refl

mutual
  value_is : (x y : TypedValue) → same_value x y ≡ true → x ≡ y
  value_is (Truth true) (Truth true) e = refl
  value_is (Truth false) (Truth false) e = refl
  value_is (Int n) (Int m) e = ap Int ((signed_Decides n m).0 e)
  value_is (Bits xs n) (Bits ys m) e =
      let parts = and_parts _ _ e in
      let octets = octets_are xs ys parts.1 in
      let unused = eqb-true n m parts.0 in
      λ i. Bits (octets i) (unused i)
  value_is (Octets xs) (Octets ys) e = ap Octets (octets_are xs ys e)
  value_is Null Null e = refl
  value_is (Identifier xs) (Identifier ys) e = ap Identifier (octets_are xs ys e)
  value_is (Text xs) (Text ys) e = ap Text (octets_are xs ys e)
  value_is (Time xs) (Time ys) e = ap Time (octets_are xs ys e)
  value_is (Parts xs) (Parts ys) e = ap Parts (slots_are xs ys e)
  value_is (Many xs) (Many ys) e = ap Many (values_are xs ys e)
  value_is (Pick n x) (Pick m y) e =
      let parts = and_parts _ _ e in
      let index = eqb-true n m parts.0 in
      let picked = value_is x y parts.1 in
      λ i. Pick (index i) (picked i)
  value_is (Raw xs) (Raw ys) e = ap Raw (octets_are xs ys e)
  value_is _ _ e = absurd (false≢true e)

  slots_are : (xs ys : TypedSlots) → same_slots xs ys ≡ true → xs ≡ ys
  slots_are NoSlots NoSlots e = refl
  slots_are (Filled x xs) (Filled y ys) e =
      let parts = and_parts _ _ e in
      let first = value_is x y parts.0 in
      let others = slots_are xs ys parts.1 in
      λ i. Filled (first i) (others i)
  slots_are (Empty xs) (Empty ys) e = ap Empty (slots_are xs ys e)
  slots_are _ _ e = absurd (false≢true e)

  values_are : (xs ys : TypedValues) → same_values xs ys ≡ true → xs ≡ ys
  values_are Nothing Nothing e = refl
  values_are (Then x xs) (Then y ys) e =
      let parts = and_parts _ _ e in
      let first = value_is x y parts.0 in
      let others = values_are xs ys parts.1 in
      λ i. Then (first i) (others i)
  values_are _ _ e = absurd (false≢true e)

mutual
  value_same : (x : TypedValue) → same_value x x ≡ true
  value_same (Truth true) = refl
  value_same (Truth false) = refl
  value_same (Int n) = (signed_Decides n n).1 refl
  value_same (Bits xs n) = and_from _ _ (eq-eqb n n refl) (octets_same xs)
  value_same (Octets xs) = octets_same xs
  value_same Null = refl
  value_same (Identifier xs) = octets_same xs
  value_same (Text xs) = octets_same xs
  value_same (Time xs) = octets_same xs
  value_same (Parts xs) = slots_same xs
  value_same (Many xs) = values_same xs
  value_same (Pick n x) = and_from _ _ (eq-eqb n n refl) (value_same x)
  value_same (Raw xs) = octets_same xs

  slots_same : (xs : TypedSlots) → same_slots xs xs ≡ true
  slots_same NoSlots = refl
  slots_same (Filled x xs) = and_from _ _ (value_same x) (slots_same xs)
  slots_same (Empty xs) = slots_same xs

  values_same : (xs : TypedValues) → same_values xs xs ≡ true
  values_same Nothing = refl
  values_same (Then x xs) = and_from _ _ (value_same x) (values_same xs)

pub are_equal : (x y : TypedValue) → same_value x y ≡ true → x ≡ y
are_equal x y e = value_is x y e

pub equal_same : (x y : TypedValue) → x ≡ y → same_value x y ≡ true
equal_same x y e = ap (same_value x) (sym e) ∙ value_same x

pub not_equal : (x y : TypedValue) → same_value x y ≡ false → ¬ (x ≡ y)
not_equal x y e same = false≢true (sym e ∙ equal_same x y same)
