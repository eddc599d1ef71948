-- Values that the test of equality takes for equal are equal.
use Rattle.std.proofs.Common.{◌≡◌, true, false, refl, ap, ℕ, ◌==◌, List, [], ◌∷◌}
use Rattle.std.specs.Ordering.{int_eq}
use Rattle.std.specs.Prelude.{ℤ}
use Rattle.std.proofs.lemmas.Bool.Decides.{Decides-int_eq}
use Rattle.std.proofs.lemmas.Bool.{and_parts, eqb-true, false≢true}
use Rattle.term_values.specs.SameValue.{same_value, same_slots, same_values, same_octets}
use Rattle.term_values.specs.Typed.{TypedValue, TypedSlots, TypedValues}
use Rattle.term_values.specs.Typed.TypedValue.{Truth, Int, Bits, Octets, Null, Identifier, Text, Time, Parts, Many}
use Rattle.term_values.specs.Typed.TypedValue.{Pick, Raw}
use Rattle.term_values.specs.Typed.TypedSlots.{NoSlots, Filled, Empty}
use Rattle.term_values.specs.Typed.TypedValues.{Nothing, Then}

int_is : (n m : ℤ) → int_eq n m ≡ true → n ≡ m
int_is n m e = (Decides-int_eq n m).0 e

octets_is : (xs ys : List ℕ) → same_octets xs ys ≡ true → xs ≡ ys
octets_is [] [] e = refl
octets_is [] (y ∷ ys) e = absurd (cc)
octets_is (x ∷ xs) [] e = absurd (cc)
octets_is (x ∷ xs) (y ∷ ys) e =
    let p = and_parts (x == y) (same_octets xs ys) e in
    let a = eqb-true x y p.0 in
    let b = octets_is xs ys p.1 in
    λ i. a i ∷ b i

mutual
  pub same_is : (v w : TypedValue) → same_value v w ≡ true → v ≡ w
  same_is (Truth true) (Truth true) e = refl
  same_is (Truth true) (Truth false) e = absurd (false≢true e)
  same_is (Truth false) (Truth true) e = absurd (false≢true e)
  same_is (Truth false) (Truth false) e = refl
  same_is (Int n) (Int m) e = ap Int (int_is n m e)
  same_is (Bits xs n) (Bits ys m) e =
      let p = and_parts (n == m) (same_octets xs ys) e in
      let a = octets_is xs ys p.1 in
      let b = eqb-true n m p.0 in
      λ i. Bits (a i) (b i)
  same_is (Octets xs) (Octets ys) e = ap Octets (octets_is xs ys e)
  same_is Null Null e = refl
  same_is (Identifier xs) (Identifier ys) e = ap Identifier (octets_is xs ys e)
  same_is (Text xs) (Text ys) e = ap Text (octets_is xs ys e)
  same_is (Time xs) (Time ys) e = ap Time (octets_is xs ys e)
  same_is (Parts xs) (Parts ys) e = ap Parts (same_slots_is xs ys e)
  same_is (Many xs) (Many ys) e = ap Many (same_values_is xs ys e)
  same_is (Pick n x) (Pick m y) e =
      let p = and_parts (n == m) (same_value x y) e in
      let a = eqb-true n m p.0 in
      let b = same_is x y p.1 in
      λ i. Pick (a i) (b i)
  same_is (Raw xs) (Raw ys) e = ap Raw (octets_is xs ys e)
  same_is _ _ e = absurd (false≢true e)

  same_slots_is : (v w : TypedSlots) → same_slots v w ≡ true → v ≡ w
  same_slots_is NoSlots NoSlots e = refl
  same_slots_is (Filled x xs) (Filled y ys) e =
      let p = and_parts (same_value x y) (same_slots xs ys) e in
      let a = same_is x y p.0 in
      let b = same_slots_is xs ys p.1 in
      λ i. Filled (a i) (b i)
  same_slots_is (Empty xs) (Empty ys) e = ap Empty (same_slots_is xs ys e)
  same_slots_is _ _ e = absurd (false≢true e)

  same_values_is : (v w : TypedValues) → same_values v w ≡ true → v ≡ w
  same_values_is Nothing Nothing e = refl
  same_values_is (Then x xs) (Then y ys) e =
      let p = and_parts (same_value x y) (same_values xs ys) e in
      let a = same_is x y p.0 in
      let b = same_values_is xs ys p.1 in
      λ i. Then (a i) (b i)
  same_values_is _ _ e = absurd (false≢true e)
