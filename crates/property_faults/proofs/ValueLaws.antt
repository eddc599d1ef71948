-- ValueLaws: two numbers of assignments say the same exactly where the values that they have are equal (X.680,
-- section 3).
use Rattle.std.proofs.Common.{◌≡◌, ◌∙◌, ℕ, List, Option, Some, true, false, refl, sym, ap, ⊎_elim, eq-eqb}
use Rattle.std.specs.Prelude.{◌==◌, option_and_then, slice_get}
use Rattle.std.specs.Cmp.{signed_Decides}
use Rattle.std.proofs.lemmas.Bool.{and_from, eqb-true}
use Rattle.std.proofs.lemmas.Option.{same_Some}
use Rattle.std.proofs.lemmas.Slice.Eq.{bytes_eq-Decides}
use Rattle.term_values.specs.SameValue.{same_octets, same_slots, same_value, same_values}
use Rattle.term_values.specs.Typed.{TypedSlots, TypedValue, TypedValues}
use Rattle.term_values.specs.Typed.TypedValue.{Truth, Int, Bits, Octets, Null, Identifier, Text, Time, Parts, Many}
use Rattle.term_values.specs.Typed.TypedValue.{Pick, Raw}
use Rattle.term_values.specs.Typed.TypedSlots.{NoSlots, Filled, Empty}
use Rattle.term_values.specs.Typed.TypedValues.{Nothing, Then}
use Rattle.typed_laws.proofs.SameIs.{same_is}
use Rattle.joined_statements.specs.HeldValues.{are_equal, are_same, value_at}
use Rattle.joined_statements.specs.JoinedStatements.{Values}
use Rattle.joined_properties.proofs.FactLaws.{either, or_second}

-- ---- a value is equal to itself

octets_themselves : (xs : List ℕ) → same_octets xs xs ≡ true
octets_themselves xs = (bytes_eq-Decides xs xs).1 refl

mutual
  value_itself : (x : TypedValue) → same_value x x ≡ true
  value_itself (Truth true) = refl
  value_itself (Truth false) = refl
  value_itself (Int n) = (signed_Decides n n).1 refl
  value_itself (Bits xs n) = and_from _ _ (eq-eqb n n refl) (octets_themselves xs)
  value_itself (Octets xs) = octets_themselves xs
  value_itself Null = refl
  value_itself (Identifier xs) = octets_themselves xs
  value_itself (Text xs) = octets_themselves xs
  value_itself (Time xs) = octets_themselves xs
  value_itself (Parts xs) = slots_themselves xs
  value_itself (Many xs) = values_themselves xs
  value_itself (Pick n x) = and_from _ _ (eq-eqb n n refl) (value_itself x)
  value_itself (Raw xs) = octets_themselves xs

  slots_themselves : (xs : TypedSlots) → same_slots xs xs ≡ true
  slots_themselves NoSlots = refl
  slots_themselves (Filled x xs) = and_from _ _ (value_itself x) (slots_themselves xs)
  slots_themselves (Empty xs) = slots_themselves xs

  values_themselves : (xs : TypedValues) → same_values xs xs ≡ true
  values_themselves Nothing = refl
  values_themselves (Then x xs) = and_from _ _ (value_itself x) (values_themselves xs)

-- ---- numbers that have values

value_there : (values : Values) (n : ℕ) (v : TypedValue) → slice_get values n ≡ Some (Some v) →
    value_at values n ≡ Some v
value_there values n v at = ap (λ (o : Option (Option TypedValue)). option_and_then (λ value. value) o) at

values_compared : (values : Values) (n m : ℕ) (v w : TypedValue) → slice_get values n ≡ Some (Some v) →
    slice_get values m ≡ Some (Some w) → are_equal (value_at values n) (value_at values m) ≡ same_value v w
values_compared values n m v w at also =
    ap (λ o. are_equal o (value_at values m)) (value_there values n v at)
    ∙ ap (λ o. are_equal (Some v) o) (value_there values m w also)

pub equal_values : (values : Values) (n m : ℕ) (v w : TypedValue) → slice_get values n ≡ Some (Some v) →
    slice_get values m ≡ Some (Some w) → are_same values n m ≡ true → v ≡ w
equal_values values n m v w at also same =
    ⊎_elim
    (λ (e : (n == m) ≡ true). same_Some v w (same_Some (Some v) (Some w)
    (sym at ∙ ap (slice_get values) (eqb-true n m e) ∙ also)))
    (λ (e : are_equal (value_at values n) (value_at values m) ≡ true).
    same_is v w (sym (values_compared values n m v w at also) ∙ e))
    (either (n == m) (are_equal (value_at values n) (value_at values m)) same)

pub same_numbers : (values : Values) (n m : ℕ) (v w : TypedValue) → slice_get values n ≡ Some (Some v) →
    slice_get values m ≡ Some (Some w) → v ≡ w → are_same values n m ≡ true
same_numbers values n m v w at also e =
    or_second (n == m) (are_equal (value_at values n) (value_at values m))
    (values_compared values n m v w at also ∙ ap (same_value v) (sym e) ∙ value_itself v)
