-- Equality of values, as a test: X.680, section 3.
use Rattle.std.specs.Prelude.{ℕ, List, Bool, true, false, ◌==◌, ◌&&◌, not, if◌then◌else◌}
use Rattle.std.specs.Ordering.{int_eq}
use Rattle.std.specs.Cmp.Lexicographic.{pointwise}
use Rattle.term_values.specs.Typed.{TypedValue, TypedSlots, TypedValues}
use Rattle.term_values.specs.Typed.TypedValue.{Truth, Int, Bits, Octets, Null, Identifier, Text, Time, Parts, Many}
use Rattle.term_values.specs.Typed.TypedValue.{Pick, Raw}
use Rattle.term_values.specs.Typed.TypedSlots.{NoSlots, Filled, Empty}
use Rattle.term_values.specs.Typed.TypedValues.{Nothing, Then}

abbrev pub same_octets : List ℕ → List ℕ → Bool
same_octets xs ys = pointwise ◌==◌ xs ys

abbrev same_truth : Bool → Bool → Bool
same_truth a b = if a then b else not b

abbrev mutual
  pub same_value : TypedValue → TypedValue → Bool
  same_value (Truth a) (Truth b) = same_truth a b
  same_value (Int n) (Int m) = int_eq n m
  same_value (Bits xs n) (Bits ys m) = n == m && same_octets xs ys
  same_value (Octets xs) (Octets ys) = same_octets xs ys
  same_value Null Null = true
  same_value (Identifier xs) (Identifier ys) = same_octets xs ys
  same_value (Text xs) (Text ys) = same_octets xs ys
  same_value (Time xs) (Time ys) = same_octets xs ys
  same_value (Parts xs) (Parts ys) = same_slots xs ys
  same_value (Many xs) (Many ys) = same_values xs ys
  same_value (Pick n x) (Pick m y) = n == m && same_value x y
  same_value (Raw xs) (Raw ys) = same_octets xs ys
  same_value _ _ = false

  pub same_slots : TypedSlots → TypedSlots → Bool
  same_slots NoSlots NoSlots = true
  same_slots (Filled x xs) (Filled y ys) = same_value x y && same_slots xs ys
  same_slots (Empty xs) (Empty ys) = same_slots xs ys
  same_slots _ _ = false

  pub same_values : TypedValues → TypedValues → Bool
  same_values Nothing Nothing = true
  same_values (Then x xs) (Then y ys) = same_value x y && same_values xs ys
  same_values _ _ = false
