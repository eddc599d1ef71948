-- How many values a value has, itself among them, and one more for each list.
use Rattle.std.specs.Prelude.{ℕ, ◌+◌}
use Rattle.term_values.specs.Typed.{TypedValue, TypedSlots, TypedValues}
use Rattle.term_values.specs.Typed.TypedValue.{Parts, Many, Pick}
use Rattle.term_values.specs.Typed.TypedSlots.{NoSlots, Filled, Empty}
use Rattle.term_values.specs.Typed.TypedValues.{Nothing, Then}

abbrev mutual
  pub nodes : TypedValue → ℕ
  nodes (Parts xs) = nodes_slots xs + 1
  nodes (Many xs) = nodes_values xs + 1
  nodes (Pick n x) = nodes x + 1
  nodes _ = 1

  pub nodes_slots : TypedSlots → ℕ
  nodes_slots NoSlots = 1
  nodes_slots (Filled x xs) = nodes x + 1 + nodes_slots xs
  nodes_slots (Empty xs) = 1 + nodes_slots xs

  pub nodes_values : TypedValues → ℕ
  nodes_values Nothing = 1
  nodes_values (Then x xs) = nodes x + 1 + nodes_values xs
