-- HeldValues: what is held of defaults, or of initial values, that are stated side by side, and of those that a class
-- states with those that it inherits: a value of its own hides the others (X.722, section 8.4; docs/PROFILE.md,
-- section 18).
use Rattle.std.specs.Prelude.{ℕ, List, Bool, false, ◌||◌, ◌==◌, Option, Some, option_and_then, slice_get}
use Rattle.std.specs.Prelude.{if◌then◌else◌}
use Rattle.term_values.specs.SameValue.{same_value}
use Rattle.term_values.specs.Typed.{TypedValue}
use Rattle.joined_statements.specs.declared.held.Held.{Held}
use Rattle.joined_statements.specs.declared.held.Held.TheVariants.{Nothing, NoValue, One, Unequal}

-- the value of the assignment with a number, where it has one
abbrev pub value_at : List (Option TypedValue) → ℕ → Option TypedValue
value_at values number = option_and_then (λ value. value) (slice_get values number)

-- both are there and equal
abbrev pub are_equal : Option TypedValue → Option TypedValue → Bool
are_equal (Some one) (Some other) = same_value one other
are_equal _ _ = false

-- two assignments are one, or have equal values
abbrev pub are_same : List (Option TypedValue) → ℕ → ℕ → Bool
are_same values one other = one == other || are_equal (value_at values one) (value_at values other)

-- what is held of two: a value whose text denotes none has no part in it
abbrev pub both : List (Option TypedValue) → Held → Held → Held
both values Nothing other = other
both values NoValue Nothing = NoValue
both values NoValue other = other
both values (One number) (One another) = if are_same values number another then One number else Unequal
both values (One number) Unequal = Unequal
both values (One number) _ = One number
both values Unequal other = Unequal

-- what a class hands on to those that derive from it
abbrev pub handed_on : Held → Held
handed_on NoValue = Nothing
handed_on held = held

-- what a class holds that states the one and inherits the other
abbrev pub hiding : Held → Held → Held
hiding Nothing inherited = inherited
hiding own inherited = own
