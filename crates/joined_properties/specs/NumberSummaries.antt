-- NumberSummaries: what is held says which of many values hold: none, one and those equal to it, or unequal ones
-- (X.722, section 8.4; docs/PROFILE.md, section 18).
use Rattle.std.specs.Prelude.{◌≡◌, ℕ, true, false}
use Rattle.joined_statements.specs.HeldValues.{are_same}
use Rattle.joined_statements.specs.JoinedStatements.{Values}
use Rattle.joined_statements.specs.declared.held.Held.{Held}
use Rattle.joined_statements.specs.declared.held.Held.TheVariants.{Nothing, NoValue, One, Unequal}

-- two numbers hold whose values are unequal
pub record HoldUnequal (values : Values) (Holds : ℕ → Type 0) : Type 0 where
  pub one : ℕ
  pub one_holds : Holds one
  pub other : ℕ
  pub other_holds : Holds other
  pub unequal : are_same values one other ≡ false

abbrev pub IsSummary : Values → (ℕ → Type 0) → Held → Type 0
IsSummary values Holds Nothing = (number : ℕ) → ¬ Holds number
IsSummary values Holds NoValue = (number : ℕ) → ¬ Holds number
IsSummary values Holds (One one) = Holds one × ((other : ℕ) → Holds other → are_same values one other ≡ true)
IsSummary values Holds Unequal = HoldUnequal values Holds
