-- SameTables: tables that say the same of each attribute, up to which of equal values is told (X.722, section 8.4;
-- docs/PROFILE.md, section 18).
use Rattle.std.specs.Prelude.{◌≡◌, ℕ, Bool, true, false, Option, None, Some}
use Rattle.std.specs.BTreeMap.{get}
use Rattle.std.specs.Ordering.{nat_cmp}
use Rattle.joined_statements.specs.HeldValues.{are_same}
use Rattle.joined_statements.specs.JoinedStatements.{Attributes, Values}
use Rattle.joined_statements.specs.declared.held.Held.{Held}
use Rattle.joined_statements.specs.declared.held.Held.TheVariants.{Nothing, NoValue, One, Unequal}
use Rattle.joined_statements.specs.declared.joined.Joined.{Joined}
use Rattle.joined_properties.specs.ClassProperties.{Property, has}

-- one says what the other says
abbrev pub are_alike : Values → Held → Held → Bool
are_alike values Nothing Nothing = true
are_alike values NoValue NoValue = true
are_alike values (One number) (One other) = are_same values number other
are_alike values Unequal Unequal = true
are_alike values one other = false

pub record IsSame (values : Values) (one other : Joined) : Type 0 where
  pub properties : (property : Property) → has property one ≡ has property other
  pub default_ : are_alike values one.default other.default ≡ true
  pub initial_ : are_alike values one.initial other.initial ≡ true

-- what the one has, the other has too
abbrev pub IsKept : Values → Option Joined → Option Joined → Type 0
IsKept values None other = Unit {0}
IsKept values (Some one) None = ⊥
IsKept values (Some one) (Some other) = IsSame values one other

abbrev pub AreKept : Values → Attributes → Attributes → Type 0
AreKept values one other = (q : ℕ) → IsKept values (get nat_cmp one q) (get nat_cmp other q)

abbrev pub AreSameTables : Values → Attributes → Attributes → Type 0
AreSameTables values one other = AreKept values one other × AreKept values other one
