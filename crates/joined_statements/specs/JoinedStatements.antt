-- JoinedStatements: what is joined of an attribute with a further statement: operations and types by union, defaults and
-- initial values as HeldValues tells (X.722, section 8.4; docs/PROFILE.md, section 18).
use Rattle.std.specs.Prelude.{◌≡◌, ℕ, List, ◌||◌, ◌==◌, Option, None, Some, if◌then◌else◌}
use Rattle.std.specs.BTreeMap.{BTreeMap, get}
use Rattle.std.specs.BTreeSet.{contains}
use Rattle.std.specs.Ordering.{nat_cmp}
use Rattle.term_values.specs.Typed.{TypedValue}
use Rattle.joined_statements.specs.declared.held.Held.{Held}
use Rattle.joined_statements.specs.declared.joined.Joined.{Joined}
use Rattle.joined_statements.specs.declared.joined.Joining.{Joining}
use Rattle.joined_statements.specs.declared.joined.Joining.TheVariants.{Beside, Inherited, Own}
use Rattle.joined_statements.specs.HeldValues.{both, handed_on, hiding}

abbrev pub Values : Type 0
Values = List (Option TypedValue)

-- what is held once a further one is joined
abbrev pub join_held : Values → Joining → Held → Held → Held
join_held values Beside before other = both values before other
join_held values Inherited before other = both values before (handed_on other)
join_held values Own before other = hiding other before

-- what is held of the first one
abbrev pub first_held : Joining → Held → Held
first_held Inherited other = handed_on other
first_held _ other = other

-- what is stated of an attribute of which nothing was stated before
pub record IsCopy (how : Joining) (other after : Joined) : Type 0 where
  pub get_ : after.get ≡ other.get
  pub replace_ : after.replace ≡ other.replace
  pub add_ : after.add ≡ other.add
  pub remove_ : after.remove ≡ other.remove
  pub set_to_default_ : after.set_to_default ≡ other.set_to_default
  pub default_ : after.default ≡ first_held how other.default
  pub initial_ : after.initial ≡ first_held how other.initial
  pub permitted_ : (q : ℕ) → contains nat_cmp after.permitted q ≡ contains nat_cmp other.permitted q
  pub required_ : (q : ℕ) → contains nat_cmp after.required q ≡ contains nat_cmp other.required q

-- what was stated, and a further statement
pub record IsJoinedTo (values : Values) (how : Joining) (before other after : Joined) : Type 0 where
  pub get_ : after.get ≡ (before.get || other.get)
  pub replace_ : after.replace ≡ (before.replace || other.replace)
  pub add_ : after.add ≡ (before.add || other.add)
  pub remove_ : after.remove ≡ (before.remove || other.remove)
  pub set_to_default_ : after.set_to_default ≡ (before.set_to_default || other.set_to_default)
  pub default_ : after.default ≡ join_held values how before.default other.default
  pub initial_ : after.initial ≡ join_held values how before.initial other.initial
  pub permitted_ : (q : ℕ) → contains nat_cmp after.permitted q
      ≡ (contains nat_cmp before.permitted q || contains nat_cmp other.permitted q)
  pub required_ : (q : ℕ) → contains nat_cmp after.required q
      ≡ (contains nat_cmp before.required q || contains nat_cmp other.required q)

abbrev pub IsJoined : Values → Joining → Option Joined → Joined → Joined → Type 0
IsJoined values how None other after = IsCopy how other after
IsJoined values how (Some before) other after = IsJoinedTo values how before other after

abbrev pub Attributes : Type 0
Attributes = BTreeMap ℕ Joined

-- a further statement of the attribute is joined, and what is stated of the others stays
pub record IsJoinedAt (values : Values) (how : Joining) (before : Attributes) (attribute : ℕ) (other : Joined)
    (after : Attributes) : Type 0 where
  pub joined : Joined
  pub is_joined : IsJoined values how (get nat_cmp before attribute) other joined
  pub told : (q : ℕ) → get nat_cmp after q ≡ (if q == attribute then Some joined else get nat_cmp before q)

-- what is stated of an attribute in one table is joined to what is stated of it in another one
abbrev pub IsJoinedOf : Values → Joining → Option Joined → Option Joined → Option Joined → Type 0
IsJoinedOf values how before None after = after ≡ before
IsJoinedOf values how before (Some other) None = ⊥
IsJoinedOf values how before (Some other) (Some after) = IsJoined values how before other after

abbrev pub AreJoined : Values → Joining → Attributes → Attributes → Attributes → Type 0
AreJoined values how before others after = (q : ℕ)
    → IsJoinedOf values how (get nat_cmp before q) (get nat_cmp others q) (get nat_cmp after q)
