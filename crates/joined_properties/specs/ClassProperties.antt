-- ClassProperties: the properties of an attribute in a class, over all that its packages and the classes from which it
-- derives state (X.722, sections 5.2 and 8.4; docs/PROFILE.md, section 18).
use Rattle.std.specs.Prelude.{◌≡◌, ◌↔◌, ℕ, List, length, Bool, true, Option, None, Some, slice_get}
use Rattle.std.specs.BTreeMap.{get}
use Rattle.std.specs.BTreeSet.{contains}
use Rattle.std.specs.Ordering.{nat_cmp}
use Rattle.joined_statements.specs.JoinedStatements.{Attributes, Values}
use Rattle.joined_statements.specs.declared.joined.Joined.{Joined}
use Rattle.linked_parts.specs.declared.linked.LinkedClass.{LinkedClass}
use Rattle.joined_properties.specs.HeldNumbers.{HoldsNumber}
use Rattle.joined_properties.specs.NumberSummaries.{IsSummary}
use Rattle.joined_properties.specs.OwnStatements.{Stated}
use Rattle.joined_properties.specs.ReachedStatements.{HasSuch}

-- a property that statements of an attribute add
pub data Property : Type 0 where
  Get : Property
  Replace : Property
  Add : Property
  Remove : Property
  SetToDefault : Property
  -- the type at this place is one of PERMITTED VALUES
  Permitted : ℕ → Property
  -- the type at this place is one of REQUIRED VALUES
  Required : ℕ → Property

abbrev pub has : Property → Joined → Bool
has Get joined = joined.get
has Replace joined = joined.replace
has Add joined = joined.add
has Remove joined = joined.remove
has SetToDefault joined = joined.set_to_default
has (Permitted place) joined = contains nat_cmp joined.permitted place
has (Required place) joined = contains nat_cmp joined.required place

-- this is what the class at k has of an attribute
pub record IsJoinedOver (values : Values) (classes : List LinkedClass) (stated : Stated) (k attribute : ℕ)
    (joined : Joined) : Type 0 where
  pub is_stated : HasSuch classes stated k attribute (λ other. Unit {0})
  pub properties : (property : Property) →
      (has property joined ≡ true) ↔ HasSuch classes stated k attribute (λ other. has property other ≡ true)
  pub default_ : IsSummary values (HoldsNumber (λ other. other.default) attribute classes stated k) joined.default
  pub initial_ : IsSummary values (HoldsNumber (λ other. other.initial) attribute classes stated k) joined.initial

-- this is what the class at k has of an attribute, and nothing where it has no statement of it
abbrev pub AreProperties : Values → List LinkedClass → Stated → ℕ → ℕ → Option Joined → Type 0
AreProperties values classes stated k attribute None = ¬ HasSuch classes stated k attribute (λ other. Unit {0})
AreProperties values classes stated k attribute (Some joined) =
    IsJoinedOver values classes stated k attribute joined

-- these are the properties of each class
pub record ArePropertiesOfAll (values : Values) (classes : List LinkedClass) (stated : Stated)
    (known : List Attributes) : Type 0 where
  pub size : length known ≡ length classes
  pub each : (k : ℕ) (table : Attributes) → slice_get known k ≡ Some table → (attribute : ℕ) →
      AreProperties values classes stated k attribute (get nat_cmp table attribute)
