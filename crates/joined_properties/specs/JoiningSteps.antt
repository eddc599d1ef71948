-- JoiningSteps: one step of joining the properties of classes, and many steps (X.722, sections 5.2 and 8.4;
-- docs/PROFILE.md, section 18).
use Rattle.std.specs.Prelude.{◌≡◌, ◌≢◌, ◌++◌, ◌∷◌, [], ◌||◌, ℕ, List, length, Bool, false, Option, None, Some}
use Rattle.std.specs.Prelude.{slice_get}
use Rattle.std.specs.BTreeMap.{get}
use Rattle.std.specs.Ordering.{nat_cmp}
use Rattle.joined_statements.specs.JoinedStatements.{Attributes, IsJoinedOf, Values}
use Rattle.joined_statements.specs.declared.joined.Joined.{Joined}
use Rattle.joined_statements.specs.declared.joined.Joining.TheVariants.{Beside, Inherited, Own}
use Rattle.linked_parts.specs.declared.linked.LinkedClass.{LinkedClass}
use Rattle.joined_properties.specs.OwnStatements.{Stated}
use Rattle.joined_properties.specs.SameTables.{AreSameTables}
use Rattle.joined_properties.specs.StatementChains.{IsChain, own_statements, said_by, said_in}

-- what a class has of an attribute, from what its superclasses have so far
pub record IsNextOf (values : Values) (stated : Stated) (of_class : LinkedClass) (known : List Attributes)
    (attribute : ℕ) (after : Option Joined) : Type 0 where
  pub own : Option Joined
  pub inherited : Option Joined
  pub own_is : IsChain values Beside (said_by attribute) None (own_statements stated of_class) own
  pub inherited_is : IsChain values Inherited (said_in known attribute) None of_class.superclasses.items inherited
  pub is_joined : IsJoinedOf values Own inherited own after

abbrev pub IsNext : Values → Stated → LinkedClass → List Attributes → Attributes → Type 0
IsNext values stated of_class known after =
    (attribute : ℕ) → IsNextOf values stated of_class known attribute (get nat_cmp after attribute)

-- a table is put in its place, where there is one, and says what the former one said unless there is a change
pub record IsPut (values : Values) (place : ℕ) (table : Attributes) (before after : List Attributes) (changed : Bool)
    : Type 0 where
  pub size : length after ≡ length before
  pub others : (k : ℕ) → k ≢ place → slice_get after k ≡ slice_get before k
  pub here : (was : Attributes) → slice_get before place ≡ Some was →
      (slice_get after place ≡ Some table) × (changed ≡ false → AreSameTables values was table)

-- a class has its next table, which says what the former one said unless there is a change
pub record IsReplaced (values : Values) (stated : Stated) (of_class : LinkedClass) (known : List Attributes)
    (before : Attributes) (after : Option Attributes) (changed : Bool) : Type 0 where
  pub table : Attributes
  pub is : after ≡ Some table
  pub next : IsNext values stated of_class known table
  pub same : changed ≡ false → AreSameTables values before table

-- the properties of the class at a place are joined once more
pub record IsStep (values : Values) (classes : List LinkedClass) (stated : Stated) (place : ℕ)
    (before after : List Attributes) (changed : Bool) : Type 0 where
  pub size : length after ≡ length before
  pub others : (k : ℕ) → k ≢ place → slice_get after k ≡ slice_get before k
  pub replaced : (of_class : LinkedClass) (table : Attributes) → slice_get classes place ≡ Some of_class →
      slice_get before place ≡ Some table →
      IsReplaced values stated of_class before table (slice_get after place) changed

-- the properties of the classes at many places are joined once more, one after the other
pub data IsPass (values : Values) (classes : List LinkedClass) (stated : Stated) (before : List Attributes) :
    List ℕ → List Attributes → Bool → Type 0 where
  begin : IsPass values classes stated before [] before false
  onward : {places : List ℕ} {now after : List Attributes} {changed anew : Bool} (place : ℕ) →
      IsPass values classes stated before places now changed → IsStep values classes stated place now after anew →
      IsPass values classes stated before (places ++ place ∷ []) after (changed || anew)

-- the properties of all classes are joined once more, in this order, and again and again
pub data ArePasses (values : Values) (classes : List LinkedClass) (stated : Stated) (order : List ℕ)
    (before : List Attributes) : List Attributes → Type 0 where
  begin : ArePasses values classes stated order before before
  onward : {now after : List Attributes} (changed : Bool) → ArePasses values classes stated order before now →
      IsPass values classes stated now order after changed → ArePasses values classes stated order before after

-- many times, the last of which changed nothing
pub record AreJoinedAgain (values : Values) (classes : List LinkedClass) (stated : Stated) (order : List ℕ)
    (before after : List Attributes) : Type 0 where
  pub now : List Attributes
  pub passes : ArePasses values classes stated order before now
  pub last : IsPass values classes stated now order after false

-- nothing is joined of any class yet
pub record AreNone (classes : List LinkedClass) (known : List Attributes) : Type 0 where
  pub size : length known ≡ length classes
  pub none_ : (k : ℕ) (table : Attributes) → slice_get known k ≡ Some table → table.entries ≡ []
