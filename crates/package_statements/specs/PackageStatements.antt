-- PackageStatements: what packages state of attributes, as it is kept: types by their places in a table, values by the
-- numbers of their assignments (X.722, section 8.4; docs/PROFILE.md, section 18).
use Rattle.std.specs.Prelude.{◌≡◌, ◌↔◌, ℕ, List, true, false, Option, None, Some, is_some, slice_get}
use Rattle.std.specs.BTreeSet.{BTreeSet, contains}
use Rattle.std.specs.Global.{Vec}
use Rattle.std.specs.Ordering.{nat_cmp}
use Rattle.term_values.specs.Typed.{TypedValue}
use Rattle.asn1_names.specs.ModuleTerms.{ModuleTerm}
use Rattle.linked_parts.specs.declared.linked.Linked.{Linked}
use Rattle.linked_parts.specs.declared.linked.LinkedName.{LinkedName}
use Rattle.linked_parts.specs.declared.linked.LinkedPackage.{LinkedPackage}
use Rattle.linked_parts.specs.declared.linked.LinkedUse.{LinkedUse}
use Rattle.class_faults.specs.StatedProperties.{HasValue}
use Rattle.joined_statements.specs.JoinedStatements.{Values}
use Rattle.joined_statements.specs.declared.held.Held.{Held}
use Rattle.joined_statements.specs.declared.held.Held.TheVariants.{NoValue, Nothing, One}
use Rattle.joined_properties.specs.OwnStatements.{Stated}
use Rattle.joined_properties.specs.declared.statement.Statement.{Statement}
use Rattle.linked_types.specs.PartTypes.{AreTold}
use Rattle.linked_types.specs.TypeTables.{IsTypeAt}
use Rattle.linked_types.specs.declared.type_table.TypeTable.{TypeTable}

-- what is held of a default, or an initial value: nothing where no name stands, else the number of an assignment that
-- has the value of the name, or that the name has none
abbrev pub TellsHeld : List ModuleTerm → Linked → Values → Option LinkedName → Held → Type 0
TellsHeld ms linked values None Nothing = Unit {0}
TellsHeld ms linked values (Some name) (One number) =
    (value : TypedValue) × (slice_get values number ≡ Some (Some value)) × HasValue ms linked name value
TellsHeld ms linked values (Some name) NoValue = (value : TypedValue) → ¬ HasValue ms linked name value
TellsHeld ms linked values _ _ = ⊥

-- the places of types of which one may be named: none, or that of the type alone
abbrev pub TellsPlaces : List ModuleTerm → Linked → TypeTable → Option LinkedName → BTreeSet ℕ → Type 0
TellsPlaces ms linked table None places = (place : ℕ) → contains nat_cmp places place ≡ false
TellsPlaces ms linked table (Some name) places = (own : ℕ) × IsTypeAt ms linked name.meaning table own
    × ((place : ℕ) → (contains nat_cmp places place ≡ true) ↔ (place ≡ own))

-- a statement says what a package states of an attribute
pub record IsStatementOf (ms : List ModuleTerm) (linked : Linked) (table : TypeTable) (values : Values)
    (stated : LinkedUse) (statement : Statement) : Type 0 where
  pub attribute : statement.attribute ≡ stated.attribute
  pub gets : statement.joined.get ≡ stated.get
  pub replaces : statement.joined.replace ≡ stated.replace
  pub adds : statement.joined.add ≡ is_some stated.add
  pub removes : statement.joined.remove ≡ is_some stated.remove
  pub sets_default : statement.joined.set_to_default ≡ stated.set_to_default
  pub default_ : TellsHeld ms linked values stated.default_value statement.joined.default
  pub initial_ : TellsHeld ms linked values stated.initial_value statement.joined.initial
  pub permitted : TellsPlaces ms linked table stated.permitted statement.joined.permitted
  pub required : TellsPlaces ms linked table stated.required statement.joined.required

-- those of a package, one for each attribute that it lists
abbrev pub AreStatementsOf : List ModuleTerm → Linked → TypeTable → Values → LinkedPackage → Vec Statement → Type 0
AreStatementsOf ms linked table values part statements =
    AreTold (IsStatementOf ms linked table values) part.attributes.items statements.items

-- those of each package, by its place
abbrev pub AreStated : List ModuleTerm → Linked → TypeTable → Values → List LinkedPackage → Stated → Type 0
AreStated ms linked table values packages stated =
    AreTold (AreStatementsOf ms linked table values) packages stated
