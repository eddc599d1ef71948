-- PartTypes: the types of attributes, actions and notifications, by their places in a table of types (X.722, sections
-- 8.7, 8.10 and 8.11).
use Rattle.std.specs.Prelude.{◌≡◌, ℕ, List, Option, None, Some, length, slice_get}
use Rattle.asn1_names.specs.ModuleTerms.{ModuleTerm}
use Rattle.linked_parts.specs.declared.linked.Linked.{Linked}
use Rattle.linked_parts.specs.declared.linked.LinkedAction.{LinkedAction}
use Rattle.linked_parts.specs.declared.linked.LinkedName.{LinkedName}
use Rattle.linked_parts.specs.declared.linked.LinkedNotification.{LinkedNotification}
use Rattle.linked_types.specs.AttributeRules.{AreAttributeRules}
use Rattle.linked_types.specs.AttributeTypes.{AreAttributeTypes}
use Rattle.linked_types.specs.TypeTables.{IsTypeAt}
use Rattle.linked_types.specs.declared.derived_attributes.DerivedAttributes.{DerivedAttributes}
use Rattle.linked_types.specs.declared.member_types.LinkedTypes.{LinkedTypes}
use Rattle.linked_types.specs.declared.member_types.MemberTypes.{MemberTypes}
use Rattle.linked_types.specs.declared.type_table.TypeTable.{TypeTable}

-- the place of the type of a name, exactly where the name stands
abbrev pub TellsOptionalType : List ModuleTerm → Linked → TypeTable → Option LinkedName → Option ℕ → Type 0
TellsOptionalType ms linked table None None = Unit {0}
TellsOptionalType ms linked table (Some name) (Some place) = IsTypeAt ms linked name.meaning table place
TellsOptionalType ms linked table _ _ = ⊥

-- the types behind WITH INFORMATION SYNTAX and WITH REPLY SYNTAX
pub record TellsMember (ms : List ModuleTerm) (linked : Linked) (table : TypeTable)
    (information reply : Option LinkedName) (types : MemberTypes) : Type 0 where
  pub of_information : TellsOptionalType ms linked table information types.information
  pub of_reply : TellsOptionalType ms linked table reply types.reply

abbrev pub TellsAction : List ModuleTerm → Linked → TypeTable → LinkedAction → MemberTypes → Type 0
TellsAction ms linked table x types = TellsMember ms linked table x.information x.reply types

abbrev pub TellsNotification : List ModuleTerm → Linked → TypeTable → LinkedNotification → MemberTypes → Type 0
TellsNotification ms linked table x types = TellsMember ms linked table x.information x.reply types

-- for each element of a list there is one that is told of it
pub record AreTold {X Y : Type 0} (Tells : X → Y → Type 0) (xs : List X) (ys : List Y) : Type 0 where
  pub size : length ys ≡ length xs
  pub told : (k : ℕ) (x : X) (y : Y) → slice_get xs k ≡ Some x → slice_get ys k ≡ Some y → Tells x y

-- the types and the rules of attributes
pub record AreDerivedAttributes (ms : List ModuleTerm) (linked : Linked) (table : TypeTable)
    (derived : DerivedAttributes) : Type 0 where
  pub types_are : AreAttributeTypes ms linked table derived.types.items
  pub rules_are : AreAttributeRules linked derived.rules.items

-- the types of all three
pub record AreLinkedTypes (ms : List ModuleTerm) (linked : Linked) (table : TypeTable) (types : LinkedTypes)
    : Type 0 where
  pub of_attributes : AreDerivedAttributes ms linked table types.attributes
  pub of_actions : AreTold (TellsAction ms linked table) linked.actions.items types.actions.items
  pub of_notifications :
      AreTold (TellsNotification ms linked table) linked.notifications.items types.notifications.items
