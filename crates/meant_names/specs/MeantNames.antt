-- MeantNames: in linked parts each attribute, and each type that is named, has a syntax, and each value that is named
-- is one: it isn't so that there is none (X.722, sections 8.4, 8.7, 8.10 and 8.11; X.680, section 17; docs/PROFILE.md,
-- sections 11 and 18).
use Rattle.std.specs.Prelude.{◌≡◌, ℕ, List, Option, Some, All, IfSome, slice_get}
use Rattle.term_values.specs.Syntaxes.{TypeSyntax}
use Rattle.term_values.specs.Typed.{TypedValue}
use Rattle.asn1_names.specs.ModuleTerms.{ModuleTerm}
use Rattle.denoted_types.specs.DenotedTypes.{NotNone}
use Rattle.linked_parts.specs.declared.linked.Linked.{Linked}
use Rattle.linked_parts.specs.declared.linked.LinkedAction.{LinkedAction}
use Rattle.linked_parts.specs.declared.linked.LinkedAttribute.{LinkedAttribute}
use Rattle.linked_parts.specs.declared.linked.LinkedName.{LinkedName}
use Rattle.linked_parts.specs.declared.linked.LinkedNotification.{LinkedNotification}
use Rattle.linked_parts.specs.declared.linked.LinkedPackage.{LinkedPackage}
use Rattle.linked_parts.specs.declared.linked.LinkedUse.{LinkedUse}
use Rattle.class_faults.specs.AttributeSyntaxes.{AttributeHas}
use Rattle.class_faults.specs.StatedProperties.{HasValue, TypeHas}

-- the type of a name has a syntax, and a name has a value
abbrev pub HasSyntax : List ModuleTerm → Linked → LinkedName → Type 0
HasSyntax ms linked name = NotNone (λ (syntax : TypeSyntax). TypeHas ms linked name syntax)

abbrev pub HasSomeValue : List ModuleTerm → Linked → LinkedName → Type 0
HasSomeValue ms linked name = NotNone (λ (value : TypedValue). HasValue ms linked name value)

pub record HaveSyntaxes (ms : List ModuleTerm) (linked : Linked) (information reply : Option LinkedName)
    : Type 0 where
  pub of_information : IfSome information (HasSyntax ms linked)
  pub of_reply : IfSome reply (HasSyntax ms linked)

pub record IsMeantUse (ms : List ModuleTerm) (linked : Linked) (stated : LinkedUse) : Type 0 where
  pub of_default : IfSome stated.default_value (HasSomeValue ms linked)
  pub of_initial : IfSome stated.initial_value (HasSomeValue ms linked)
  pub of_permitted : IfSome stated.permitted (HasSyntax ms linked)

pub record AreMeant (ms : List ModuleTerm) (linked : Linked) : Type 0 where
  pub of_attributes : (k : ℕ) (x : LinkedAttribute) → slice_get linked.attributes.items k ≡ Some x →
      NotNone (λ (syntax : TypeSyntax). AttributeHas ms linked k syntax)
  pub of_actions : All (λ (x : LinkedAction). HaveSyntaxes ms linked x.information x.reply) linked.actions.items
  pub of_notifications : All (λ (x : LinkedNotification). HaveSyntaxes ms linked x.information x.reply)
      linked.notifications.items
  pub of_packages : All (λ (part : LinkedPackage). All (IsMeantUse ms linked) part.attributes.items)
      linked.packages.items
