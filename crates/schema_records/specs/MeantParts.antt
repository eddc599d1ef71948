-- MeantParts: what is asked of the names of types and of values in linked parts where records are made of them: each
-- attribute has a syntax, and the names of types and of values that a record has mean some (X.722, sections 8.4, 8.7,
-- 8.10 and 8.11; docs/PROFILE.md, section 18).
use Rattle.std.specs.Prelude.{◌≡◌, ℕ, List, Option, None, Some, All, slice_get}
use Rattle.term_values.specs.Syntaxes.{TypeSyntax}
use Rattle.term_values.specs.Typed.{TypedValue}
use Rattle.asn1_names.specs.ModuleTerms.{ModuleTerm}
use Rattle.linked_parts.specs.declared.linked.Linked.{Linked}
use Rattle.linked_parts.specs.declared.linked.LinkedAction.{LinkedAction}
use Rattle.linked_parts.specs.declared.linked.LinkedAttribute.{LinkedAttribute}
use Rattle.linked_parts.specs.declared.linked.LinkedName.{LinkedName}
use Rattle.linked_parts.specs.declared.linked.LinkedNotification.{LinkedNotification}
use Rattle.linked_parts.specs.declared.linked.LinkedPackage.{LinkedPackage}
use Rattle.linked_parts.specs.declared.linked.LinkedUse.{LinkedUse}
use Rattle.class_faults.specs.AttributeSyntaxes.{AttributeHas}
use Rattle.class_faults.specs.StatedProperties.{HasValue, TypeHas}

-- a name of a type means one, where it stands
abbrev pub MeansType : List ModuleTerm → Linked → Option LinkedName → Type 0
MeansType ms linked None = Unit {0}
MeansType ms linked (Some name) = (syntax : TypeSyntax) × TypeHas ms linked name syntax

-- a name of a value means one, where it stands
abbrev pub MeansValue : List ModuleTerm → Linked → Option LinkedName → Type 0
MeansValue ms linked None = Unit {0}
MeansValue ms linked (Some name) = (value : TypedValue) × HasValue ms linked name value

pub record MeanTypes (ms : List ModuleTerm) (linked : Linked) (information reply : Option LinkedName) : Type 0 where
  pub of_information : MeansType ms linked information
  pub of_reply : MeansType ms linked reply

-- each attribute has a syntax; each type of an action or of a notification, and each that permits values, has one
pub record HaveSyntaxes (ms : List ModuleTerm) (linked : Linked) : Type 0 where
  pub of_attributes : (k : ℕ) (x : LinkedAttribute) → slice_get linked.attributes.items k ≡ Some x →
      (syntax : TypeSyntax) × AttributeHas ms linked k syntax
  pub of_actions : All (λ (x : LinkedAction). MeanTypes ms linked x.information x.reply) linked.actions.items
  pub of_notifications : All (λ (x : LinkedNotification). MeanTypes ms linked x.information x.reply)
      linked.notifications.items
  pub of_packages : All (λ (part : LinkedPackage). All (λ (stated : LinkedUse). MeansType ms linked stated.permitted)
      part.attributes.items) linked.packages.items

pub record MeanValues (ms : List ModuleTerm) (linked : Linked) (stated : LinkedUse) : Type 0 where
  pub of_default : MeansValue ms linked stated.default_value
  pub of_initial : MeansValue ms linked stated.initial_value

-- each default and each initial value that is stated has a value
abbrev pub HaveValues : List ModuleTerm → Linked → Type 0
HaveValues ms linked =
    All (λ (part : LinkedPackage). All (MeanValues ms linked) part.attributes.items) linked.packages.items
