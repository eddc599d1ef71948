-- BadValues: a value that doesn't fit: one that is assigned, and each DEFAULT, in its type, used or not; one that a package
-- states, in the syntax of its attribute; and those of rules and instances (X.680, section 17.7; X.722, section 8.4;
-- docs/PROFILE.md, sections 9, 11 and 18).
use Rattle.std.specs.Prelude.{◌≡◌, ◌⊎◌, ℕ, List, Option, None, Some, Contains, slice_get}
use Rattle.term_values.specs.Fits.{Fits}
use Rattle.term_values.specs.Syntaxes.{TypeSyntax}
use Rattle.term_values.specs.Typed.{TypedValue}
use Rattle.asn1_values_syntax.specs.ValueTrees.{value_tree}
use Rattle.asn1_values_syntax.specs.declared.value.ValueText.{ValueText}
use Rattle.asn1_names.specs.ModuleTerms.{ModuleTerm}
use Rattle.asn1_leaf_values.specs.TextValues.{first_place}
use Rattle.linked_parts.specs.declared.linked.Linked.{Linked}
use Rattle.linked_parts.specs.declared.linked.LinkedAction.{LinkedAction}
use Rattle.linked_parts.specs.declared.linked.LinkedInstance.{LinkedInstance}
use Rattle.linked_parts.specs.declared.linked.LinkedName.{LinkedName}
use Rattle.linked_parts.specs.declared.linked.LinkedNotification.{LinkedNotification}
use Rattle.linked_parts.specs.declared.linked.LinkedPackage.{LinkedPackage}
use Rattle.linked_parts.specs.declared.linked.LinkedPair.{LinkedPair}
use Rattle.linked_parts.specs.declared.linked.LinkedRule.{LinkedRule}
use Rattle.linked_parts.specs.declared.linked.LinkedStep.{LinkedStep}
use Rattle.linked_parts.specs.declared.linked.LinkedStep.TheVariants.{SetValue, Emit, ReplyValue}
use Rattle.linked_parts.specs.declared.linked.LinkedUse.{LinkedUse}
use Rattle.filled_syntaxes.specs.BadAssignments.{BadAssignedAt, BadDefaultAt}
use Rattle.filled_syntaxes.specs.LinkedMeanings.{linked_arcs}
use Rattle.filled_syntaxes.specs.SaidTexts.{DenotesNone}
use Rattle.class_faults.specs.AttributeSyntaxes.{AttributeHas}
use Rattle.class_faults.specs.StatedProperties.{HasValue, TypeHas}

-- a value that a package states of an attribute doesn't fit its syntax; the token is the value's name. A name whose text
-- denotes no value isn't judged again.
pub record BadStatedAt (ms : List ModuleTerm) (linked : Linked) (document at : ℕ) : Type 0 where
  pub place : ℕ
  pub of_package : LinkedPackage
  pub stands : slice_get linked.packages.items place ≡ Some of_package
  pub in_document : of_package.head.document ≡ document
  pub stated : LinkedUse
  pub says : Contains of_package.attributes.items stated
  pub name : LinkedName
  pub is_stated : (stated.default_value ≡ Some name) ⊎ (stated.initial_value ≡ Some name)
  pub at_token : name.name.at ≡ at
  pub value : TypedValue
  pub has_value : HasValue ms linked name value
  pub syntax : TypeSyntax
  pub has : AttributeHas ms linked stated.attribute syntax
  pub misfit : ¬ Fits syntax value

-- a text that stands in rules or instances denotes no value of a syntax
abbrev pub IsMisfit : Linked → TypeSyntax → ValueText → ℕ → Type 0
IsMisfit linked syntax text at = DenotesNone (linked_arcs linked) syntax (value_tree text) at

-- there is no syntax for a text; its first token has this place
abbrev pub HasNoSyntax : Option LinkedName → ValueText → ℕ → Type 0
HasNoSyntax type text at = (type ≡ None) × (first_place text ≡ at)

-- a text doesn't fit the type of this name, or there is none
abbrev pub IsBadFor : List ModuleTerm → Linked → Option LinkedName → ValueText → ℕ → Type 0
IsBadFor ms linked type text at = HasNoSyntax type text at
    ⊎ ((name : LinkedName) × ((syntax : TypeSyntax) × (type ≡ Some name) × TypeHas ms linked name syntax
    × IsMisfit linked syntax text at))

abbrev pub IsBadForAttribute : List ModuleTerm → Linked → ℕ → ValueText → ℕ → Type 0
IsBadForAttribute ms linked attribute text at =
    (syntax : TypeSyntax) × AttributeHas ms linked attribute syntax × IsMisfit linked syntax text at

-- a value of a step: of an attribute, of a notification's information, or of an action's reply
pub data IsBadStep (ms : List ModuleTerm) (linked : Linked) (rule : LinkedRule) : LinkedStep → ℕ → Type 0 where
  set_value : {attribute at : ℕ} {text : ValueText} → IsBadForAttribute ms linked attribute text at →
      IsBadStep ms linked rule (SetValue attribute text) at
  emit : {place at : ℕ} {text : ValueText} {notification : LinkedNotification} →
      slice_get linked.notifications.items place ≡ Some notification →
      IsBadFor ms linked notification.information text at → IsBadStep ms linked rule (Emit place (Some text)) at
  reply : {at : ℕ} {text : ValueText} {action : LinkedAction} → slice_get linked.actions.items rule.action ≡ Some action →
      IsBadFor ms linked action.reply text at → IsBadStep ms linked rule (ReplyValue text) at

pub record BadRuleAt (ms : List ModuleTerm) (linked : Linked) (document at : ℕ) : Type 0 where
  pub rule : LinkedRule
  pub there : Contains linked.rules.items rule
  pub in_document : rule.document ≡ document
  pub step : LinkedStep
  pub says : Contains rule.steps.items step
  pub bad : IsBadStep ms linked rule step at

-- a value of an instance: of its name, or behind WITH
pub record BadInstanceAt (ms : List ModuleTerm) (linked : Linked) (document at : ℕ) : Type 0 where
  pub instance : LinkedInstance
  pub there : Contains linked.instances.items instance
  pub in_document : instance.document ≡ document
  pub pair : LinkedPair
  pub says : Contains instance.name.items pair ⊎ Contains instance.given.items pair
  pub bad : IsBadForAttribute ms linked pair.attribute pair.value at

pub data BadValueAt (ms : List ModuleTerm) (linked : Linked) (document at : ℕ) : Type 0 where
  of_assignment : BadAssignedAt ms linked document at → BadValueAt ms linked document at
  of_default : BadDefaultAt ms linked document at → BadValueAt ms linked document at
  of_package : BadStatedAt ms linked document at → BadValueAt ms linked document at
  of_rule : BadRuleAt ms linked document at → BadValueAt ms linked document at
  of_instance : BadInstanceAt ms linked document at → BadValueAt ms linked document at
