-- RegisteredSections: what is asked of rules and of instances so that they have records: the parts that they name are
-- registered, and what their values are read in has a syntax (docs/PROFILE.md, sections 9 and 18).
use Rattle.std.specs.Prelude.{◌≡◌, ◌⊎◌, ℕ, List, Option, None, Some, Contains, slice_get}
use Rattle.term_values.specs.Syntaxes.{TypeSyntax}
use Rattle.asn1_names.specs.ModuleTerms.{ModuleTerm}
use Rattle.linked_parts.specs.declared.linked.Linked.{Linked}
use Rattle.linked_parts.specs.declared.linked.LinkedAction.{LinkedAction}
use Rattle.linked_parts.specs.declared.linked.LinkedHead.{LinkedHead}
use Rattle.linked_parts.specs.declared.linked.LinkedInstance.{LinkedInstance}
use Rattle.linked_parts.specs.declared.linked.LinkedName.{LinkedName}
use Rattle.linked_parts.specs.declared.linked.LinkedNotification.{LinkedNotification}
use Rattle.linked_parts.specs.declared.linked.LinkedPair.{LinkedPair}
use Rattle.linked_parts.specs.declared.linked.LinkedRule.{LinkedRule}
use Rattle.linked_parts.specs.declared.linked.LinkedStep.{LinkedStep}
use Rattle.linked_parts.specs.declared.linked.LinkedStep.TheVariants as steps
use Rattle.class_faults.specs.AttributeSyntaxes.{AttributeHas}
use Rattle.class_faults.specs.StatedProperties.{TypeHas}
use Rattle.linked_types.specs.PartIdentifiers.{IsIdentified}

-- the template at a place of a table is there, and is registered
abbrev pub HasIdentifier : {L : Type 0} → (L → LinkedHead) → List L → ℕ → Type 0
HasIdentifier head xs k = (id : List ℕ) × IsIdentified head xs k id

abbrev pub IsRegisteredAttribute : Linked → ℕ → Type 0
IsRegisteredAttribute linked = HasIdentifier (λ x. x.head) linked.attributes.items

abbrev pub IsRegisteredNotification : Linked → ℕ → Type 0
IsRegisteredNotification linked = HasIdentifier (λ x. x.head) linked.notifications.items

abbrev pub IsRegisteredAction : Linked → ℕ → Type 0
IsRegisteredAction linked = HasIdentifier (λ x. x.head) linked.actions.items

-- so is what a step names
abbrev pub IsRegisteredStep : Linked → LinkedStep → Type 0
IsRegisteredStep linked (steps.SetArgument k) = IsRegisteredAttribute linked k
IsRegisteredStep linked (steps.SetValue k text) = IsRegisteredAttribute linked k
IsRegisteredStep linked (steps.Add number k) = IsRegisteredAttribute linked k
IsRegisteredStep linked (steps.Emit k text) = IsRegisteredNotification linked k
IsRegisteredStep linked steps.ReplyArgument = Unit {0}
IsRegisteredStep linked (steps.ReplyAttribute k) = IsRegisteredAttribute linked k
IsRegisteredStep linked (steps.ReplyValue text) = Unit {0}

-- so is what a rule names
pub record IsRegisteredRule (linked : Linked) (rule : LinkedRule) : Type 0 where
  pub of_class : HasIdentifier (λ x. x.head) linked.classes.items rule.class
  pub of_action : IsRegisteredAction linked rule.action
  pub of_steps : (step : LinkedStep) → Contains rule.steps.items step → IsRegisteredStep linked step

abbrev pub AreRegisteredRules : Linked → Type 0
AreRegisteredRules linked = (rule : LinkedRule) → Contains linked.rules.items rule → IsRegisteredRule linked rule

-- an attribute has a syntax: it doesn't derive from itself, and its name means a type
abbrev pub HasSyntax : List ModuleTerm → Linked → ℕ → Type 0
HasSyntax ms linked k = (syntax : TypeSyntax) × AttributeHas ms linked k syntax

-- so has the type of a name, where one stands
abbrev pub HasTypeSyntax : List ModuleTerm → Linked → Option LinkedName → Type 0
HasTypeSyntax ms linked None = Unit {0}
HasTypeSyntax ms linked (Some name) = (syntax : TypeSyntax) × TypeHas ms linked name syntax

abbrev pub HasInformationSyntax : List ModuleTerm → Linked → ℕ → Type 0
HasInformationSyntax ms linked k = (part : LinkedNotification) →
    slice_get linked.notifications.items k ≡ Some part → HasTypeSyntax ms linked part.information

abbrev pub HasReplySyntax : List ModuleTerm → Linked → ℕ → Type 0
HasReplySyntax ms linked k =
    (part : LinkedAction) → slice_get linked.actions.items k ≡ Some part → HasTypeSyntax ms linked part.reply

-- so has that in which the value of a step is read
abbrev pub HasStepSyntax : List ModuleTerm → Linked → LinkedRule → LinkedStep → Type 0
HasStepSyntax ms linked rule (steps.SetArgument k) = Unit {0}
HasStepSyntax ms linked rule (steps.SetValue k text) = HasSyntax ms linked k
HasStepSyntax ms linked rule (steps.Add number k) = Unit {0}
HasStepSyntax ms linked rule (steps.Emit k None) = Unit {0}
HasStepSyntax ms linked rule (steps.Emit k (Some text)) = HasInformationSyntax ms linked k
HasStepSyntax ms linked rule steps.ReplyArgument = Unit {0}
HasStepSyntax ms linked rule (steps.ReplyAttribute k) = Unit {0}
HasStepSyntax ms linked rule (steps.ReplyValue text) = HasReplySyntax ms linked rule.action

abbrev pub HaveRuleSyntaxes : List ModuleTerm → Linked → Type 0
HaveRuleSyntaxes ms linked = (rule : LinkedRule) (step : LinkedStep) → Contains linked.rules.items rule →
    Contains rule.steps.items step → HasStepSyntax ms linked rule step

-- so have the attributes of the pairs of instances
abbrev pub HaveInstanceSyntaxes : List ModuleTerm → Linked → Type 0
HaveInstanceSyntaxes ms linked = (instance : LinkedInstance) (pair : LinkedPair) →
    Contains linked.instances.items instance → Contains instance.name.items pair ⊎ Contains instance.given.items pair →
    HasSyntax ms linked pair.attribute
