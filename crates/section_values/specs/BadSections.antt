-- BadSections: the texts of rules and of instances that denote no value, as sets of texts (docs/PROFILE.md, sections 9
-- and 18).
use Rattle.std.specs.Prelude.{◌≡◌, ℕ, List, Option, Some, slice_get}
use Rattle.asn1_values_syntax.specs.declared.value.ValueText.{ValueText}
use Rattle.term_values.specs.Syntaxes.{TypeSyntax}
use Rattle.asn1_names.specs.ModuleTerms.{ModuleTerm}
use Rattle.linked_parts.specs.declared.linked.Linked.{Linked}
use Rattle.linked_parts.specs.declared.linked.LinkedAction.{LinkedAction}
use Rattle.linked_parts.specs.declared.linked.LinkedInstance.{LinkedInstance}
use Rattle.linked_parts.specs.declared.linked.LinkedNotification.{LinkedNotification}
use Rattle.linked_parts.specs.declared.linked.LinkedPair.{LinkedPair}
use Rattle.linked_parts.specs.declared.linked.LinkedRule.{LinkedRule}
use Rattle.linked_parts.specs.declared.linked.LinkedStep.{LinkedStep}
use Rattle.filled_syntaxes.specs.NotedTexts.{EachText, EitherText, TextSet}
use Rattle.class_faults.specs.BadValues.{BadInstanceAt, BadRuleAt, IsBadFor, IsBadForAttribute, IsBadStep, IsMisfit}

-- the texts of all rules, and of all instances
abbrev pub BadOfRules : List ModuleTerm → Linked → TextSet
BadOfRules ms linked place = BadRuleAt ms linked place.document place.token

abbrev pub BadOfInstances : List ModuleTerm → Linked → TextSet
BadOfInstances ms linked place = BadInstanceAt ms linked place.document place.token

-- the texts of a document whose places are these
abbrev pub InDocument : ℕ → (ℕ → Type 0) → TextSet
InDocument document Bad place = (document ≡ place.document) × Bad place.token

-- a text denotes no value of this syntax, where there is one
abbrev pub IsBadIn : Linked → Option TypeSyntax → ValueText → ℕ → Type 0
IsBadIn linked syntax text at = (known : TypeSyntax) × (syntax ≡ Some known) × IsMisfit linked known text at

-- a text is bad for the information of the notification at a place, or for the reply of the action at a place
abbrev pub BadInformation : List ModuleTerm → Linked → ℕ → ValueText → ℕ → Type 0
BadInformation ms linked place text at = (part : LinkedNotification)
    × (slice_get linked.notifications.items place ≡ Some part) × IsBadFor ms linked part.information text at

abbrev pub BadReply : List ModuleTerm → Linked → ℕ → ValueText → ℕ → Type 0
BadReply ms linked place text at = (part : LinkedAction)
    × (slice_get linked.actions.items place ≡ Some part) × IsBadFor ms linked part.reply text at

-- those of a step of a rule, and of all its steps
abbrev pub BadOfStep : List ModuleTerm → Linked → LinkedRule → LinkedStep → TextSet
BadOfStep ms linked rule step = InDocument rule.document (IsBadStep ms linked rule step)

abbrev pub BadOfRule : List ModuleTerm → Linked → LinkedRule → TextSet
BadOfRule ms linked rule = EachText (λ k. BadOfStep ms linked rule) rule.steps.items

-- those of a pair of a document, of pairs, and of an instance
abbrev pub BadOfPair : List ModuleTerm → Linked → ℕ → LinkedPair → TextSet
BadOfPair ms linked document pair =
    InDocument document (IsBadForAttribute ms linked pair.attribute pair.value)

abbrev pub BadOfPairs : List ModuleTerm → Linked → ℕ → List LinkedPair → TextSet
BadOfPairs ms linked document pairs = EachText (λ k. BadOfPair ms linked document) pairs

abbrev pub BadOfInstance : List ModuleTerm → Linked → LinkedInstance → TextSet
BadOfInstance ms linked instance = EitherText (BadOfPairs ms linked instance.document instance.name.items)
    (BadOfPairs ms linked instance.document instance.given.items)
