-- ShortRules: each value of a rule is written in fewer than 2 ^ 32 octets, which is the most that is read (X.690,
-- section 8.1.3; docs/PROFILE.md, sections 9 and 11).
use Rattle.std.specs.Prelude.{◌≡◌, List, Option, None, Some, All, slice_get}
use Rattle.asn1_values_syntax.specs.ValueTrees.{value_tree}
use Rattle.asn1_values_syntax.specs.declared.value.ValueText.{ValueText}
use Rattle.term_values.specs.Syntaxes.{TypeSyntax}
use Rattle.term_values.specs.Typed.{TypedValue}
use Rattle.asn1_names.specs.ModuleTerms.{ModuleTerm}
use Rattle.linked_parts.specs.declared.linked.Linked.{Linked}
use Rattle.linked_parts.specs.declared.linked.LinkedAction.{LinkedAction}
use Rattle.linked_parts.specs.declared.linked.LinkedName.{LinkedName}
use Rattle.linked_parts.specs.declared.linked.LinkedNotification.{LinkedNotification}
use Rattle.linked_parts.specs.declared.linked.LinkedRule.{LinkedRule}
use Rattle.linked_parts.specs.declared.linked.LinkedStep.{LinkedStep}
use Rattle.linked_parts.specs.declared.linked.LinkedStep.TheVariants as steps
use Rattle.filled_syntaxes.specs.LinkedMeanings.{linked_arcs}
use Rattle.filled_syntaxes.specs.SaidTexts.{DenotesValue}
use Rattle.class_faults.specs.AttributeSyntaxes.{AttributeHas}
use Rattle.class_faults.specs.StatedProperties.{TypeHas}
use Rattle.sound_laws.specs.ShortDefaults.{IsShort}

-- the value that a text denotes in a syntax such as is asked for
abbrev pub IsShortText : Linked → (TypeSyntax → Type 0) → ValueText → Type 0
IsShortText linked Has text = (syntax : TypeSyntax) → Has syntax →
    (value : TypedValue) → DenotesValue (linked_arcs linked) syntax (value_tree text) value → IsShort syntax value

-- in the syntax of the type of a name, where one stands
abbrev pub IsShortOfType : List ModuleTerm → Linked → Option LinkedName → ValueText → Type 0
IsShortOfType ms linked None text = Unit {0}
IsShortOfType ms linked (Some name) text = IsShortText linked (TypeHas ms linked name) text

-- the value of a step: in the syntax of the attribute that is set, of the information of the notification, or of the
-- reply of the action
abbrev pub IsShortStep : List ModuleTerm → Linked → LinkedRule → LinkedStep → Type 0
IsShortStep ms linked rule (steps.SetArgument k) = Unit {0}
IsShortStep ms linked rule (steps.SetValue k text) = IsShortText linked (AttributeHas ms linked k) text
IsShortStep ms linked rule (steps.Add number k) = Unit {0}
IsShortStep ms linked rule (steps.Emit k None) = Unit {0}
IsShortStep ms linked rule (steps.Emit k (Some text)) = (part : LinkedNotification) →
    slice_get linked.notifications.items k ≡ Some part → IsShortOfType ms linked part.information text
IsShortStep ms linked rule steps.ReplyArgument = Unit {0}
IsShortStep ms linked rule (steps.ReplyAttribute k) = Unit {0}
IsShortStep ms linked rule (steps.ReplyValue text) = (part : LinkedAction) →
    slice_get linked.actions.items rule.action ≡ Some part → IsShortOfType ms linked part.reply text

-- those of each step of a rule, and of each rule
abbrev pub IsShortRule : List ModuleTerm → Linked → LinkedRule → Type 0
IsShortRule ms linked rule = All (IsShortStep ms linked rule) rule.steps.items

abbrev pub AreShortRules : List ModuleTerm → Linked → Type 0
AreShortRules ms linked = All (IsShortRule ms linked) linked.rules.items
