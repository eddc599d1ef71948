-- SectionRecords: which record of a rule is that of which linked rule, and which values are those of which instance:
-- each reference is the identifier of its target, a value is what its text denotes in the syntax for which it stands
-- (docs/PROFILE.md, sections 9 and 18).
use Rattle.std.specs.Prelude.{◌≡◌, ℕ, List, Option, None, Some, slice_get}
use Rattle.asn1_values_syntax.specs.ValueTrees.{value_tree}
use Rattle.asn1_values_syntax.specs.declared.value.ValueText.{ValueText}
use Rattle.term_values.specs.Syntaxes.{TypeSyntax}
use Rattle.term_values.specs.Typed.{TypedValue}
use Rattle.term_model.specs.declared.rule.RuleRec.{RuleRec}
use Rattle.term_model.specs.declared.rule.RuleStep.{RuleStep}
use Rattle.term_model.specs.declared.rule.RuleStep.TheVariants as steps
use Rattle.asn1_names.specs.ModuleTerms.{ModuleTerm}
use Rattle.linked_parts.specs.declared.linked.Linked.{Linked}
use Rattle.linked_parts.specs.declared.linked.LinkedAction.{LinkedAction}
use Rattle.linked_parts.specs.declared.linked.LinkedInstance.{LinkedInstance}
use Rattle.linked_parts.specs.declared.linked.LinkedName.{LinkedName}
use Rattle.linked_parts.specs.declared.linked.LinkedNotification.{LinkedNotification}
use Rattle.linked_parts.specs.declared.linked.LinkedPair.{LinkedPair}
use Rattle.linked_parts.specs.declared.linked.LinkedRule.{LinkedRule}
use Rattle.linked_parts.specs.declared.linked.LinkedStep.{LinkedStep}
use Rattle.linked_parts.specs.declared.linked.LinkedStep.TheVariants as linked_steps
use Rattle.filled_syntaxes.specs.LinkedMeanings.{linked_arcs}
use Rattle.filled_syntaxes.specs.SaidTexts.{DenotesValue}
use Rattle.class_faults.specs.AttributeSyntaxes.{AttributeHas}
use Rattle.class_faults.specs.StatedProperties.{TypeHas}
use Rattle.linked_types.specs.PartIdentifiers.{AreEach, IsAttributeId, IsClassId, IsIdentified}
use Rattle.section_values.specs.declared.instances.InstanceValues.{InstanceValues}

-- the value that a text denotes in the syntax of an attribute, or of the type of a name
abbrev pub IsValueFor : List ModuleTerm → Linked → ℕ → ValueText → TypedValue → Type 0
IsValueFor ms linked attribute text value = (syntax : TypeSyntax) × AttributeHas ms linked attribute syntax
    × DenotesValue (linked_arcs linked) syntax (value_tree text) value

abbrev pub IsValueOfType : List ModuleTerm → Linked → Option LinkedName → ValueText → TypedValue → Type 0
IsValueOfType ms linked None text value = ⊥
IsValueOfType ms linked (Some name) text value = (syntax : TypeSyntax) × TypeHas ms linked name syntax
    × DenotesValue (linked_arcs linked) syntax (value_tree text) value

abbrev pub IsEmitted : List ModuleTerm → Linked → Option LinkedName → Option ValueText → Option TypedValue → Type 0
IsEmitted ms linked type None None = Unit {0}
IsEmitted ms linked type (Some text) (Some value) = IsValueOfType ms linked type text value
IsEmitted ms linked type _ _ = ⊥

pub data IsStep (ms : List ModuleTerm) (linked : Linked) (rule : LinkedRule) : LinkedStep → RuleStep → Type 0 where
  set_argument : {k : ℕ} {id : List ℕ} → IsAttributeId linked k id →
      IsStep ms linked rule (linked_steps.SetArgument k) (steps.SetArgument id)
  set_value : {k : ℕ} {id : List ℕ} {text : ValueText} {value : TypedValue} → IsAttributeId linked k id →
      IsValueFor ms linked k text value →
      IsStep ms linked rule (linked_steps.SetValue k text) (steps.SetValue id value)
  add : {number k : ℕ} {id : List ℕ} → IsAttributeId linked k id →
      IsStep ms linked rule (linked_steps.Add number k) (steps.Add number id)
  emit : {k : ℕ} {id : List ℕ} {text : Option ValueText} {value : Option TypedValue} {part : LinkedNotification} →
      slice_get linked.notifications.items k ≡ Some part → part.head.identifier ≡ Some id →
      IsEmitted ms linked part.information text value →
      IsStep ms linked rule (linked_steps.Emit k text) (steps.Emit id value)
  reply_argument : IsStep ms linked rule linked_steps.ReplyArgument steps.ReplyArgument
  reply_attribute : {k : ℕ} {id : List ℕ} → IsAttributeId linked k id →
      IsStep ms linked rule (linked_steps.ReplyAttribute k) (steps.ReplyAttribute id)
  reply_value : {text : ValueText} {value : TypedValue} {part : LinkedAction} →
      slice_get linked.actions.items rule.action ≡ Some part → IsValueOfType ms linked part.reply text value →
      IsStep ms linked rule (linked_steps.ReplyValue text) (steps.ReplyValue value)

pub record IsRule (ms : List ModuleTerm) (linked : Linked) (part : LinkedRule) (x : RuleRec) : Type 0 where
  pub is_class : IsClassId linked part.class x.class
  pub is_action : IsIdentified (λ y. y.head) linked.actions.items part.action x.action
  pub steps_are : AreEach (IsStep ms linked part) part.steps.items x.steps

-- the value of a pair, and the values of an instance, in the order in which they stand
abbrev pub IsPairValue : List ModuleTerm → Linked → LinkedPair → TypedValue → Type 0
IsPairValue ms linked pair value = IsValueFor ms linked pair.attribute pair.value value

pub record IsInstance (ms : List ModuleTerm) (linked : Linked) (part : LinkedInstance) (values : InstanceValues)
    : Type 0 where
  pub name_is : AreEach (IsPairValue ms linked) part.name.items values.name.items
  pub given_is : AreEach (IsPairValue ms linked) part.given.items values.given.items
