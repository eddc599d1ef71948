-- StepLaws: each step of a rule is whole in the schema of linked parts (X.722, section 8; docs/PROFILE.md, sections 9
-- and 12).
use Rattle.std.specs.Prelude.{◌≡◌, ℕ, List, Option, None, Some, Contains, IfSome, refl, slice_get}
use Rattle.std.proofs.Common.{◌∙◌, sym}
use Rattle.std.proofs.Math.Path.{subst}
use Rattle.std.proofs.lemmas.Option.{same_Some}
use Rattle.asn1_values_syntax.specs.declared.value.ValueText.{ValueText}
use Rattle.term_values.specs.Soundness.{IsSound}
use Rattle.term_values.specs.Syntaxes.{TypeSyntax}
use Rattle.term_values.specs.Typed.{TypedValue}
use Rattle.term_model.specs.WholeSet.{IsOfRule, IsWholeStep}
use Rattle.term_model.specs.declared.rule.RuleRec.{RuleRec}
use Rattle.term_model.specs.declared.rule.RuleStep.{RuleStep}
use Rattle.term_model.specs.declared.rule.RuleStep.TheVariants as records
use Rattle.term_model.specs.declared.schema.Set.{Set}
use Rattle.asn1_names.specs.ModuleTerms.{ModuleTerm}
use Rattle.gdmo_names.specs.FirstLabelFault.{AreFaultless}
use Rattle.gdmo_names.specs.PartTerms.{PartTerms, module_terms_of}
use Rattle.linked_parts.specs.declared.linked.Linked.{Linked}
use Rattle.linked_parts.specs.declared.linked.LinkedAction.{LinkedAction}
use Rattle.linked_parts.specs.declared.linked.LinkedName.{LinkedName}
use Rattle.linked_parts.specs.declared.linked.LinkedNotification.{LinkedNotification}
use Rattle.linked_parts.specs.declared.linked.LinkedStep.{LinkedStep}
use Rattle.linked_parts.specs.declared.linked.LinkedStep.TheVariants as steps
use Rattle.linked_documents.specs.LinkedParts.{AreLinkedParts}
use Rattle.filled_syntaxes.specs.LinkedMeanings.{linked_arcs}
use Rattle.class_faults.specs.FirstClassFault.{AreFaultless as AreClassesFaultless}
use Rattle.class_faults.specs.StatedProperties.{TypeHas}
use Rattle.linked_types.specs.PartIdentifiers.{IsAttributeId}
use Rattle.section_values.specs.SectionRecords.{IsEmitted, IsStep}
use Rattle.section_values.specs.SectionRecords.IsStep.{add, emit, reply_argument, reply_attribute, reply_value}
use Rattle.section_values.specs.SectionRecords.IsStep.{set_argument, set_value}
use Rattle.schema_records.specs.MemberRecords.{AreRecords, IsNotification, IsOptionalType}
use Rattle.schema_records.proofs.ClassLaws.{at_contains, each_at}
use Rattle.sound_laws.specs.ShortDefaults.{ValuesFit}
use Rattle.reference_laws.specs.SchemaReferences.{IsRuleThere}
use Rattle.ruled_attributes.specs.NamedAttributes.{attribute_of_step}
use Rattle.rule_laws.specs.ShortRules.{IsShortOfType, IsShortStep}
use Rattle.rule_laws.proofs.StatedSteps.{IsStatedRule}
use Rattle.rule_laws.proofs.StepTypes.{argument_replied, argument_typed, number_added, reply_typed}
use Rattle.rule_laws.proofs.ValueLaws.{emitted_fits, type_fits, value_whole}

module _ (parts : PartTerms) (ms : List ModuleTerm) (same : module_terms_of parts ≡ ms) (linked : Linked)
    (schema : Set) (are_linked : AreLinkedParts parts linked) (faultless : AreFaultless parts)
    (classes : AreClassesFaultless ms linked) (are : AreRecords ms linked schema)
    (fit : ValuesFit (linked_arcs linked))
    (sound : (name : LinkedName) (syntax : TypeSyntax) → TypeHas ms linked name syntax → IsSound syntax)
    (x : RuleRec) (there : IsRuleThere ms linked schema x) (stated : IsStatedRule parts there.stated)
    (ruled : (step : LinkedStep) (k : ℕ) (id : List ℕ) → Contains there.stated.steps.items step →
    attribute_of_step step ≡ Some k → IsAttributeId linked k id → IsOfRule schema x.class id) where
  -- EMIT
  notification_whole : (k : ℕ) (id : List ℕ) (text : Option ValueText) (value : Option TypedValue)
      (part : LinkedNotification) → IsShortStep ms linked there.stated (steps.Emit k text) →
      slice_get linked.notifications.items k ≡ Some part → part.head.identifier ≡ Some id →
      IsEmitted ms linked part.information text value → IsWholeStep schema x there.action (records.Emit id value)
  notification_whole k id text value part short at called is =
      let found = each_at (IsNotification ms linked) linked.notifications.items schema.notifications k part
      are.notifications_are at in (
        found.0,
        at_contains schema.notifications k found.0 found.1,
        same_Some found.0.id id (sym found.2.registered.is_id ∙ called),
        emitted_fits ms linked fit sound part.information found.0.information text value (by text short)
            found.2.is_information is,
      )
    where
      by : (text : Option ValueText) → IsShortStep ms linked there.stated (steps.Emit k text) →
          IfSome text (IsShortOfType ms linked part.information)
      by None short = tt
      by (Some text) short = short part at

  pub step_whole : {step : LinkedStep} {y : RuleStep} → Contains there.stated.steps.items step →
      IsShortStep ms linked there.stated step → IsStep ms linked there.stated step y →
      IsWholeStep schema x there.action y
  step_whole has short (set_argument {k = k} {id = id} named) = (
    ruled (steps.SetArgument k) k id has refl named,
    argument_typed parts ms same linked schema are_linked faultless classes are x there stated k id
        (stated.said (steps.SetArgument k) has) named,
  )
  step_whole has short (set_value {k = k} {id = id} {text = text} {value = value} named is) = (
    ruled (steps.SetValue k text) k id has refl named,
    value_whole ms linked fit sound schema are k id text value named short is,
  )
  step_whole has short (add {number = number} {k = k} {id = id} named) = (
    ruled (steps.Add number k) k id has refl named,
    number_added parts ms same linked schema are_linked faultless classes are x there stated k id
        (stated.said (steps.Add number k) has) named,
  )
  step_whole has short (emit {k = k} {id = id} {text = text} {value = value} {part = part} at called is) =
      notification_whole k id text value part short at called is
  step_whole has short reply_argument =
      argument_replied parts ms same linked schema are_linked faultless classes are x there stated
      (stated.said steps.ReplyArgument has)
  step_whole has short (reply_attribute {k = k} {id = id} named) = (
    ruled (steps.ReplyAttribute k) k id has refl named,
    reply_typed parts ms same linked schema are_linked faultless classes are x there stated k id
        (stated.said (steps.ReplyAttribute k) has) named,
  )
  step_whole has short (reply_value {text = text} {value = value} {part = part} at is) =
      type_fits ms linked fit sound part.reply there.action.reply text value (short part at)
      (subst (λ (y : LinkedAction). IsOptionalType ms linked y.reply there.action.reply)
      (same_Some there.part part (sym there.stands ∙ at)) there.of_place.is_reply) is
