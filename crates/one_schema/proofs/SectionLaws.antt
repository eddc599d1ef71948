-- SectionLaws: a linked rule and a linked instance have one record, and the system has one name (docs/PROFILE.md,
-- sections 9 and 16).
use Rattle.std.specs.Prelude.{◌≡◌, List, Bool, true, false, None, Some, refl}
use Rattle.std.proofs.Common.{◌∙◌, ap, sym}
use Rattle.std.proofs.Math.Path.{subst}
use Rattle.std.proofs.lemmas.Option.{same_Some}
use Rattle.term_values.specs.Written.{der}
use Rattle.term_model.specs.declared.name.Rdn.{Rdn}
use Rattle.term_model.specs.declared.rule.RuleStep.TheVariants as steps
use Rattle.asn1_names.specs.ModuleTerms.{ModuleTerm}
use Rattle.linked_parts.specs.declared.linked.Linked.{Linked}
use Rattle.linked_parts.specs.declared.linked.LinkedAction.{LinkedAction}
use Rattle.linked_parts.specs.declared.linked.LinkedNotification.{LinkedNotification}
use Rattle.linked_parts.specs.declared.linked.LinkedRule.{LinkedRule}
use Rattle.linked_types.proofs.SyntaxLaws.{one_syntax}
use Rattle.section_values.specs.SectionRecords.{IsEmitted, IsRule, IsStep, IsValueOfType}
use Rattle.section_values.specs.SectionRecords.IsStep.{add, emit, reply_argument, reply_attribute, reply_value}
use Rattle.section_values.specs.SectionRecords.IsStep.{set_argument, set_value}
use Rattle.instance_records.specs.InstanceRecords.{IsGiven, IsInstanceRecord, IsObjectName, IsPart, IsStatedName}
use Rattle.instance_records.specs.InstanceRecords.{IsSystemName, first_root}
use Rattle.one_schema.proofs.OnceLaws.{HasOne, one_each}
use Rattle.one_schema.proofs.MeaningLaws.{one_attribute, one_class, one_denoted, one_emitted, one_identifier}
use Rattle.one_schema.proofs.MeaningLaws.{one_identifiers, one_value_for, one_value_of_type}

module _ (ms : List ModuleTerm) (linked : Linked) where
  -- ---- rules

  one_step : (rule : LinkedRule) → HasOne (IsStep ms linked rule)
  one_step rule step x y (set_argument {k = k} {id = id} is) (set_argument {id = again} also) =
      ap steps.SetArgument (one_attribute linked k id again is also)
  one_step rule step x y (set_value {k = k} {id = id} {text = text} {value = value} is given)
      (set_value {id = again} {value = other} also told) =
      let attribute = one_attribute linked k id again is also in
      let same = one_value_for ms linked k text value other given told in λ i. steps.SetValue (attribute i) (same i)
  one_step rule step x y (add {number = number} {k = k} {id = id} is) (add {id = again} also) =
      ap (steps.Add number) (one_attribute linked k id again is also)
  one_step rule step x y (emit {id = id} {text = text} {value = value} {part = part} at called given)
      (emit {id = again} {value = other} {part = found} there named told) =
      let parts = same_Some part found (sym at ∙ there) in
      let identifier = same_Some id again
      (sym called ∙ ap (λ (y : LinkedNotification). y.head.identifier) parts ∙ named) in
      let same = one_emitted ms linked found.information text value other
      (subst (λ (y : LinkedNotification). IsEmitted ms linked y.information text value) parts given) told in
      λ i. steps.Emit (identifier i) (same i)
  one_step rule step x y reply_argument reply_argument = refl
  one_step rule step x y (reply_attribute {k = k} {id = id} is) (reply_attribute {id = again} also) =
      ap steps.ReplyAttribute (one_attribute linked k id again is also)
  one_step rule step x y (reply_value {text = text} {value = value} {part = part} at given)
      (reply_value {value = other} {part = found} there told) =
      ap steps.ReplyValue (one_value_of_type ms linked found.reply text value other
      (subst (λ (y : LinkedAction). IsValueOfType ms linked y.reply text value)
      (same_Some part found (sym at ∙ there)) given) told)

  pub one_rule : HasOne (IsRule ms linked)
  one_rule part x y is also =
      let class = one_class linked part.class x.class y.class is.is_class also.is_class in
      let action = one_identifier (λ z. z.head) linked.actions.items part.action x.action y.action is.is_action
      also.is_action in
      let steps_same = one_each (IsStep ms linked part) (one_step part) part.steps.items x.steps y.steps is.steps_are
      also.steps_are in
      λ i. record { class = class i; action = action i; steps = steps_same i }

  -- ---- instances

  one_part : HasOne (IsPart ms linked)
  one_part pair x y is also =
      let attribute = one_attribute linked pair.attribute x.attribute y.attribute is.is_attribute also.is_attribute in
      let syntax = one_syntax ms linked pair.attribute is.syntax also.syntax is.has also.has in
      let value = one_denoted ms linked pair.value is.syntax also.syntax is.denoted also.denoted syntax is.denotes
      also.denotes in
      let written : x.value ≡ y.value =
      is.is_written ∙ (λ i. der (syntax i) (value i)) ∙ sym also.is_written in
      λ i. record { attribute = attribute i; value = written i }

  one_given : HasOne (IsGiven ms linked)
  one_given pair x y is also =
      let id = one_attribute linked pair.attribute x.id y.id is.is_attribute also.is_attribute in
      let value = one_value_for ms linked pair.attribute pair.value x.value y.value is.is_value also.is_value in
      λ i. record { id = id i; value = value i }

  one_name : (is_root : Bool) → HasOne (IsObjectName ms linked is_root)
  one_name true pairs one other is also = is ∙ sym also
  one_name false pairs one other is also = one_each (IsPart ms linked) one_part pairs one other is also

  pub one_instance : HasOne (IsInstanceRecord ms linked)
  one_instance part x y is also =
      let class = one_class linked part.class x.class y.class is.is_class also.is_class in
      let name = one_name part.is_root part.name.items x.name y.name is.is_name also.is_name in
      let given = one_each (IsGiven ms linked) one_given part.given.items x.given y.given is.given_are
      also.given_are in
      let chosen = one_identifiers (λ z. z.head) linked.packages.items part.packages.items x.chosen y.chosen
      is.chosen_are also.chosen_are in
      λ i. record {
        root = (sym is.is_root ∙ also.is_root) i;
        class = class i;
        name = name i;
        given = given i;
        chosen = chosen i;
      }

  one_stated : HasOne (IsStatedName ms linked)
  one_stated None one other is also = is ∙ sym also
  one_stated (Some part) one other is also = one_each (IsPart ms linked) one_part part.name.items one other is also

  pub one_system : (one other : List Rdn) → IsSystemName ms linked one → IsSystemName ms linked other → one ≡ other
  one_system = one_stated (first_root linked.instances.items)
