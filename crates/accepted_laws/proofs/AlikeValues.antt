-- AlikeValues: linked parts that are alike have the same values that don't fit, and so they have the same faults of
-- classes (X.680, section 17.7; X.722, section 8.4; docs/PROFILE.md, sections 9, 11 and 18).
use Rattle.std.specs.Prelude.{◌⊎◌, Contains, slice_get}
use Rattle.std.proofs.Common.{◌≡◌, ℕ, List, Option, Some, refl, sym, ◌∙◌, inl, inr, subst}
use Rattle.asn1_values_syntax.specs.declared.value.ValueText.{ValueText}
use Rattle.asn1_values_syntax.specs.ValueTrees.{value_tree}
use Rattle.asn1_names.specs.ModuleTerms.{ModuleTerm}
use Rattle.gdmo_linking.proofs.StepLaws.{each_at}
use Rattle.linked_parts.specs.declared.linked.Linked.{Linked}
use Rattle.linked_parts.specs.declared.linked.LinkedInstance.{LinkedInstance}
use Rattle.linked_parts.specs.declared.linked.LinkedName.{LinkedName}
use Rattle.linked_parts.specs.declared.linked.LinkedPair.{LinkedPair}
use Rattle.linked_parts.specs.declared.linked.LinkedRule.{LinkedRule}
use Rattle.linked_parts.specs.declared.linked.LinkedStep.{LinkedStep}
use Rattle.linked_parts.specs.declared.linked.LinkedStep.TheVariants.{Emit, ReplyValue, SetValue}
use Rattle.filled_syntaxes.specs.BadAssignments.{BadAssignedAt, BadDefaultAt}
use Rattle.filled_syntaxes.specs.FilledSyntaxes.{HasFilled}
use Rattle.filled_syntaxes.specs.LinkedMeanings.{AssignsNone, assignment_meaning, linked_arcs}
use Rattle.filled_syntaxes.specs.SaidTexts.{DenotesNone}
use Rattle.class_faults.specs.AttributeSyntaxes.{AttributeHas}
use Rattle.class_faults.specs.BadValues.{BadInstanceAt, BadRuleAt, BadStatedAt, BadValueAt, IsBadFor, IsBadForAttribute}
use Rattle.class_faults.specs.BadValues.{IsBadStep}
use Rattle.class_faults.specs.BadValues.BadValueAt.{of_assignment, of_default, of_instance, of_package, of_rule}
use Rattle.class_faults.specs.BadValues.IsBadStep.{emit, reply, set_value}
use Rattle.class_faults.specs.FirstClassFault.{ClassFault, HasFault}
use Rattle.class_faults.specs.FirstClassFault.ClassFault.{ClassCyclic, DefaultUnequal, PermittedEmpty, SetMissing}
use Rattle.class_faults.specs.FirstClassFault.ClassFault.{ValueBad}
use Rattle.accepted_laws.specs.AlikeParts.{ActionsAlike, AreAlike, InstancesAlike, NotificationsAlike, PackagesAlike}
use Rattle.accepted_laws.specs.AlikeParts.{PairsAlike, RulesAlike, StepsAlike, two_emissions, two_equal, two_replies}
use Rattle.accepted_laws.specs.AlikeParts.{two_values}
use Rattle.accepted_laws.proofs.AlikeClasses.{each_contained, same_cycles, same_defaults, same_permits, same_sets}
use Rattle.accepted_laws.proofs.AlikeClasses.{same_syntax, same_type, same_value}
use Rattle.accepted_laws.proofs.StepValues.{one_begin}

-- ---- what modules assign

assigned_alike : {ms : List ModuleTerm} {linked other : Linked} {document at : ℕ} → AreAlike linked other →
    BadAssignedAt ms linked document at → BadAssignedAt ms other document at
assigned_alike {ms = ms} {at = at} alike fault = record {
  m = fault.m;
  i = fault.i;
  is_of = fault.is_of;
  none = subst (λ arcs. AssignsNone ms arcs (assignment_meaning ms fault.m fault.i) at) alike.arcs fault.none;
}

default_alike : {ms : List ModuleTerm} {linked other : Linked} {document at : ℕ} → AreAlike linked other →
    BadDefaultAt ms linked document at → BadDefaultAt ms other document at
default_alike {ms = ms} {at = at} alike fault = record {
  m = fault.m;
  i = fault.i;
  syntax = fault.syntax;
  has = subst (λ arcs. HasFilled ms arcs (assignment_meaning ms fault.m fault.i) fault.syntax) alike.arcs fault.has;
  path = fault.path;
  component = fault.component;
  is_part = fault.is_part;
  v = fault.v;
  text = fault.text;
  stands = fault.stands;
  is_of = fault.is_of;
  none = subst (λ arcs. DenotesNone arcs fault.component fault.text at) alike.arcs fault.none;
}

-- ---- what packages state

stated_alike : {ms : List ModuleTerm} {linked other : Linked} {document at : ℕ} → AreAlike linked other →
    BadStatedAt ms linked document at → BadStatedAt ms other document at
stated_alike {linked = linked} {other = other} alike fault =
    let found = each_at PackagesAlike linked.packages.items other.packages.items fault.place fault.of_package
    alike.packages fault.stands in
    record {
      place = fault.place;
      of_package = found.0;
      stands = found.1;
      in_document = sym found.2.head.document ∙ fault.in_document;
      stated = fault.stated;
      says = subst (λ uses. Contains uses fault.stated) found.2.attributes fault.says;
      name = fault.name;
      is_stated = fault.is_stated;
      at_token = fault.at_token;
      value = fault.value;
      has_value = same_value fault.name alike fault.has_value;
      syntax = fault.syntax;
      has = same_syntax alike fault.has;
      misfit = fault.misfit;
    }

-- ---- rules and instances

-- a text of one tree, of one attribute
of_attribute_alike : {ms : List ModuleTerm} {linked other : Linked} {j k : ℕ} (x y : ValueText) {at : ℕ} →
    AreAlike linked other → j ≡ k → value_tree x ≡ value_tree y → IsBadForAttribute ms linked j x at →
    IsBadForAttribute ms other k y at
of_attribute_alike {ms} {linked} {other} {j} {k} x y {at} alike same tree fault = (
  fault.0,
  subst (λ n. AttributeHas ms other n fault.0) same (same_syntax alike fault.1),
  subst (λ t. DenotesNone (linked_arcs other) fault.0 t at) tree
      (subst (λ arcs. DenotesNone arcs fault.0 (value_tree x) at) alike.arcs fault.2),
)

-- of one type
of_type_alike : {ms : List ModuleTerm} {linked other : Linked} {type its_type : Option LinkedName} (x y : ValueText)
    {at : ℕ} → AreAlike linked other → type ≡ its_type → value_tree x ≡ value_tree y → IsBadFor ms linked type x at →
    IsBadFor ms other its_type y at
of_type_alike x y alike same tree (inl none) = inl (sym same ∙ none.0, sym (one_begin x y tree) ∙ none.1)
of_type_alike {other = other} x y {at} alike same tree (inr fault) = inr (
  fault.0,
  (
    fault.1.0,
    sym same ∙ fault.1.1,
    same_type fault.0 alike fault.1.2,
    subst (λ t. DenotesNone (linked_arcs other) fault.1.0 t at) tree
        (subst (λ arcs. DenotesNone arcs fault.1.0 (value_tree x) at) alike.arcs fault.1.3),
  ),
)

-- a step of a rule
module _ (ms : List ModuleTerm) (linked other : Linked) (alike : AreAlike linked other) (rule its_rule : LinkedRule)
    (rules : RulesAlike rule its_rule) where
  emission_alike : {j k at : ℕ} (x y : ValueText) → j ≡ k → value_tree x ≡ value_tree y →
      IsBadStep ms linked rule (Emit j (Some x)) at → IsBadStep ms other its_rule (Emit k (Some y)) at
  emission_alike {j} {k} x y same tree (emit {notification = notification} stands fault) =
      let found = each_at NotificationsAlike linked.notifications.items other.notifications.items j notification
      alike.notifications stands in
      emit (subst (λ n. slice_get other.notifications.items n ≡ Some found.0) same found.1)
      (of_type_alike x y alike found.2.information tree fault)

  reply_alike : {at : ℕ} (x y : ValueText) → value_tree x ≡ value_tree y →
      IsBadStep ms linked rule (ReplyValue x) at → IsBadStep ms other its_rule (ReplyValue y) at
  reply_alike x y tree (reply {action = action} stands fault) =
      let found = each_at ActionsAlike linked.actions.items other.actions.items rule.action action alike.actions
      stands in
      reply (subst (λ n. slice_get other.actions.items n ≡ Some found.0) rules.action found.1)
      (of_type_alike x y alike found.2.reply tree fault)

  value_alike : {j k at : ℕ} (x y : ValueText) → j ≡ k → value_tree x ≡ value_tree y →
      IsBadStep ms linked rule (SetValue j x) at → IsBadStep ms other its_rule (SetValue k y) at
  value_alike x y same tree (set_value fault) = set_value (of_attribute_alike x y alike same tree fault)

  same_step : {step : LinkedStep} {at : ℕ} → IsBadStep ms linked rule step at → IsBadStep ms other its_rule step at
  same_step (set_value {text = text} fault) = set_value (of_attribute_alike text text alike refl refl fault)
  same_step (emit {text = text} stands fault) = emission_alike text text refl refl (emit stands fault)
  same_step (reply {text = text} stands fault) = reply_alike text text refl (reply stands fault)

  step_alike : {step its_step : LinkedStep} {at : ℕ} → StepsAlike step its_step → IsBadStep ms linked rule step at →
      IsBadStep ms other its_rule its_step at
  step_alike {at = at} (two_equal same) fault =
      subst (λ step. IsBadStep ms other its_rule step at) same (same_step fault)
  step_alike (two_values {x = x} {y = y} same tree) fault = value_alike x y same tree fault
  step_alike (two_emissions {x = x} {y = y} same tree) fault = emission_alike x y same tree fault
  step_alike (two_replies {x = x} {y = y} tree) fault = reply_alike x y tree fault

rule_alike : {ms : List ModuleTerm} {linked other : Linked} {document at : ℕ} → AreAlike linked other →
    BadRuleAt ms linked document at → BadRuleAt ms other document at
rule_alike {ms} {linked} {other} alike fault =
    let found = each_contained RulesAlike linked.rules.items other.rules.items fault.rule alike.rules fault.there in
    let step = each_contained StepsAlike fault.rule.steps.items found.0.steps.items fault.step found.2.steps
    fault.says in
    record {
      rule = found.0;
      there = found.1;
      in_document = sym found.2.document ∙ fault.in_document;
      step = step.0;
      says = step.1;
      bad = step_alike ms linked other alike fault.rule found.0 found.2 step.2 fault.bad;
    }

-- a pair of an instance
pair_alike : {x y : LinkedInstance} {pair : LinkedPair} → InstancesAlike x y →
    Contains x.name.items pair ⊎ Contains x.given.items pair →
    (other : LinkedPair) × (Contains y.name.items other ⊎ Contains y.given.items other) × PairsAlike pair other
pair_alike {x} {y} {pair} same (inl has) =
    let found = each_contained PairsAlike x.name.items y.name.items pair same.name has in
    (found.0, inl found.1, found.2)
pair_alike {x} {y} {pair} same (inr has) =
    let found = each_contained PairsAlike x.given.items y.given.items pair same.given has in
    (found.0, inr found.1, found.2)

instance_alike : {ms : List ModuleTerm} {linked other : Linked} {document at : ℕ} → AreAlike linked other →
    BadInstanceAt ms linked document at → BadInstanceAt ms other document at
instance_alike {ms} {linked} {other} alike fault =
    let found = each_contained InstancesAlike linked.instances.items other.instances.items fault.instance
    alike.instances fault.there in
    let pair = pair_alike found.2 fault.says in
    record {
      instance = found.0;
      there = found.1;
      in_document = sym found.2.document ∙ fault.in_document;
      pair = pair.0;
      says = pair.1;
      bad = of_attribute_alike fault.pair.value pair.0.value alike pair.2.attribute pair.2.value fault.bad;
    }

same_values : {ms : List ModuleTerm} {linked other : Linked} {document at : ℕ} → AreAlike linked other →
    BadValueAt ms linked document at → BadValueAt ms other document at
same_values alike (of_assignment fault) = of_assignment (assigned_alike alike fault)
same_values alike (of_default fault) = of_default (default_alike alike fault)
same_values alike (of_package fault) = of_package (stated_alike alike fault)
same_values alike (of_rule fault) = of_rule (rule_alike alike fault)
same_values alike (of_instance fault) = of_instance (instance_alike alike fault)

-- ---- all faults of classes

pub same_faults : (ms : List ModuleTerm) {linked other : Linked} (kind : ClassFault) (document at : ℕ) →
    AreAlike linked other → AreAlike other linked → HasFault ms linked kind document at →
    HasFault ms other kind document at
same_faults ms ClassCyclic document at alike back fault = same_cycles alike fault
same_faults ms DefaultUnequal document at alike back fault = same_defaults alike back fault
same_faults ms PermittedEmpty document at alike back fault = same_permits alike back fault
same_faults ms SetMissing document at alike back fault = same_sets alike fault
same_faults ms ValueBad document at alike back fault = same_values alike fault
