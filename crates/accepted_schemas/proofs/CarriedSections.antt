-- CarriedSections: the records of rules and instances, and the name of the system, are those of alike ones
-- (docs/PROFILE.md, sections 9 and 16).
use Rattle.std.specs.Prelude.{◌≡◌, ℕ, [], ◌∷◌, List, Bool, true, false, cond, None, Some, Option, option_map}
use Rattle.std.specs.Prelude.{refl, slice_get}
use Rattle.std.proofs.Common.{◌∙◌, ap, sym}
use Rattle.std.proofs.Math.Path.{subst}
use Rattle.std.proofs.lemmas.Option.{none-some, same_Some}
use Rattle.term_values.specs.Syntaxes.{TypeSyntax}
use Rattle.term_values.specs.Typed.{TypedValue}
use Rattle.term_model.specs.declared.name.Rdn.{Rdn}
use Rattle.term_model.specs.declared.object.Attribute.{Attribute}
use Rattle.term_model.specs.declared.rule.RuleRec.{RuleRec}
use Rattle.term_model.specs.declared.rule.RuleStep.{RuleStep}
use Rattle.term_model.specs.declared.schema.InstRec.{InstRec}
use Rattle.asn1_values_syntax.specs.ValueTrees.{value_tree}
use Rattle.asn1_values_syntax.specs.declared.value.ValueText.{ValueText}
use Rattle.asn1_names.specs.ModuleTerms.{ModuleTerm}
use Rattle.gdmo_names.specs.InStep.{AreEach as AreInStep}
use Rattle.gdmo_linking.proofs.StepLaws.{each_at}
use Rattle.linked_parts.specs.declared.linked.Linked.{Linked}
use Rattle.linked_parts.specs.declared.linked.LinkedInstance.{LinkedInstance}
use Rattle.linked_parts.specs.declared.linked.LinkedName.{LinkedName}
use Rattle.linked_parts.specs.declared.linked.LinkedPair.{LinkedPair}
use Rattle.linked_parts.specs.declared.linked.LinkedRule.{LinkedRule}
use Rattle.linked_parts.specs.declared.linked.LinkedStep.{LinkedStep}
use Rattle.linked_parts.specs.declared.linked.LinkedStep.TheVariants.{Emit, ReplyValue, SetValue}
use Rattle.filled_syntaxes.specs.LinkedMeanings.{linked_arcs}
use Rattle.filled_syntaxes.specs.SaidTexts.{DenotesValue}
use Rattle.class_faults.specs.AttributeSyntaxes.{AttributeHas}
use Rattle.linked_types.specs.PartIdentifiers.{AreEach}
use Rattle.section_values.specs.SectionRecords.{IsEmitted, IsRule, IsStep, IsValueFor, IsValueOfType}
use Rattle.section_values.specs.SectionRecords.IsStep.{add, emit, reply_argument, reply_attribute, reply_value}
use Rattle.section_values.specs.SectionRecords.IsStep.{set_argument, set_value}
use Rattle.instance_records.specs.InstanceRecords.{IsGiven, IsInstanceRecord, IsObjectName, IsPart, IsStatedName}
use Rattle.instance_records.specs.InstanceRecords.{first_root}
use Rattle.accepted_laws.specs.AlikeParts.{ActionsAlike, AreAlike, InstancesAlike, NotificationsAlike, PairsAlike}
use Rattle.accepted_laws.specs.AlikeParts.{RulesAlike, StepsAlike, two_emissions, two_equal, two_replies, two_values}
use Rattle.accepted_laws.proofs.AlikeClasses.{same_syntax, same_type}
use Rattle.accepted_schemas.proofs.CarriedNames.{action_id, attribute_id, class_id, each_carried, package_ids}

module _ (ms : List ModuleTerm) {linked other : Linked} (alike : AreAlike linked other) where
  -- ---- values

  -- a text of one tree denotes one value
  denotes_alike : (x y : ValueText) {syntax : TypeSyntax} {value : TypedValue} → value_tree x ≡ value_tree y →
      DenotesValue (linked_arcs linked) syntax (value_tree x) value →
      DenotesValue (linked_arcs other) syntax (value_tree y) value
  denotes_alike x y {syntax} {value} tree denotes =
      subst (λ t. DenotesValue (linked_arcs other) syntax t value) tree
      (subst (λ arcs. DenotesValue arcs syntax (value_tree x) value) alike.arcs denotes)

  syntax_alike : {j k : ℕ} {syntax : TypeSyntax} → j ≡ k → AttributeHas ms linked j syntax →
      AttributeHas ms other k syntax
  syntax_alike {syntax = syntax} same has = subst (λ n. AttributeHas ms other n syntax) same (same_syntax alike has)

  value_for_alike : {j k : ℕ} (x y : ValueText) {value : TypedValue} → j ≡ k → value_tree x ≡ value_tree y →
      IsValueFor ms linked j x value → IsValueFor ms other k y value
  value_for_alike x y same tree is = (is.0, syntax_alike same is.1, denotes_alike x y tree is.2)

  of_type_alike : (name its_name : Option LinkedName) (x y : ValueText) (value : TypedValue) → name ≡ its_name →
      value_tree x ≡ value_tree y → IsValueOfType ms linked name x value → IsValueOfType ms other its_name y value
  of_type_alike name its_name x y value same tree is =
      subst (λ n. IsValueOfType ms other n y value) same (by name is)
    where
      by : (name : Option LinkedName) → IsValueOfType ms linked name x value → IsValueOfType ms other name y value
      by None is = absurd is
      by (Some name) is = (is.0, same_type name alike is.1, denotes_alike x y tree is.2)

  abbrev HaveOneTree : Option ValueText → Option ValueText → Type 0
  HaveOneTree x y = option_map value_tree x ≡ option_map value_tree y

  emitted_alike : (name its_name : Option LinkedName) (x y : Option ValueText) (value : Option TypedValue) →
      name ≡ its_name → HaveOneTree x y → IsEmitted ms linked name x value → IsEmitted ms other its_name y value
  emitted_alike name its_name None None None same tree is = tt
  emitted_alike name its_name None None (Some value) same tree is = absurd is
  emitted_alike name its_name None (Some y) value same tree is = absurd (none-some (value_tree y) tree)
  emitted_alike name its_name (Some x) None value same tree is = absurd (none-some (value_tree x) (sym tree))
  emitted_alike name its_name (Some x) (Some y) None same tree is = absurd is
  emitted_alike name its_name (Some x) (Some y) (Some value) same tree is =
      of_type_alike name its_name x y value same (same_Some (value_tree x) (value_tree y) tree) is

  -- ---- rules

  module _ (rule its_rule : LinkedRule) (same_rule : RulesAlike rule its_rule) where
    value_step : {j k : ℕ} (x y : ValueText) {step : RuleStep} → j ≡ k → value_tree x ≡ value_tree y →
        IsStep ms linked rule (SetValue j x) step → IsStep ms other its_rule (SetValue k y) step
    value_step {j} {k} x y same tree (set_value {id = id} is given) =
        set_value (attribute_id alike j k id same is) (value_for_alike x y same tree given)

    emission_step : {j k : ℕ} (x y : Option ValueText) {step : RuleStep} → j ≡ k → HaveOneTree x y →
        IsStep ms linked rule (Emit j x) step → IsStep ms other its_rule (Emit k y) step
    emission_step {j} {k} x y same tree (emit {value = value} {part = part} stands called given) =
        let found = each_at NotificationsAlike linked.notifications.items other.notifications.items j part
        alike.notifications stands in
        emit (subst (λ n. slice_get other.notifications.items n ≡ Some found.0) same found.1)
        (sym found.2.head.identifier ∙ called)
        (emitted_alike part.information found.0.information x y value found.2.information tree given)

    reply_step : (x y : ValueText) {step : RuleStep} → value_tree x ≡ value_tree y →
        IsStep ms linked rule (ReplyValue x) step → IsStep ms other its_rule (ReplyValue y) step
    reply_step x y tree (reply_value {value = value} {part = part} stands given) =
        let found = each_at ActionsAlike linked.actions.items other.actions.items rule.action part alike.actions
        stands in
        reply_value (subst (λ n. slice_get other.actions.items n ≡ Some found.0) same_rule.action found.1)
        (of_type_alike part.reply found.0.reply x y value found.2.reply tree given)

    same_step : {linked_step : LinkedStep} {step : RuleStep} → IsStep ms linked rule linked_step step →
        IsStep ms other its_rule linked_step step
    same_step (set_argument {k = k} {id = id} is) = set_argument (attribute_id alike k k id refl is)
    same_step (set_value {text = text} is given) = value_step text text refl refl (set_value is given)
    same_step (add {k = k} {id = id} is) = add (attribute_id alike k k id refl is)
    same_step (emit {text = text} stands called given) =
        emission_step text text refl refl (emit stands called given)
    same_step reply_argument = reply_argument
    same_step (reply_attribute {k = k} {id = id} is) = reply_attribute (attribute_id alike k k id refl is)
    same_step (reply_value {text = text} stands given) = reply_step text text refl (reply_value stands given)

    step_alike : (x y : LinkedStep) (step : RuleStep) → StepsAlike x y → IsStep ms linked rule x step →
        IsStep ms other its_rule y step
    step_alike x y step (two_equal same) is = subst (λ z. IsStep ms other its_rule z step) same (same_step is)
    step_alike x y step (two_values {x = v} {y = w} same tree) is = value_step v w same tree is
    step_alike x y step (two_emissions {x = v} {y = w} same tree) is =
        emission_step (Some v) (Some w) same (ap Some tree) is
    step_alike x y step (two_replies {x = v} {y = w} tree) is = reply_step v w tree is

  pub rule_alike : (part its_part : LinkedRule) (x : RuleRec) → RulesAlike part its_part → IsRule ms linked part x →
      IsRule ms other its_part x
  rule_alike part its_part x same is = record {
    is_class = class_id alike part.class its_part.class x.class same.class is.is_class;
    is_action = action_id alike part.action its_part.action x.action same.action is.is_action;
    steps_are = each_carried StepsAlike (IsStep ms linked part) (IsStep ms other its_part)
        (step_alike part its_part same) part.steps.items its_part.steps.items x.steps same.steps is.steps_are;
  }

  -- ---- instances

  part_alike : (pair its_pair : LinkedPair) (x : Rdn) → PairsAlike pair its_pair → IsPart ms linked pair x →
      IsPart ms other its_pair x
  part_alike pair its_pair x same is = record {
    is_attribute = attribute_id alike pair.attribute its_pair.attribute x.attribute same.attribute is.is_attribute;
    syntax = is.syntax;
    has = syntax_alike same.attribute is.has;
    denoted = is.denoted;
    denotes = denotes_alike pair.value its_pair.value same.value is.denotes;
    is_written = is.is_written;
  }

  parts_alike : (pairs its_pairs : List LinkedPair) (name : List Rdn) → AreInStep PairsAlike pairs its_pairs →
      AreEach (IsPart ms linked) pairs name → AreEach (IsPart ms other) its_pairs name
  parts_alike = each_carried PairsAlike (IsPart ms linked) (IsPart ms other) part_alike

  given_alike : (pair its_pair : LinkedPair) (x : Attribute) → PairsAlike pair its_pair → IsGiven ms linked pair x →
      IsGiven ms other its_pair x
  given_alike pair its_pair x same is = record {
    is_attribute = attribute_id alike pair.attribute its_pair.attribute x.id same.attribute is.is_attribute;
    is_value = value_for_alike pair.value its_pair.value same.attribute same.value is.is_value;
  }

  name_alike : (is_root root : Bool) (pairs its_pairs : List LinkedPair) (name : List Rdn) → is_root ≡ root →
      AreInStep PairsAlike pairs its_pairs → IsObjectName ms linked is_root pairs name →
      IsObjectName ms other root its_pairs name
  name_alike true true pairs its_pairs name same each is = is
  name_alike true false pairs its_pairs name same each is = absurd (cc)
  name_alike false true pairs its_pairs name same each is = absurd (cc)
  name_alike false false pairs its_pairs name same each is = parts_alike pairs its_pairs name each is

  pub instance_alike : (part its_part : LinkedInstance) (x : InstRec) → InstancesAlike part its_part →
      IsInstanceRecord ms linked part x → IsInstanceRecord ms other its_part x
  instance_alike part its_part x same is = record {
    is_root = sym same.is_root ∙ is.is_root;
    is_class = class_id alike part.class its_part.class x.class same.class is.is_class;
    is_name = name_alike part.is_root its_part.is_root part.name.items its_part.name.items x.name same.is_root
        same.name is.is_name;
    given_are = each_carried PairsAlike (IsGiven ms linked) (IsGiven ms other) given_alike part.given.items
        its_part.given.items x.given same.given is.given_are;
    chosen_are = package_ids alike part.packages.items its_part.packages.items x.chosen same.packages is.chosen_are;
  }

  -- the name of the system is that of the first instance behind ROOT
  first_alike : (is_root root : Bool) (x y : LinkedInstance) (rest its_rest : Option LinkedInstance)
      (name : List Rdn) → is_root ≡ root → InstancesAlike x y →
      (IsStatedName ms linked rest name → IsStatedName ms other its_rest name) →
      IsStatedName ms linked (cond is_root (Some x) rest) name →
      IsStatedName ms other (cond root (Some y) its_rest) name
  first_alike true true x y rest its_rest name same alike_two behind is =
      parts_alike x.name.items y.name.items name alike_two.name is
  first_alike true false x y rest its_rest name same alike_two behind is = absurd (cc)
  first_alike false true x y rest its_rest name same alike_two behind is = absurd (cc)
  first_alike false false x y rest its_rest name same alike_two behind is = behind is

  pub system_alike : (xs ys : List LinkedInstance) (name : List Rdn) → AreInStep InstancesAlike xs ys →
      IsStatedName ms linked (first_root xs) name → IsStatedName ms other (first_root ys) name
  system_alike [] [] name each is = is
  system_alike [] (y ∷ ys) name each is = absurd each
  system_alike (x ∷ xs) [] name each is = absurd each
  system_alike (x ∷ xs) (y ∷ ys) name each is =
      first_alike x.is_root y.is_root x y (first_root xs) (first_root ys) name each.0.is_root each.0
      (system_alike xs ys name each.1) is
