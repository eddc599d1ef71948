-- SectionLaws: what rules and instances name, and what is noted of them; and what the sentences say of it.
use Rattle.std.proofs.Common.{◌≡◌, ◌⊎◌, ◌<◌, ◌≤◌, ◌∙◌, ◌+◌, ℕ, List, [], ◌∷◌, ◌++◌, Option, sym, ap}
use Rattle.std.proofs.Common.{get_or, inl, inr, length, refl, take}
use Rattle.std.specs.Prelude.{Contains, flat_map}
use Rattle.std.proofs.lemmas.Grind.{flat_map-append}
use Rattle.std.proofs.lemmas.List.{append-nil, take_all}
use Rattle.std.proofs.Math.Path.{subst}
use Rattle.token_grammar.specs.declared.token.Token.{Token}
use Rattle.gdmo_names.specs.declared.first_fault.LabelFault.{LabelFault as NotedFault}
use Rattle.gdmo_names.specs.declared.found.Found.{Found}
use Rattle.gdmo_targets.specs.declared.section_references.SectionTargets.{SectionTargets}
use Rattle.gdmo_names.specs.FaultSets.{AnyOf, Either, FaultSet, FaultsOfTemplates, Notes, ReferenceFaults}
use Rattle.gdmo_names.specs.FirstLabelFault.{HasFault, LabelFault}
use Rattle.gdmo_names.specs.FirstLabelFault.LabelFault.{KindWrong}
use Rattle.gdmo_names.specs.InStep.{AddsEach}
use Rattle.gdmo_names.specs.Mentions.{Role}
use Rattle.gdmo_names.specs.Mentions.Role.{RuleClass, RuleAction, StepAttribute, StepNotification}
use Rattle.gdmo_names.specs.Mentions.Role.{InstanceClass, NameAttribute, GivenAttribute, ChosenPackage}
use Rattle.gdmo_names.specs.PartTerms.{PartTerms, StepTerm, RuleTerm, InstanceTerm}
use Rattle.gdmo_names.specs.PartTerms.StepTerm.{SetTo, AddTo, EmitOf, ReplyWith}
use Rattle.gdmo_names.specs.References.{Refers}
use Rattle.gdmo_names.specs.References.Refers.{by_template, rule_class, rule_action, step_attribute, step_notification}
use Rattle.gdmo_names.specs.References.Refers.{instance_class, name_attribute, given_attribute, chosen_package}
use Rattle.gdmo_names.specs.RuleFaults.{IsStatedTwice}
use Rattle.gdmo_names.specs.RuleWords.NamesByLabel.{set as named_by_set, add as named_by_add, reply as named_by_reply}
use Rattle.gdmo_names.specs.RuleWords.{HasStep, NamesByLabel}
use Rattle.gdmo_names.specs.SectionFaults.{FaultsOfInstance, FaultsOfPair, FaultsOfReplies, FaultsOfRule}
use Rattle.gdmo_names.specs.SectionFaults.{FaultsOfSections, FaultsOfStep, LabelFaults, StatedTwice}
use Rattle.gdmo_targets.specs.SectionTables.{AreSectionTargets, IsInstanceTargets, IsRuleTargets, TellsSection}
use Rattle.gdmo_names.specs.TemplateTerms.{ReferenceTerm}
use Rattle.gdmo_names.specs.TemplateTerms.ReferenceTerm.{ByLabel}
use Rattle.gdmo_names.specs.WrongKinds.WrongKindAt.{stated_twice}
use Rattle.gdmo_names.proofs.InStepLaws.{added_all, added_both, added_none, any_both, any_parted}
use Rattle.gdmo_names.proofs.NotingLaws.{both_noted, left_noted, more, noted_by, none_noted, right_noted}
use Rattle.gdmo_targets.proofs.ReferenceLaws.{any_in, any_out, by_template_noted, reference_fault}

-- ---- sections, one behind the other

pub sections_none : (parts : PartTerms) (xs : List Found) (targets : SectionTargets) (noted : Option NotedFault) →
    TellsSection parts xs [] [] targets targets noted noted
sections_none parts xs targets noted = record {
  adds_rules = added_none (IsRuleTargets parts xs) targets.rules.items;
  adds_instances = added_none (IsInstanceTargets parts xs) targets.instances.items;
  notes = none_noted (Either (AnyOf (FaultsOfRule parts) []) (AnyOf (FaultsOfInstance parts) [])) noted
      (λ k d t fault. elim fault as (λ _. ⊥) [
        | inl here ↦ here
        | inr here ↦ here
      ]);
}

abbrev FaultsIn : PartTerms → List RuleTerm → List InstanceTerm → FaultSet
FaultsIn parts rules instances =
    Either (AnyOf (FaultsOfRule parts) rules) (AnyOf (FaultsOfInstance parts) instances)

together : (parts : PartTerms) (rules more_rules : List RuleTerm) (instances more_instances : List InstanceTerm)
    (kind : LabelFault) (document token : ℕ) →
    Either (FaultsIn parts rules instances) (FaultsIn parts more_rules more_instances) kind document token →
    FaultsIn parts (rules ++ more_rules) (instances ++ more_instances) kind document token
together parts rules more_rules instances more_instances kind document token (inl (inl here)) =
    inl (any_both (FaultsOfRule parts) rules more_rules kind document token (inl here))
together parts rules more_rules instances more_instances kind document token (inl (inr here)) =
    inr (any_both (FaultsOfInstance parts) instances more_instances kind document token (inl here))
together parts rules more_rules instances more_instances kind document token (inr (inl here)) =
    inl (any_both (FaultsOfRule parts) rules more_rules kind document token (inr here))
together parts rules more_rules instances more_instances kind document token (inr (inr here)) =
    inr (any_both (FaultsOfInstance parts) instances more_instances kind document token (inr here))

apart : (parts : PartTerms) (rules more_rules : List RuleTerm) (instances more_instances : List InstanceTerm)
    (kind : LabelFault) (document token : ℕ) →
    FaultsIn parts (rules ++ more_rules) (instances ++ more_instances) kind document token →
    Either (FaultsIn parts rules instances) (FaultsIn parts more_rules more_instances) kind document token
apart parts rules more_rules instances more_instances kind document token (inl here) =
    elim (any_parted (FaultsOfRule parts) rules more_rules kind document token here) as
    (λ _. Either (FaultsIn parts rules instances) (FaultsIn parts more_rules more_instances) kind document token) [
      | inl one ↦ inl (inl one)
      | inr one ↦ inr (inl one)
    ]
apart parts rules more_rules instances more_instances kind document token (inr here) =
    elim (any_parted (FaultsOfInstance parts) instances more_instances kind document token here) as
    (λ _. Either (FaultsIn parts rules instances) (FaultsIn parts more_rules more_instances) kind document token) [
      | inl one ↦ inl (inr one)
      | inr one ↦ inr (inr one)
    ]

pub sections_both : (parts : PartTerms) (xs : List Found) (rules more_rules : List RuleTerm)
    (instances more_instances : List InstanceTerm) (before between after : SectionTargets)
    {noted then_noted last : Option NotedFault} →
    TellsSection parts xs rules instances before between noted then_noted →
    TellsSection parts xs more_rules more_instances between after then_noted last →
    TellsSection parts xs (rules ++ more_rules) (instances ++ more_instances) before after noted last
sections_both parts xs rules more_rules instances more_instances before between after p q = record {
  adds_rules = added_both (IsRuleTargets parts xs) rules more_rules before.rules.items between.rules.items
      after.rules.items p.adds_rules q.adds_rules;
  adds_instances = added_both (IsInstanceTargets parts xs) instances more_instances before.instances.items
      between.instances.items after.instances.items p.adds_instances q.adds_instances;
  notes = noted_by (Either (FaultsIn parts rules instances) (FaultsIn parts more_rules more_instances))
      (FaultsIn parts (rules ++ more_rules) (instances ++ more_instances))
      (together parts rules more_rules instances more_instances)
      (apart parts rules more_rules instances more_instances)
      (both_noted (FaultsIn parts rules instances) (FaultsIn parts more_rules more_instances) p.notes q.notes);
}

-- a section of rules, and one of instances
pub of_rules : (parts : PartTerms) (xs : List Found) (rules : List RuleTerm) (before after : SectionTargets)
    {noted last : Option NotedFault} →
    AddsEach (IsRuleTargets parts xs) rules before.rules.items after.rules.items →
    after.instances.items ≡ before.instances.items → Notes (AnyOf (FaultsOfRule parts) rules) noted last →
    TellsSection parts xs rules [] before after noted last
of_rules parts xs rules before after adds same h = record {
  adds_rules = adds;
  adds_instances = subst (λ os. AddsEach (IsInstanceTargets parts xs) [] before.instances.items os) (sym same)
      (added_none (IsInstanceTargets parts xs) before.instances.items);
  notes = left_noted (AnyOf (FaultsOfRule parts) rules) (AnyOf (FaultsOfInstance parts) []) (λ k d t fault. fault) h;
}

pub of_instances : (parts : PartTerms) (xs : List Found) (instances : List InstanceTerm) (before after : SectionTargets)
    {noted last : Option NotedFault} →
    AddsEach (IsInstanceTargets parts xs) instances before.instances.items after.instances.items →
    after.rules.items ≡ before.rules.items → Notes (AnyOf (FaultsOfInstance parts) instances) noted last →
    TellsSection parts xs [] instances before after noted last
of_instances parts xs instances before after adds same h = record {
  adds_rules = subst (λ os. AddsEach (IsRuleTargets parts xs) [] before.rules.items os) (sym same)
      (added_none (IsRuleTargets parts xs) before.rules.items);
  adds_instances = adds;
  notes = right_noted (AnyOf (FaultsOfRule parts) []) (AnyOf (FaultsOfInstance parts) instances)
      (λ k d t fault. fault) h;
}

pub flat_more : {X Y : Type 0} (f : X → List Y) (xs : List X) (i : ℕ) (x : X) → i < length xs → x ≡ get_or xs i x →
    flat_map f (take (i + 1) xs) ≡ flat_map f (take i xs) ++ f x
flat_more f xs i x within is = ap (flat_map f) (more xs i x within is) ∙ flat_map-append f (take i xs) (x ∷ [])
    ∙ ap (λ zs. flat_map f (take i xs) ++ zs) (append-nil (f x))

pub sections_step : {X : Type 0} (parts : PartTerms) (found : List Found) (rules : X → List RuleTerm)
    (instances : X → List InstanceTerm) (xs : List X) (i : ℕ) (x : X) (before between after : SectionTargets)
    {noted then_noted last : Option NotedFault} → i < length xs → x ≡ get_or xs i x →
    TellsSection parts found (flat_map rules (take i xs)) (flat_map instances (take i xs)) before between noted
    then_noted → TellsSection parts found (rules x) (instances x) between after then_noted last →
    TellsSection parts found (flat_map rules (take (i + 1) xs)) (flat_map instances (take (i + 1) xs)) before after
    noted last
sections_step parts found rules instances xs i x before between after {noted = noted} {last = last} within is p q =
    subst (λ rs. TellsSection parts found rs (flat_map instances (take (i + 1) xs)) before after noted last)
    (sym (flat_more rules xs i x within is))
    (subst (λ os. TellsSection parts found (flat_map rules (take i xs) ++ rules x) os before after noted last)
    (sym (flat_more instances xs i x within is))
    (sections_both parts found (flat_map rules (take i xs)) (rules x) (flat_map instances (take i xs)) (instances x)
    before between after p q))

pub sections_end : {X : Type 0} (parts : PartTerms) (found : List Found) (rules : X → List RuleTerm)
    (instances : X → List InstanceTerm) (xs : List X) (i : ℕ) (before after : SectionTargets)
    {noted last : Option NotedFault} → length xs ≤ i → before.rules.items ≡ [] → before.instances.items ≡ [] →
    parts.rules ≡ flat_map rules xs → parts.instances ≡ flat_map instances xs →
    TellsSection parts found (flat_map rules (take i xs)) (flat_map instances (take i xs)) before after noted last →
    (AreSectionTargets parts found after) × Notes (FaultsOfSections parts) noted last
sections_end parts found rules instances xs i before after {noted = noted} {last = last} past no_rules no_instances
    rules_are instances_are h = (
      record {
        are_rules = added_all (IsRuleTargets parts found) parts.rules before.rules.items after.rules.items no_rules
            whole.adds_rules;
        are_instances = added_all (IsInstanceTargets parts found) parts.instances before.instances.items
            after.instances.items no_instances whole.adds_instances;
      },
      whole.notes,
    )
  where
    whole : TellsSection parts found parts.rules parts.instances before after noted last
    whole = subst (λ rs. TellsSection parts found rs parts.instances before after noted last)
        (ap (flat_map rules) (take_all i xs past) ∙ sym rules_are)
        (subst (λ os. TellsSection parts found (flat_map rules (take i xs)) os before after noted last)
        (ap (flat_map instances) (take_all i xs past) ∙ sym instances_are) h)

-- ---- what the sentences say of it

rule_fault : (parts : PartTerms) (rule : RuleTerm) → Contains parts.rules rule → (kind : LabelFault)
    (document token : ℕ) → FaultsOfRule parts rule kind document token → HasFault parts kind document token
rule_fault parts rule stands kind document token (inl here) =
    reference_fault parts rule.document RuleClass (ByLabel rule.class) (rule_class stands) tt kind document token here
rule_fault parts rule stands kind document token (inr (inl here)) =
    reference_fault parts rule.document RuleAction (ByLabel rule.action) (rule_action stands) tt kind document token
    here
rule_fault parts rule stands kind document token (inr (inr here)) =
    let one = any_out (FaultsOfStep parts rule.document) rule.steps kind document token here in by one.0 one.1 one.2
  where
    by : (step : StepTerm) → Contains rule.steps step → FaultsOfStep parts rule.document step kind document token →
        HasFault parts kind document token
    by (SetTo label value) has fault = reference_fault parts rule.document StepAttribute (ByLabel label)
        (step_attribute (record { stands = stands; has = has }) named_by_set) tt kind document token fault
    by (AddTo number label) has fault = reference_fault parts rule.document StepAttribute (ByLabel label)
        (step_attribute (record { stands = stands; has = has }) named_by_add) tt kind document token fault
    by (EmitOf label value) has fault = reference_fault parts rule.document StepNotification (ByLabel label)
        (step_notification (record { stands = stands; has = has })) tt kind document token fault
    by (ReplyWith taken) has fault = absurd fault

instance_fault : (parts : PartTerms) (instance : InstanceTerm) → Contains parts.instances instance →
    (kind : LabelFault) (document token : ℕ) → FaultsOfInstance parts instance kind document token →
    HasFault parts kind document token
instance_fault parts instance stands kind document token (inl here) =
    reference_fault parts instance.document InstanceClass (ByLabel instance.class) (instance_class stands) tt kind
    document token here
instance_fault parts instance stands kind document token (inr (inl here)) =
    let one = any_out (FaultsOfPair parts instance.document NameAttribute) instance.name kind document token here in
    reference_fault parts instance.document NameAttribute (ByLabel one.0.attribute) (name_attribute stands one.1) tt
    kind document token one.2
instance_fault parts instance stands kind document token (inr (inr (inl here))) =
    let one = any_out (FaultsOfPair parts instance.document GivenAttribute) instance.given kind document token here in
    reference_fault parts instance.document GivenAttribute (ByLabel one.0.attribute) (given_attribute stands one.1) tt
    kind document token one.2
instance_fault parts instance stands kind document token (inr (inr (inr here))) =
    let one = any_out (LabelFaults parts instance.document ChosenPackage) instance.packages kind document token here in
    reference_fault parts instance.document ChosenPackage (ByLabel one.0) (chosen_package stands one.1) tt kind
    document token one.2

pub section_fault : (parts : PartTerms) (kind : LabelFault) (document token : ℕ) →
    FaultsOfSections parts kind document token → HasFault parts kind document token
section_fault parts kind document token (inl here) =
    let one = any_out (FaultsOfRule parts) parts.rules kind document token here in
    rule_fault parts one.0 one.1 kind document token one.2
section_fault parts kind document token (inr here) =
    let one = any_out (FaultsOfInstance parts) parts.instances kind document token here in
    instance_fault parts one.0 one.1 kind document token one.2

-- a word behind REPLY
pub reply_fault : (parts : PartTerms) (kind : LabelFault) (document token : ℕ) →
    FaultsOfReplies parts kind document token → HasFault parts kind document token
reply_fault parts kind document token fault =
    reference_fault parts fault.rule.document StepAttribute (ByLabel fault.label)
    (step_attribute fault.step (named_by_reply fault.is_label)) tt kind document token fault.fault

-- What is wrong with any reference is noted: with those of templates, of sections, or behind REPLY.
abbrev pub NotedOfReferences : PartTerms → LabelFault → ℕ → ℕ → Type 0
NotedOfReferences parts kind document token = (FaultsOfTemplates parts kind document token)
    ⊎ ((FaultsOfSections parts kind document token) ⊎ FaultsOfReplies parts kind document token)

in_rule : (parts : PartTerms) (rule : RuleTerm) → Contains parts.rules rule → (kind : LabelFault)
    (document token : ℕ) → FaultsOfRule parts rule kind document token →
    NotedOfReferences parts kind document token
in_rule parts rule stands kind document token fault =
    inr (inl (inl (any_in (FaultsOfRule parts) parts.rules rule stands kind document token fault)))

in_instance : (parts : PartTerms) (instance : InstanceTerm) → Contains parts.instances instance →
    (kind : LabelFault) (document token : ℕ) → FaultsOfInstance parts instance kind document token →
    NotedOfReferences parts kind document token
in_instance parts instance stands kind document token fault =
    inr (inl (inr (any_in (FaultsOfInstance parts) parts.instances instance stands kind document token fault)))

in_step : (parts : PartTerms) (rule : RuleTerm) {step : StepTerm} → HasStep parts rule step → (kind : LabelFault)
    (document token : ℕ) → FaultsOfStep parts rule.document step kind document token →
    NotedOfReferences parts kind document token
in_step parts rule {step} has kind document token fault = in_rule parts rule has.stands kind document token
    (inr (inr (any_in (FaultsOfStep parts rule.document) rule.steps step has.has kind document token fault)))

attribute_noted : (parts : PartTerms) (rule : RuleTerm) (label : Token) {step : StepTerm} → HasStep parts rule step →
    NamesByLabel parts rule label step → (kind : LabelFault) (document token : ℕ) →
    LabelFaults parts rule.document StepAttribute label kind document token →
    NotedOfReferences parts kind document token
attribute_noted parts rule label has named_by_set kind document token fault =
    in_step parts rule has kind document token fault
attribute_noted parts rule label has named_by_add kind document token fault =
    in_step parts rule has kind document token fault
attribute_noted parts rule label has (named_by_reply is_label) kind document token fault =
    inr (inr (record { rule = rule; label = label; step = has; is_label = is_label; fault = fault }))

pub refers_noted : (parts : PartTerms) (its : ℕ) (role : Role) (reference : ReferenceTerm) →
    Refers parts its role reference → (kind : LabelFault) (document token : ℕ) →
    ReferenceFaults parts its role reference kind document token → NotedOfReferences parts kind document token
refers_noted parts its role reference (by_template {by = by} {role = its_role} {reference = named} stands names) kind
    document token fault = inl (by_template_noted parts by its_role named stands names kind document token fault)
refers_noted parts its role reference (rule_class {rule = rule} stands) kind document token fault =
    in_rule parts rule stands kind document token (inl fault)
refers_noted parts its role reference (rule_action {rule = rule} stands) kind document token fault =
    in_rule parts rule stands kind document token (inr (inl fault))
refers_noted parts its role reference (step_attribute {rule = rule} {step = step} {label = label} has named) kind
    document token fault = attribute_noted parts rule label has named kind document token fault
refers_noted parts its role reference (step_notification {rule = rule} {label = label} {value = value} has) kind
    document token fault = in_step parts rule has kind document token fault
refers_noted parts its role reference (instance_class {instance = instance} stands) kind document token fault =
    in_instance parts instance stands kind document token (inl fault)
refers_noted parts its role reference (name_attribute {instance = instance} {pair = pair} stands has) kind document
    token fault = in_instance parts instance stands kind document token
    (inr (inl (any_in (FaultsOfPair parts instance.document NameAttribute) instance.name pair has kind document token
    fault)))
refers_noted parts its role reference (given_attribute {instance = instance} {pair = pair} stands has) kind document
    token fault = in_instance parts instance stands kind document token
    (inr (inr (inl (any_in (FaultsOfPair parts instance.document GivenAttribute) instance.given pair has kind document
    token fault))))
refers_noted parts its role reference (chosen_package {instance = instance} {label = label} stands has) kind document
    token fault = in_instance parts instance stands kind document token
    (inr (inr (inr (any_in (LabelFaults parts instance.document ChosenPackage) instance.packages label has kind document
    token fault))))

-- a rule that is stated again
pub stated_fault : (parts : PartTerms) (kind : LabelFault) (document token : ℕ) →
    StatedTwice parts kind document token → HasFault parts kind document token
stated_fault parts kind document token fault = subst (λ k. HasFault parts k document token) fault.is_wrong
    (stated_twice fault.twice fault.is_in fault.is_at)

pub stated_noted : (parts : PartTerms) (rule : RuleTerm) (document token : ℕ) → IsStatedTwice parts rule →
    rule.document ≡ document → rule.class.at ≡ token → StatedTwice parts KindWrong document token
stated_noted parts rule document token twice is_in is_at =
    record { rule = rule; twice = twice; is_in = is_in; is_at = is_at; is_wrong = refl }
