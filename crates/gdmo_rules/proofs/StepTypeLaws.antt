-- StepTypeLaws: what is wrong with the types of a step, from what is told of its attribute and of the rule's action
-- (docs/PROFILE.md, sections 9 and 12).
use Rattle.std.specs.Prelude.{◌≡◌, ◌↔◌, ℕ, List, Bool, true, false, Option, None, Some, refl, slice_get}
use Rattle.std.specs.Prelude.{◌<◌, length, map, option_map}
use Rattle.std.proofs.Common.{ap, get_or, inl, inr, sym, ◌∙◌}
use Rattle.std.proofs.Math.Path.{subst}
use Rattle.std.proofs.lemmas.Bool.{false≢true}
use Rattle.std.proofs.lemmas.Option.{slice_get-map}
use Rattle.extra_syntax.specs.declared.step.Step.{Step}
use Rattle.token_grammar.specs.declared.qualified_name.QualifiedName.{QualifiedName}
use Rattle.token_grammar.specs.declared.token.Token.{Token}
use Rattle.token_grammar.specs.TokenTests.{is_label}
use Rattle.key_numbers.specs.NumberedLists.{Grows, Row}
use Rattle.gdmo_names.specs.FaultSets.{FaultSet, MeantFaults, Notes, OneFault}
use Rattle.gdmo_names.specs.FirstLabelFault.{LabelFault}
use Rattle.gdmo_names.specs.FirstLabelFault.LabelFault.{KindWrong}
use Rattle.gdmo_names.specs.FoundViews.{found_views}
use Rattle.gdmo_names.specs.LabelMeaning.{Means, target}
use Rattle.gdmo_names.specs.Mentions.{Mention, mention}
use Rattle.gdmo_names.specs.Mentions.Role.{RuleAction, StepAttribute}
use Rattle.gdmo_names.specs.InStep.{AreEach}
use Rattle.gdmo_names.specs.PartTerms.{Placed, PartTerms, RuleTerm, StepTerm, body_of, kind_of}
use Rattle.gdmo_names.specs.PartTerms.StepTerm.{SetTo, AddTo, EmitOf, ReplyWith}
use Rattle.gdmo_names.specs.PartViews.{step_term}
use Rattle.gdmo_names.specs.TargetTables.{TellsMention}
use Rattle.gdmo_names.specs.RuleWords.{IsAttributeLabel, IsOfAction, IsReplyLabel, information_of, reply_of}
use Rattle.gdmo_names.specs.RuleWords.IsReplyLabel.{attribute_label, other_label}
use Rattle.gdmo_names.specs.SectionFaults.{LabelFaults}
use Rattle.gdmo_names.specs.TemplateTerms.{BodyTerm}
use Rattle.gdmo_names.specs.TemplateTerms.TemplateKind.{ActionKind, AttributeKind}
use Rattle.gdmo_names.specs.TemplateTerms.ReferenceTerm.{ByLabel}
use Rattle.gdmo_names.specs.declared.first_fault.LabelFault.{LabelFault as NotedFault}
use Rattle.gdmo_names.specs.declared.found.Found.{Found}
use Rattle.gdmo_names.proofs.NotingLaws.{left_noted, none_noted, noted_by, one_not, right_noted}
use Rattle.gdmo_types.specs.RoleTargets.{MeansNumber}
use Rattle.gdmo_types.specs.declared.compared_types.ComparedType.{ComparedType}
use Rattle.gdmo_types.proofs.RoleLaws.{one_meant}
use Rattle.gdmo_types.proofs.StepLaws.{beside, got_at}
use Rattle.gdmo_targets.specs.SectionTables.{IsRuleTargets, TellsStep}
use Rattle.gdmo_targets.specs.StatedRules.{rule_terms, text_term}
use Rattle.gdmo_targets.specs.declared.section_references.RuleTargets.{RuleTargets}
use Rattle.gdmo_targets.specs.declared.stated_rules.RuleText.{RuleText}
use Rattle.gdmo_targets.proofs.StatedLaws.{text_at}
use Rattle.gdmo_rules.specs.AttributeLabels.{TellsAttribute}
use Rattle.gdmo_rules.specs.AttributeLabels.TellsAttribute.{is_label as is_attribute, no_label}
use Rattle.gdmo_rules.specs.StepFaults.{IsKnownRule, IsOfOther, OfLabelled, RepliedFaults, RepliesOther}
use Rattle.gdmo_rules.specs.StepFaults.{ReplyLabelFaults}
use Rattle.gdmo_rules.specs.StepFaults.{TellsRuleTypes, TellsStatedOf, TellsTarget, WordFaults}
use Rattle.gdmo_rules.specs.TypeFaults.{IsOfOtherType, IsOtherReply, RepliesNoNumber, TellsAction}
use Rattle.gdmo_rules.specs.declared.step_types.KnownRule.{KnownRule}
use Rattle.gdmo_rules.specs.declared.type_faults.ActionTypes.{ActionTypes}
use Rattle.gdmo_rules.proofs.TypeFaultLaws.{stated_stays}

-- ---- the rule's action

one_action : (parts : PartTerms) (rule : RuleTerm) (a b : Placed) → IsOfAction parts rule a → IsOfAction parts rule b →
    a ≡ b
one_action parts rule a b one other = one_meant parts rule.document RuleAction (ByLabel rule.action) a b one other

types_stay : (parts : PartTerms) (before after : Row) (rule : RuleTerm) (types : Option ActionTypes) →
    Grows before after → TellsRuleTypes parts before rule types → TellsRuleTypes parts after rule types
types_stay parts before after rule None grows told = told
types_stay parts before after rule (Some types) grows told = (
  told.0,
  told.1,
  record {
    information =
        stated_stays parts before after (information_of (body_of told.0.template)) types.information grows
        told.2.information;
    reply = stated_stays parts before after (reply_of (body_of told.0.template)) types.reply grows told.2.reply;
  },
)

pub known_stays : (parts : PartTerms) (before after : Row) (rule : RuleTerm) (known : KnownRule) → Grows before after →
    IsKnownRule parts before rule known → IsKnownRule parts after rule known
known_stays parts before after rule known grows told = record {
  is_in = told.is_in;
  types = types_stay parts before after rule known.types grows told.types;
}

action_told : (parts : PartTerms) (row : Row) (rule : RuleTerm) (x : Placed) (types : Option ActionTypes) →
    IsOfAction parts rule x → TellsAction parts row x types → TellsRuleTypes parts row rule types
action_told parts row rule x None means told = absurd told
action_told parts row rule x (Some types) means told = (x, means, told)

pub rule_types_told : (parts : PartTerms) (xs : List Found) (row : Row) (rule : RuleTerm) (action : Option ℕ)
    (types : Option ActionTypes) →
    MeansNumber parts xs rule.document (mention RuleAction (ByLabel rule.action)) action →
    ((number : ℕ) (x : Placed) → action ≡ Some number → slice_get (found_views xs) number ≡ Some x →
    kind_of x.template ≡ ActionKind → TellsAction parts row x types) → (action ≡ None → types ≡ None) →
    TellsRuleTypes parts row rule types
rule_types_told parts xs row rule None types means tells missing =
    subst (TellsRuleTypes parts row rule) (sym (missing refl)) means
rule_types_told parts xs row rule (Some n) types means tells missing =
    action_told parts row rule means.0 types means.2 (tells n means.0 refl means.1 means.2.of_kind)

-- ---- an attribute of another type

pub other_noted : (parts : PartTerms) (row : Row) (rule : RuleTerm) (x : Placed)
    (stated_of : BodyTerm → Option QualifiedName) (type : ComparedType) (document at : ℕ)
    {before after : Option NotedFault} (told : TellsStatedOf parts row rule stated_of (Some type)) →
    Notes (OneFault (IsOfOtherType parts x (stated_of (body_of told.0.template))) KindWrong document at) before after →
    Notes (OneFault (IsOfOther parts rule x stated_of) KindWrong document at) before after
other_noted parts row rule x stated_of type document at told noted =
    noted_by (OneFault (IsOfOtherType parts x (stated_of (body_of told.0.template))) KindWrong document at)
    (OneFault (IsOfOther parts rule x stated_of) KindWrong document at)
    (λ k d t f. (record { action = told.0; of_action = told.1; other = f.0 }, f.1, f.2, f.3))
    (λ k d t f. (
      subst (λ (a : Placed). IsOfOtherType parts x (stated_of (body_of a.template)))
          (one_action parts rule f.0.action told.0 f.0.of_action told.1) f.0.other,
      f.1,
      f.2,
      f.3,
    )) noted

pub no_action_noted : (parts : PartTerms) (row : Row) (rule : RuleTerm) (x : Placed)
    (stated_of : BodyTerm → Option QualifiedName) (document at : ℕ) (before : Option NotedFault) →
    TellsStatedOf parts row rule stated_of None →
    Notes (OneFault (IsOfOther parts rule x stated_of) KindWrong document at) before before
no_action_noted parts row rule x stated_of document at before told =
    one_not KindWrong document at before (λ h. told h.action h.of_action)

-- an argument of another type than the reply
pub argument_noted : (parts : PartTerms) (rule : RuleTerm) (action : Placed) (document at : ℕ)
    {before after : Option NotedFault} → IsOfAction parts rule action →
    Notes (OneFault (IsOtherReply parts action) KindWrong document at) before after →
    Notes (OneFault (RepliesOther parts rule) KindWrong document at) before after
argument_noted parts rule action document at is noted =
    noted_by (OneFault (IsOtherReply parts action) KindWrong document at)
    (OneFault (RepliesOther parts rule) KindWrong document at)
    (λ k d t f. (record { action = action; of_action = is; other = f.0 }, f.1, f.2, f.3))
    (λ k d t f. (
      subst (IsOtherReply parts) (one_action parts rule f.0.action action f.0.of_action is) f.0.other,
      f.1,
      f.2,
      f.3,
    )) noted

pub argument_not : (parts : PartTerms) (rule : RuleTerm) (document at : ℕ) (before : Option NotedFault) →
    ((action : Placed) → ¬ IsOfAction parts rule action) →
    Notes (OneFault (RepliesOther parts rule) KindWrong document at) before before
argument_not parts rule document at before none = one_not KindWrong document at before (λ h. none h.action h.of_action)

-- ---- the attribute that a label means

pub target_noted : (parts : PartTerms) (document : ℕ) (label : Token) (x : Placed) (Faults : Placed → FaultSet)
    {before after : Option NotedFault} → Means parts document StepAttribute (ByLabel label) x →
    Notes (Faults x) before after → Notes (OfLabelled parts document label Faults) before after
target_noted parts document label x Faults means noted =
    noted_by (Faults x) (OfLabelled parts document label Faults)
    (λ k d t f. (x, means, f))
    (λ k d t f. subst (λ y. Faults y k d t)
    (one_meant parts document StepAttribute (ByLabel label) f.0 x f.1 means) f.2) noted

pub no_target_noted : (parts : PartTerms) (document : ℕ) (label : Token) (Faults : Placed → FaultSet)
    (before : Option NotedFault) → ((x : Placed) → ¬ Means parts document StepAttribute (ByLabel label) x) →
    Notes (OfLabelled parts document label Faults) before before
no_target_noted parts document label Faults before none =
    none_noted (OfLabelled parts document label Faults) before (λ k d t f. none f.0 f.1)

-- ---- a word alone behind REPLY

pub label_means : (parts : PartTerms) (document : ℕ) (word : Token) (is : IsAttributeLabel parts word) →
    Means parts document StepAttribute (ByLabel word) is.attribute
unfolding target
label_means parts document word is = record { is_target = is.means; of_kind = is.of_kind }

pub means_label : (parts : PartTerms) (document : ℕ) (word : Token) (x : Placed) →
    Means parts document StepAttribute (ByLabel word) x → IsAttributeLabel parts word
unfolding target
means_label parts document word x means = record { attribute = x; means = means.is_target; of_kind = means.of_kind }

no_meant_fault : (to : Placed) (document at : ℕ) (kind : LabelFault) (its_document token : ℕ) →
    kind_of to.template ≡ AttributeKind → ¬ MeantFaults (Some to) StepAttribute document at kind its_document token
no_meant_fault to document at kind its_document token is (inl f) = f.0 is
no_meant_fault to document at kind its_document token is (inr f) = absurd (false≢true f.0.0)

no_label_fault : (parts : PartTerms) (document : ℕ) (word : Token) → IsAttributeLabel parts word → (kind : LabelFault)
    (its_document token : ℕ) → ¬ LabelFaults parts document StepAttribute word kind its_document token
no_label_fault parts document word is kind its_document token fault =
    no_meant_fault is.attribute document word.at kind its_document token is.of_kind
    (subst (λ to. MeantFaults to StepAttribute document word.at kind its_document token)
    (label_means parts document word is).is_target fault)

pub attribute_word_noted : (parts : PartTerms) (rule : RuleTerm) (word : Token) (is : IsAttributeLabel parts word)
    {before after : Option NotedFault} → Notes (RepliedFaults parts rule word is.attribute) before after →
    Notes (WordFaults parts rule word) before after
attribute_word_noted parts rule word is noted =
    left_noted (OfLabelled parts rule.document word (RepliedFaults parts rule word)) (ReplyLabelFaults parts rule word)
    (λ k d t f. no_label_fault parts rule.document word is k d t f.1)
    (target_noted parts rule.document word is.attribute (RepliedFaults parts rule word)
    (label_means parts rule.document word is) noted)

other_word_noted : (parts : PartTerms) (rule : RuleTerm) (word : Token) {before after : Option NotedFault} →
    ¬ IsAttributeLabel parts word → Notes (ReplyLabelFaults parts rule word) before after →
    Notes (WordFaults parts rule word) before after
other_word_noted parts rule word other noted =
    right_noted (OfLabelled parts rule.document word (RepliedFaults parts rule word)) (ReplyLabelFaults parts rule word)
    (λ k d t f. other (means_label parts rule.document word f.0 f.1)) noted

-- it is a label exactly where that is told
abbrev pub TellsLabelled : PartTerms → RuleTerm → Token → Bool → Type 0
TellsLabelled parts rule word is = (is ≡ true) ↔ IsReplyLabel parts rule word

pub labelled_by : (parts : PartTerms) (row : Row) (rule : RuleTerm) (word : Token) (types : Option ActionTypes)
    (is : Bool) → ¬ IsAttributeLabel parts word → TellsRuleTypes parts row rule types →
    ((action : Placed) → TellsAction parts row action types →
    (is ≡ true) ↔ ((is_label word ≡ true) × RepliesNoNumber parts action word)) → (types ≡ None → is ≡ false) →
    TellsLabelled parts rule word is
labelled_by parts row rule word None is other told tells missing =
    ((λ e. absurd (false≢true (sym (missing refl) ∙ e))), back)
  where
    back : IsReplyLabel parts rule word → is ≡ true
    back (attribute_label h) = absurd (other h)
    back (other_label {action = a} no_attribute form of_action known number) = absurd (told a of_action)
labelled_by parts row rule word (Some types) is other told tells missing =
    let law = tells told.0 told.2 in (
      λ e. (let h = law.0 e in other_label other h.0 told.1 h.1.0 h.1.1),
      back law,
    )
  where
    back : (is ≡ true) ↔ ((is_label word ≡ true) × RepliesNoNumber parts told.0 word) →
        IsReplyLabel parts rule word → is ≡ true
    back law (attribute_label h) = absurd (other h)
    back law (other_label {action = a} no_attribute form of_action known number) =
        law.1 (
          form,
          subst (λ b. RepliesNoNumber parts b word) (one_action parts rule a told.0 of_action told.1)
              (known, number),
        )

pub label_noted : (parts : PartTerms) (rule : RuleTerm) (word : Token) (document : ℕ)
    {before after : Option NotedFault} → document ≡ rule.document → ¬ IsAttributeLabel parts word →
    TellsLabelled parts rule word true → Notes (LabelFaults parts document StepAttribute word) before after →
    Notes (WordFaults parts rule word) before after
label_noted parts rule word document {before} {after} is_in other tells noted = other_word_noted parts rule word other
    (noted_by (LabelFaults parts rule.document StepAttribute word) (ReplyLabelFaults parts rule word)
    (λ k d t f. (tells.0 refl, f)) (λ k d t f. f.1)
    (subst (λ n. Notes (LabelFaults parts n StepAttribute word) before after) is_in noted))

pub no_label_noted : (parts : PartTerms) (rule : RuleTerm) (word : Token) (before : Option NotedFault) →
    ¬ IsAttributeLabel parts word → TellsLabelled parts rule word false →
    Notes (WordFaults parts rule word) before before
no_label_noted parts rule word before other tells = other_word_noted parts rule word other
    (none_noted (ReplyLabelFaults parts rule word) before (λ k d t f. false≢true (tells.1 f.0)))

-- the attribute whose label the word is, and that it is none's
pub word_some : {parts : PartTerms} {xs : List Found} {word : Token} {n : ℕ} → TellsAttribute parts xs word (Some n) →
    (is : IsAttributeLabel parts word) × (slice_get (found_views xs) n ≡ Some is.attribute)
word_some (is_attribute is at) = (is, at)

pub word_none : {parts : PartTerms} {xs : List Found} {word : Token} → TellsAttribute parts xs word None →
    ¬ IsAttributeLabel parts word
word_none (no_label none) = none

-- ---- the step at a place

pub target_of_step : (parts : PartTerms) (xs : List Found) (document : ℕ) (step : StepTerm) (n result : Option ℕ) →
    TellsStep parts xs document step n →
    ((x : Mention) → TellsMention parts xs document x n → MeansNumber parts xs document x result) →
    TellsTarget parts xs document step result
target_of_step parts xs document (SetTo label value) n result tells known =
    known (mention StepAttribute (ByLabel label)) tells
target_of_step parts xs document (AddTo number label) n result tells known =
    known (mention StepAttribute (ByLabel label)) tells
target_of_step parts xs document (EmitOf label value) n result tells known = tt
target_of_step parts xs document (ReplyWith taken) n result tells known = tt

-- what the step at a place names
pub step_at : (parts : PartTerms) (xs : List Found) (document : ℕ) (steps : List Step) (targets : List (Option ℕ))
    (k : ℕ) (step : Step) → AreEach (TellsStep parts xs document) (map step_term steps) targets → k < length steps →
    step ≡ get_or steps k step →
    (n : Option ℕ) × (slice_get targets k ≡ Some n) × TellsStep parts xs document (step_term step) n
step_at parts xs document steps targets k step each within is =
    beside (TellsStep parts xs document) (map step_term steps) targets k (step_term step) each
    (slice_get-map step_term steps k ∙ ap (option_map step_term) (got_at steps k step within is))

-- what the rule at a place names
pub rule_at : (parts : PartTerms) (xs : List Found) (rules : List RuleText) (targets : List RuleTargets) (k : ℕ)
    (rule : RuleText) → rule_terms rules ≡ parts.rules → AreEach (IsRuleTargets parts xs) parts.rules targets →
    k < length rules → rule ≡ get_or rules k rule →
    (own : RuleTargets) × (slice_get targets k ≡ Some own) × IsRuleTargets parts xs (text_term rule) own
rule_at parts xs rules targets k rule are each within is =
    beside (IsRuleTargets parts xs) parts.rules targets k (text_term rule) each
    (subst (λ rs. slice_get rs k ≡ Some (text_term rule)) are (text_at rules k rule within is))
