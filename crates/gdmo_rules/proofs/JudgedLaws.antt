-- JudgedLaws: what is noted of the steps of rules is what the sentences say of them (docs/PROFILE.md, sections 9
-- and 12).
use Rattle.std.specs.Prelude.{◌≡◌, ℕ, Option, Some, Contains, refl}
use Rattle.std.proofs.Common.{inl, inr, sym}
use Rattle.std.proofs.Math.Path.{subst}
use Rattle.token_grammar.specs.declared.token.Token.{Token}
use Rattle.gdmo_names.specs.FaultSets.{Either, Notes}
use Rattle.gdmo_names.specs.FirstLabelFault.{LabelFault}
use Rattle.gdmo_names.specs.FirstLabelFault.LabelFault.{KindWrong}
use Rattle.gdmo_names.specs.PartTerms.{Placed, PartTerms, RuleTerm, StepTerm}
use Rattle.gdmo_names.specs.PartTerms.StepTerm.{SetTo, AddTo, EmitOf, ReplyWith}
use Rattle.gdmo_names.specs.PartTerms.TakenTerm.{TheArgument, OneWord, OtherValue}
use Rattle.gdmo_names.specs.RuleFaults.{HasOtherType, StepNames}
use Rattle.gdmo_names.specs.RuleFaults.HasOtherType.{reply_argument, reply_attribute, set_argument}
use Rattle.gdmo_names.specs.RuleWords.{IsOfClass, NamesByLabel}
use Rattle.gdmo_names.specs.RuleWords.IsReplyLabel.{attribute_label}
use Rattle.gdmo_names.specs.RuleWords.NamesByLabel.{add, reply, set}
use Rattle.gdmo_names.specs.declared.first_fault.LabelFault.{LabelFault as NotedFault}
use Rattle.gdmo_names.proofs.NotingLaws.{both_noted, noted_by}
use Rattle.gdmo_types.proofs.PlaceFaultLaws.{any_found, any_noted}
use Rattle.class_graphs.specs.ClassGraphs.{MayNotName}
use Rattle.gdmo_rules.specs.FaultsOfSteps.{FaultsOfSteps}
use Rattle.gdmo_rules.specs.FaultsOfSteps.FaultsOfSteps.{foreign_attribute, naming_attribute, no_whole_number, of_reply}
use Rattle.gdmo_rules.specs.FaultsOfSteps.FaultsOfSteps.{other_type}
use Rattle.gdmo_rules.specs.NamingFaults.{AllNamingFaults, LabelNamingFaults, StepNamingFaults, step_label}
use Rattle.gdmo_rules.specs.StepFaults.{AllTypeFaults, RuleTypeFaults, StepTypeFaults}
use Rattle.gdmo_rules.proofs.StepTypeLaws.{means_label}

-- ---- types

type_fault : (parts : PartTerms) (rule : RuleTerm) (step : StepTerm) (kind : LabelFault) (document token : ℕ) →
    Contains parts.rules rule → Contains rule.steps step → StepTypeFaults parts rule step kind document token →
    FaultsOfSteps parts kind document token
type_fault parts rule (SetTo label (TheArgument word)) kind document token stands has f = other_type (set_argument
    (record { has = record { stands = stands; has = has }; by = set; means = f.1 }) f.2.0.of_action f.2.0.other.1
    f.2.0.other.0 f.2.0.other.2) f.2.1 f.2.2 f.2.3
type_fault parts rule (SetTo label (OneWord word)) kind document token stands has f = absurd f.2
type_fault parts rule (SetTo label (OtherValue value)) kind document token stands has f = absurd f.2
type_fault parts rule (AddTo number label) kind document token stands has f = no_whole_number (record {
  number = number;
  attribute = f.0;
  names = record { has = record { stands = stands; has = has }; by = add; means = f.1 };
  known = f.2.0.0;
  other = f.2.0.1;
}) f.2.1 f.2.2 f.2.3
type_fault parts rule (EmitOf label value) kind document token stands has f = absurd f
type_fault parts rule (ReplyWith (TheArgument word)) kind document token stands has f = other_type (reply_argument
    (record { stands = stands; has = has }) f.0.of_action f.0.other.0 f.0.other.1 f.0.other.2) f.1 f.2 f.3
type_fault parts rule (ReplyWith (OneWord word)) kind document token stands has (inl f) = other_type (reply_attribute
    (record {
      has = record { stands = stands; has = has };
      by = reply (attribute_label (means_label parts rule.document word f.0 f.1));
      means = f.1;
    }) f.2.0.of_action f.2.0.other.1 f.2.0.other.0 f.2.0.other.2) f.2.1 f.2.2 f.2.3
type_fault parts rule (ReplyWith (OneWord word)) kind document token stands has (inr f) = of_reply (record {
  rule = rule;
  label = word;
  step = record { stands = stands; has = has };
  is_label = f.0;
  fault = f.1;
})
type_fault parts rule (ReplyWith (OtherValue value)) kind document token stands has f = absurd f

pub types_told : (parts : PartTerms) (kind : LabelFault) (document token : ℕ) →
    AllTypeFaults parts kind document token → FaultsOfSteps parts kind document token
types_told parts kind document token fault =
    let rule = any_found (RuleTypeFaults parts) parts.rules kind document token fault in
    let step = any_found (StepTypeFaults parts rule.0) rule.0.steps kind document token rule.2 in
    type_fault parts rule.0 step.0 kind document token rule.1 step.1 step.2

-- a fault of a step of a rule
step_noted : (parts : PartTerms) (rule : RuleTerm) (step : StepTerm) (kind : LabelFault) (document token : ℕ) →
    Contains parts.rules rule → Contains rule.steps step → StepTypeFaults parts rule step kind document token →
    AllTypeFaults parts kind document token
step_noted parts rule step kind document token stands has fault =
    any_noted (RuleTypeFaults parts) parts.rules rule kind document token stands
    (any_noted (StepTypeFaults parts rule) rule.steps step kind document token has fault)

other_noted : (parts : PartTerms) (rule : RuleTerm) (word : Token) (kind : LabelFault) (document token : ℕ) →
    HasOtherType parts rule word → KindWrong ≡ kind → rule.document ≡ document → word.at ≡ token →
    AllTypeFaults parts kind document token
other_noted parts rule word kind document token (set_argument {label = label} {attribute = x} {action = a} names
    of_action known there other) is its at =
    step_noted parts rule (SetTo label (TheArgument word)) kind document token names.has.stands names.has.has
    (x, names.means, (record { action = a; of_action = of_action; other = (there, known, other) }, is, its, at))
other_noted parts rule word kind document token (reply_argument {action = a} has of_action information replied other) is
    its at =
    step_noted parts rule (ReplyWith (TheArgument word)) kind document token has.stands has.has
    (record { action = a; of_action = of_action; other = (information, replied, other) }, is, its, at)
other_noted parts rule word kind document token (reply_attribute {attribute = x} {action = a} names of_action known
    there other) is its at =
    step_noted parts rule (ReplyWith (OneWord word)) kind document token names.has.stands names.has.has
    (inl (x, names.means, (record { action = a; of_action = of_action; other = (there, known, other) }, is, its, at)))

-- ---- names

names_fault : (parts : PartTerms) (rule : RuleTerm) (class : Placed) (step : StepTerm) (label : Token)
    (kind : LabelFault) (document token : ℕ) (x : Placed) → StepNames parts rule step label x →
    IsOfClass parts rule class → MayNotName parts class x → KindWrong ≡ kind → rule.document ≡ document →
    label.at ≡ token → FaultsOfSteps parts kind document token
names_fault parts rule class step label kind document token x names of_class (inl h) is its at = naming_attribute
    (record { step = step; attribute = x; names = names; class = class; of_class = of_class; naming = h }) is its at
names_fault parts rule class step label kind document token x names of_class (inr h) is its at = foreign_attribute
    (record {
      step = step;
      attribute = x;
      names = names;
      class = class;
      of_class = of_class;
      all_known = h.0;
      foreign = h.1;
    }) is its at

step_fault : (parts : PartTerms) (rule : RuleTerm) (class : Placed) (step : StepTerm) (kind : LabelFault)
    (document token : ℕ) → Contains parts.rules rule → Contains rule.steps step → IsOfClass parts rule class →
    StepNamingFaults parts class rule.document step kind document token → FaultsOfSteps parts kind document token
step_fault parts rule class (SetTo label value) kind document token stands has of_class f =
    names_fault parts rule class (SetTo label value) label kind document token f.0.attribute
    (record { has = record { stands = stands; has = has }; by = set; means = f.0.means }) of_class f.0.may_not f.1 f.2
    f.3
step_fault parts rule class (AddTo number label) kind document token stands has of_class f =
    names_fault parts rule class (AddTo number label) label kind document token f.0.attribute
    (record { has = record { stands = stands; has = has }; by = add; means = f.0.means }) of_class f.0.may_not f.1 f.2
    f.3
step_fault parts rule class (EmitOf label value) kind document token stands has of_class f = absurd f
step_fault parts rule class (ReplyWith (TheArgument word)) kind document token stands has of_class f = absurd f
step_fault parts rule class (ReplyWith (OneWord word)) kind document token stands has of_class f =
    names_fault parts rule class (ReplyWith (OneWord word)) word kind document token f.0.attribute
    (record {
      has = record { stands = stands; has = has };
      by = reply (attribute_label (means_label parts rule.document word f.0.attribute f.0.means));
      means = f.0.means;
    }) of_class f.0.may_not f.1 f.2 f.3
step_fault parts rule class (ReplyWith (OtherValue value)) kind document token stands has of_class f = absurd f

pub names_told : (parts : PartTerms) (kind : LabelFault) (document token : ℕ) →
    AllNamingFaults parts kind document token → FaultsOfSteps parts kind document token
names_told parts kind document token fault =
    let step = any_found (StepNamingFaults parts fault.1 fault.0.document) fault.0.steps kind document token fault.4 in
    step_fault parts fault.0 fault.1 step.0 kind document token fault.2 step.1 fault.3 step.2

label_of_step : {parts : PartTerms} {rule : RuleTerm} {label : Token} {step : StepTerm} →
    NamesByLabel parts rule label step → step_label step ≡ Some label
label_of_step set = refl
label_of_step add = refl
label_of_step (reply is) = refl

forbidden_noted : (parts : PartTerms) (rule : RuleTerm) (class : Placed) (step : StepTerm) (label : Token)
    (kind : LabelFault) (document token : ℕ) (x : Placed) → StepNames parts rule step label x →
    IsOfClass parts rule class → MayNotName parts class x → KindWrong ≡ kind → rule.document ≡ document →
    label.at ≡ token → AllNamingFaults parts kind document token
forbidden_noted parts rule class step label kind document token x names of_class may_not is its at = (
  rule,
  class,
  names.has.stands,
  of_class,
  any_noted (StepNamingFaults parts class rule.document) rule.steps step kind document token names.has.has
      (subst (λ l. LabelNamingFaults parts class rule.document l kind document token) (sym (label_of_step names.by))
      (record { attribute = x; means = names.means; may_not = may_not }, is, its, at)),
)

-- ---- all of them

back : (parts : PartTerms) (kind : LabelFault) (document token : ℕ) → FaultsOfSteps parts kind document token →
    Either (AllTypeFaults parts) (AllNamingFaults parts) kind document token
back parts kind document token (naming_attribute {rule = rule} {label = label} h is its at) = inr (forbidden_noted parts
    rule h.class h.step label kind document token h.attribute h.names h.of_class (inl h.naming) is its at)
back parts kind document token (foreign_attribute {rule = rule} {label = label} h is its at) = inr (forbidden_noted
    parts rule h.class h.step label kind document token h.attribute h.names h.of_class (inr (h.all_known, h.foreign)) is
    its at)
back parts kind document token (other_type {rule = rule} {word = word} h is its at) =
    inl (other_noted parts rule word kind document token h is its at)
back parts kind document token (no_whole_number {rule = rule} {label = label} h is its at) =
    inl (step_noted parts rule (AddTo h.number label) kind document token h.names.has.stands h.names.has.has
    (h.attribute, h.names.means, ((h.known, h.other), is, its, at)))
back parts kind document token (of_reply h) =
    inl (step_noted parts h.rule (ReplyWith (OneWord h.label)) kind document token h.step.stands h.step.has
    (inr (h.is_label, h.fault)))

there : (parts : PartTerms) (kind : LabelFault) (document token : ℕ) →
    Either (AllTypeFaults parts) (AllNamingFaults parts) kind document token → FaultsOfSteps parts kind document token
there parts kind document token (inl f) = types_told parts kind document token f
there parts kind document token (inr f) = names_told parts kind document token f

pub steps_noted : (parts : PartTerms) {before between after : Option NotedFault} →
    Notes (AllTypeFaults parts) before between → Notes (AllNamingFaults parts) between after →
    Notes (FaultsOfSteps parts) before after
steps_noted parts types names =
    noted_by (Either (AllTypeFaults parts) (AllNamingFaults parts)) (FaultsOfSteps parts) (there parts) (back parts)
    (both_noted (AllTypeFaults parts) (AllNamingFaults parts) types names)
