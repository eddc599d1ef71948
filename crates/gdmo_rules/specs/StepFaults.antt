-- StepFaults: what is wrong with the types of a step of a rule, and with a word alone behind REPLY that is a label, as
-- sets of faults (docs/PROFILE.md, sections 9 and 12).
use Rattle.std.specs.Prelude.{◌≡◌, ℕ, List, Option, None, Some}
use Rattle.token_grammar.specs.declared.qualified_name.QualifiedName.{QualifiedName}
use Rattle.token_grammar.specs.declared.token.Token.{Token}
use Rattle.key_numbers.specs.NumberedLists.{Row}
use Rattle.gdmo_names.specs.FaultSets.{AnyOf, Either, FaultSet, OneFault}
use Rattle.gdmo_names.specs.FirstLabelFault.LabelFault.{KindWrong}
use Rattle.gdmo_names.specs.LabelMeaning.{Means}
use Rattle.gdmo_names.specs.Mentions.{mention}
use Rattle.gdmo_names.specs.Mentions.Role.{StepAttribute}
use Rattle.gdmo_names.specs.PartTerms.{Placed, TakenTerm, StepTerm, RuleTerm, PartTerms, body_of}
use Rattle.gdmo_names.specs.PartTerms.TakenTerm.{TheArgument, OneWord, OtherValue}
use Rattle.gdmo_names.specs.PartTerms.StepTerm.{SetTo, AddTo, EmitOf, ReplyWith}
use Rattle.gdmo_names.specs.RuleWords.{IsOfAction, IsReplyLabel, information_of, reply_of}
use Rattle.gdmo_names.specs.SectionFaults.{LabelFaults, NoFault}
use Rattle.gdmo_names.specs.TemplateTerms.{BodyTerm}
use Rattle.gdmo_names.specs.TemplateTerms.ReferenceTerm.{ByLabel}
use Rattle.gdmo_names.specs.declared.found.Found.{Found}
use Rattle.gdmo_types.specs.ComparedTypes.{TellsStatedType}
use Rattle.gdmo_types.specs.RoleTargets.{MeansNumber}
use Rattle.gdmo_types.specs.declared.compared_types.ComparedType.{ComparedType}
use Rattle.gdmo_rules.specs.TypeFaults.{IsNoInteger, IsOfOtherType, IsOtherReply, TellsTypes}
use Rattle.gdmo_rules.specs.declared.step_types.KnownRule.{KnownRule}
use Rattle.gdmo_rules.specs.declared.type_faults.ActionTypes.{ActionTypes}

-- the attribute is of another type than the one that the rule's action states
pub record IsOfOther (parts : PartTerms) (rule : RuleTerm) (attribute : Placed)
    (stated_of : BodyTerm → Option QualifiedName) : Type 0 where
  pub action : Placed
  pub of_action : IsOfAction parts rule action
  pub other : IsOfOtherType parts attribute (stated_of (body_of action.template))

-- the argument of the rule's action is of another type than its reply
pub record RepliesOther (parts : PartTerms) (rule : RuleTerm) : Type 0 where
  pub action : Placed
  pub of_action : IsOfAction parts rule action
  pub other : IsOtherReply parts action

-- what is wrong with the attribute that a label means
abbrev pub OfLabelled : PartTerms → ℕ → Token → (Placed → FaultSet) → FaultSet
OfLabelled parts document label Faults kind its_document token =
    (x : Placed) × Means parts document StepAttribute (ByLabel label) x × Faults x kind its_document token

-- with what an attribute is set to
abbrev pub TakenFaults : PartTerms → RuleTerm → Placed → TakenTerm → FaultSet
TakenFaults parts rule attribute (TheArgument word) =
    OneFault (IsOfOther parts rule attribute information_of) KindWrong rule.document word.at
TakenFaults parts rule attribute (OneWord word) = NoFault
TakenFaults parts rule attribute (OtherValue value) = NoFault

-- with a word alone that is replied: the attribute is of another type, or the word is a label and means none
abbrev pub ReplyLabelFaults : PartTerms → RuleTerm → Token → FaultSet
ReplyLabelFaults parts rule word kind document token =
    IsReplyLabel parts rule word × LabelFaults parts rule.document StepAttribute word kind document token

abbrev pub RepliedFaults : PartTerms → RuleTerm → Token → Placed → FaultSet
RepliedFaults parts rule word attribute =
    OneFault (IsOfOther parts rule attribute reply_of) KindWrong rule.document word.at

abbrev pub WordFaults : PartTerms → RuleTerm → Token → FaultSet
WordFaults parts rule word =
    Either (OfLabelled parts rule.document word (RepliedFaults parts rule word)) (ReplyLabelFaults parts rule word)

abbrev pub ReplyFaults : PartTerms → RuleTerm → TakenTerm → FaultSet
ReplyFaults parts rule (TheArgument word) = OneFault (RepliesOther parts rule) KindWrong rule.document word.at
ReplyFaults parts rule (OneWord word) = WordFaults parts rule word
ReplyFaults parts rule (OtherValue value) = NoFault

abbrev pub AddedFaults : PartTerms → RuleTerm → Token → Placed → FaultSet
AddedFaults parts rule label attribute =
    OneFault (IsNoInteger parts attribute) KindWrong rule.document label.at

-- those of a step, of a rule, and of all rules
abbrev pub StepTypeFaults : PartTerms → RuleTerm → StepTerm → FaultSet
StepTypeFaults parts rule (SetTo label value) =
    OfLabelled parts rule.document label (λ attribute. TakenFaults parts rule attribute value)
StepTypeFaults parts rule (AddTo number label) = OfLabelled parts rule.document label (AddedFaults parts rule label)
StepTypeFaults parts rule (EmitOf label value) = NoFault
StepTypeFaults parts rule (ReplyWith taken) = ReplyFaults parts rule taken

abbrev pub RuleTypeFaults : PartTerms → RuleTerm → FaultSet
RuleTypeFaults parts rule = AnyOf (StepTypeFaults parts rule) rule.steps

abbrev pub AllTypeFaults : PartTerms → FaultSet
AllTypeFaults parts = AnyOf (RuleTypeFaults parts) parts.rules

-- ---- what the code knows

-- the type that the rule's action states, where there is an action
abbrev pub TellsStatedOf : PartTerms → Row → RuleTerm → (BodyTerm → Option QualifiedName) → Option ComparedType → Type 0
TellsStatedOf parts row rule stated_of None = (action : Placed) → ¬ IsOfAction parts rule action
TellsStatedOf parts row rule stated_of (Some type) = (action : Placed) × IsOfAction parts rule action
    × TellsStatedType parts row (stated_of (body_of action.template)) type

-- the types of the rule's action, where there is one
abbrev pub TellsRuleTypes : PartTerms → Row → RuleTerm → Option ActionTypes → Type 0
TellsRuleTypes parts row rule None = (action : Placed) → ¬ IsOfAction parts rule action
TellsRuleTypes parts row rule (Some types) =
    (action : Placed) × IsOfAction parts rule action × TellsTypes parts row action types

pub record IsKnownRule (parts : PartTerms) (row : Row) (rule : RuleTerm) (known : KnownRule) : Type 0 where
  pub is_in : known.document ≡ rule.document
  pub types : TellsRuleTypes parts row rule known.types

-- the attribute that SET or ADD names
abbrev pub TellsTarget : PartTerms → List Found → ℕ → StepTerm → Option ℕ → Type 0
TellsTarget parts xs document (SetTo label value) n =
    MeansNumber parts xs document (mention StepAttribute (ByLabel label)) n
TellsTarget parts xs document (AddTo number label) n =
    MeansNumber parts xs document (mention StepAttribute (ByLabel label)) n
TellsTarget parts xs document (EmitOf label value) n = Unit {0}
TellsTarget parts xs document (ReplyWith taken) n = Unit {0}
