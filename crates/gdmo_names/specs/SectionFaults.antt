-- SectionFaults: what is wrong with the references of rules and instances, as sets of faults (docs/PROFILE.md, sections 9
-- and 12). A word alone behind REPLY stands apart.
use Rattle.std.specs.Prelude.{◌≡◌, ℕ}
use Rattle.token_grammar.specs.declared.token.Token.{Token}
use Rattle.gdmo_names.specs.FaultSets.{AnyOf, Either, FaultSet, ReferenceFaults}
use Rattle.gdmo_names.specs.FirstLabelFault.{LabelFault}
use Rattle.gdmo_names.specs.FirstLabelFault.LabelFault.{KindWrong}
use Rattle.gdmo_names.specs.Mentions.{Role}
use Rattle.gdmo_names.specs.Mentions.Role.{RuleClass, RuleAction, StepAttribute, StepNotification}
use Rattle.gdmo_names.specs.Mentions.Role.{InstanceClass, NameAttribute, GivenAttribute, ChosenPackage}
use Rattle.gdmo_names.specs.PartTerms.{PartTerms, StepTerm, RuleTerm, PairTerm, InstanceTerm}
use Rattle.gdmo_names.specs.PartTerms.StepTerm.{SetTo, AddTo, EmitOf, ReplyWith}
use Rattle.gdmo_names.specs.PartTerms.TakenTerm.{OneWord}
use Rattle.gdmo_names.specs.RuleFaults.{IsStatedTwice}
use Rattle.gdmo_names.specs.RuleWords.{HasStep, IsReplyLabel}
use Rattle.gdmo_names.specs.TemplateTerms.ReferenceTerm.{ByLabel}

abbrev pub NoFault : FaultSet
NoFault kind document token = ⊥

abbrev pub LabelFaults : PartTerms → ℕ → Role → Token → FaultSet
LabelFaults parts document role label = ReferenceFaults parts document role (ByLabel label)

abbrev pub FaultsOfStep : PartTerms → ℕ → StepTerm → FaultSet
FaultsOfStep parts document (SetTo label value) = LabelFaults parts document StepAttribute label
FaultsOfStep parts document (AddTo number label) = LabelFaults parts document StepAttribute label
FaultsOfStep parts document (EmitOf label value) = LabelFaults parts document StepNotification label
FaultsOfStep parts document (ReplyWith taken) = NoFault

abbrev pub FaultsOfRule : PartTerms → RuleTerm → FaultSet
FaultsOfRule parts rule = Either (LabelFaults parts rule.document RuleClass rule.class)
    (Either (LabelFaults parts rule.document RuleAction rule.action)
    (AnyOf (FaultsOfStep parts rule.document) rule.steps))

abbrev pub FaultsOfPair : PartTerms → ℕ → Role → PairTerm → FaultSet
FaultsOfPair parts document role pair = LabelFaults parts document role pair.attribute

abbrev pub FaultsOfInstance : PartTerms → InstanceTerm → FaultSet
FaultsOfInstance parts instance = Either (LabelFaults parts instance.document InstanceClass instance.class)
    (Either (AnyOf (FaultsOfPair parts instance.document NameAttribute) instance.name)
    (Either (AnyOf (FaultsOfPair parts instance.document GivenAttribute) instance.given)
    (AnyOf (LabelFaults parts instance.document ChosenPackage) instance.packages)))

-- those of all rules and instances
abbrev pub FaultsOfSections : PartTerms → FaultSet
FaultsOfSections parts =
    Either (AnyOf (FaultsOfRule parts) parts.rules) (AnyOf (FaultsOfInstance parts) parts.instances)

-- those of words alone behind REPLY that are labels
pub record FaultsOfReplies (parts : PartTerms) (kind : LabelFault) (document token : ℕ) : Type 0 where
  pub rule : RuleTerm
  pub label : Token
  pub step : HasStep parts rule (ReplyWith (OneWord label))
  pub is_label : IsReplyLabel parts rule label
  pub fault : LabelFaults parts rule.document StepAttribute label kind document token

-- the rules that are stated again for a class and an action, at the class
pub record StatedTwice (parts : PartTerms) (kind : LabelFault) (document token : ℕ) : Type 0 where
  pub rule : RuleTerm
  pub twice : IsStatedTwice parts rule
  pub is_in : rule.document ≡ document
  pub is_at : rule.class.at ≡ token
  pub is_wrong : KindWrong ≡ kind
