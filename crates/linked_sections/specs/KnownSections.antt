-- KnownSections: what is known of rules and instances where no reference in them is missing (docs/PROFILE.md, sections 9
-- and 12). Digits stand for a number below 2^64. A word alone behind REPLY isn't ARGUMENT; where it is a label, it is an
-- attribute's.
use Rattle.std.specs.Prelude.{◌≡◌, ◌<◌, ◌^◌, ℕ, List, false, codes}
use Rattle.std.specs.Str.Parse.{IsNumeral, digits_value}
use Rattle.token_grammar.specs.declared.token.Token.{Token}
use Rattle.token_grammar.specs.TokenTests.{is_word_of}
use Rattle.gdmo_linking.specs.Linkers.{IsMeant}
use Rattle.gdmo_linking.specs.declared.linking.Linker.{Linker}
use Rattle.gdmo_names.specs.InStep.{AreAll, AreEach}
use Rattle.gdmo_names.specs.Mentions.{Role, mention}
use Rattle.gdmo_names.specs.Mentions.Role.{RuleClass, RuleAction, StepAttribute, StepNotification, InstanceClass}
use Rattle.gdmo_names.specs.Mentions.Role.{NameAttribute, GivenAttribute, ChosenPackage}
use Rattle.gdmo_names.specs.PartTerms.{StepTerm, RuleTerm, PairTerm, InstanceTerm, PartTerms}
use Rattle.gdmo_names.specs.PartTerms.TakenTerm.{OneWord}
use Rattle.gdmo_names.specs.PartTerms.StepTerm.{SetTo, AddTo, EmitOf, ReplyWith}
use Rattle.gdmo_names.specs.RuleWords.{IsAttributeLabel, IsReplyLabel}
use Rattle.gdmo_names.specs.TemplateTerms.ReferenceTerm.{ByLabel}
use Rattle.gdmo_targets.specs.SectionTables.{IsInstanceTargets, IsRuleTargets}
use Rattle.gdmo_targets.specs.declared.section_references.InstanceTargets.{InstanceTargets}
use Rattle.gdmo_targets.specs.declared.section_references.RuleTargets.{RuleTargets}

-- a label means a template of the kind that is wanted
abbrev pub IsMeantLabel : PartTerms → ℕ → Role → Token → Type 0
IsMeantLabel parts document role label = IsMeant parts document (mention role (ByLabel label))

-- ---- rules

abbrev pub IsCompleteStep : PartTerms → RuleTerm → StepTerm → Type 0
IsCompleteStep parts rule (SetTo label taken) = IsMeantLabel parts rule.document StepAttribute label
IsCompleteStep parts rule (AddTo number label) = IsMeantLabel parts rule.document StepAttribute label
    × IsNumeral 10 number.text × (digits_value 10 number.text < 2 ^ 64)
IsCompleteStep parts rule (EmitOf label value) = IsMeantLabel parts rule.document StepNotification label
IsCompleteStep parts rule (ReplyWith (OneWord word)) =
    (is_word_of (codes "ARGUMENT") word ≡ false) × (IsReplyLabel parts rule word → IsAttributeLabel parts word)
IsCompleteStep parts rule (ReplyWith taken) = Unit {0}

pub record IsCompleteRule (parts : PartTerms) (rule : RuleTerm) : Type 0 where
  pub class_meant : IsMeantLabel parts rule.document RuleClass rule.class
  pub action_meant : IsMeantLabel parts rule.document RuleAction rule.action
  pub steps_complete : AreAll (IsCompleteStep parts rule) rule.steps

-- rules are complete, and these are the templates that they name
pub record AreKnownRules (parts : PartTerms) (linker : Linker) (targets : List RuleTargets) (rules : List RuleTerm)
    : Type 0 where
  pub complete : AreAll (IsCompleteRule parts) rules
  pub told : AreEach (IsRuleTargets parts linker.linkage.templates.now) rules targets

-- ---- instances

abbrev pub IsCompletePair : PartTerms → ℕ → Role → PairTerm → Type 0
IsCompletePair parts document role pair = IsMeantLabel parts document role pair.attribute

pub record IsCompleteInstance (parts : PartTerms) (instance : InstanceTerm) : Type 0 where
  pub class_meant : IsMeantLabel parts instance.document InstanceClass instance.class
  pub name_complete : AreAll (IsCompletePair parts instance.document NameAttribute) instance.name
  pub given_complete : AreAll (IsCompletePair parts instance.document GivenAttribute) instance.given
  pub packages_meant : AreAll (IsMeantLabel parts instance.document ChosenPackage) instance.packages

pub record AreKnownInstances (parts : PartTerms) (linker : Linker) (targets : List InstanceTargets)
    (instances : List InstanceTerm) : Type 0 where
  pub complete : AreAll (IsCompleteInstance parts) instances
  pub told : AreEach (IsInstanceTargets parts linker.linkage.templates.now) instances targets
