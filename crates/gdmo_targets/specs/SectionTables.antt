-- SectionTables: the numbers of the templates that rules and instances name by their labels (docs/PROFILE.md, sections 9
-- and 12).
use Rattle.std.specs.Prelude.{◌≡◌, ℕ, List, Option, None}
use Rattle.token_grammar.specs.declared.token.Token.{Token}
use Rattle.gdmo_names.specs.FaultSets.{AnyOf, Either, Notes}
use Rattle.gdmo_names.specs.FoundViews.{AreLabels, AreTemplates}
use Rattle.gdmo_names.specs.InStep.{AddsEach, AreEach}
use Rattle.gdmo_names.specs.Mentions.{Role, mention}
use Rattle.gdmo_names.specs.Mentions.Role.{RuleClass, RuleAction, StepAttribute, StepNotification}
use Rattle.gdmo_names.specs.Mentions.Role.{InstanceClass, NameAttribute, GivenAttribute, ChosenPackage}
use Rattle.gdmo_names.specs.PartTerms.{PartTerms, StepTerm, RuleTerm, PairTerm, InstanceTerm}
use Rattle.gdmo_names.specs.PartTerms.StepTerm.{SetTo, AddTo, EmitOf, ReplyWith}
use Rattle.gdmo_names.specs.SectionFaults.{FaultsOfInstance, FaultsOfRule}
use Rattle.gdmo_names.specs.TargetTables.{TellsMention}
use Rattle.gdmo_names.specs.TemplateTerms.ReferenceTerm.{ByLabel}
use Rattle.gdmo_names.specs.declared.first_fault.LabelFault.{LabelFault as NotedFault}
use Rattle.gdmo_names.specs.declared.found.Found.{Found}
use Rattle.gdmo_targets.specs.declared.section_references.InstanceTargets.{InstanceTargets}
use Rattle.gdmo_targets.specs.declared.section_references.Labelled.{Labelled}
use Rattle.gdmo_targets.specs.declared.section_references.RuleTargets.{RuleTargets}
use Rattle.gdmo_targets.specs.declared.section_references.SectionTargets.{SectionTargets}

-- the templates are those of the documents, and the labels mean theirs
pub record IsLabelled (parts : PartTerms) (labelled : Labelled) : Type 0 where
  pub are : AreTemplates parts labelled.templates.now
  pub tells : AreLabels parts labelled.templates.now labelled.labels.now

-- the number of the template that a label means in a role
abbrev pub TellsLabel : PartTerms → List Found → ℕ → Role → Token → Option ℕ → Type 0
TellsLabel parts xs document role label n = TellsMention parts xs document (mention role (ByLabel label)) n

-- what a step names; REPLY is looked at elsewhere
abbrev pub TellsStep : PartTerms → List Found → ℕ → StepTerm → Option ℕ → Type 0
TellsStep parts xs document (SetTo label value) n = TellsLabel parts xs document StepAttribute label n
TellsStep parts xs document (AddTo number label) n = TellsLabel parts xs document StepAttribute label n
TellsStep parts xs document (EmitOf label value) n = TellsLabel parts xs document StepNotification label n
TellsStep parts xs document (ReplyWith taken) n = n ≡ None

pub record IsRuleTargets (parts : PartTerms) (xs : List Found) (rule : RuleTerm) (own : RuleTargets) : Type 0 where
  pub is_in : own.document ≡ rule.document
  pub is_class : TellsLabel parts xs rule.document RuleClass rule.class own.class
  pub is_action : TellsLabel parts xs rule.document RuleAction rule.action own.action
  pub are_steps : AreEach (TellsStep parts xs rule.document) rule.steps own.steps.items

-- the attribute of a pair
abbrev pub TellsPair : PartTerms → List Found → ℕ → Role → PairTerm → Option ℕ → Type 0
TellsPair parts xs document role pair n = TellsLabel parts xs document role pair.attribute n

pub record IsInstanceTargets (parts : PartTerms) (xs : List Found) (instance : InstanceTerm) (own : InstanceTargets)
    : Type 0 where
  pub is_in : own.document ≡ instance.document
  pub is_class : TellsLabel parts xs instance.document InstanceClass instance.class own.class
  pub are_name : AreEach (TellsPair parts xs instance.document NameAttribute) instance.name own.name.items
  pub are_given : AreEach (TellsPair parts xs instance.document GivenAttribute) instance.given own.given.items
  pub are_packages : AreEach (TellsLabel parts xs instance.document ChosenPackage) instance.packages own.packages.items

pub record AreSectionTargets (parts : PartTerms) (xs : List Found) (targets : SectionTargets) : Type 0 where
  pub are_rules : AreEach (IsRuleTargets parts xs) parts.rules targets.rules.items
  pub are_instances : AreEach (IsInstanceTargets parts xs) parts.instances targets.instances.items

-- the same of one section, added to what was told before, and what is wrong with its references
pub record TellsSection (parts : PartTerms) (xs : List Found) (rules : List RuleTerm) (instances : List InstanceTerm)
    (before after : SectionTargets) (noted then_noted : Option NotedFault) : Type 0 where
  pub adds_rules : AddsEach (IsRuleTargets parts xs) rules before.rules.items after.rules.items
  pub adds_instances : AddsEach (IsInstanceTargets parts xs) instances before.instances.items after.instances.items
  pub notes : Notes (Either (AnyOf (FaultsOfRule parts) rules) (AnyOf (FaultsOfInstance parts) instances)) noted
      then_noted
