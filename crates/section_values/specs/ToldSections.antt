-- ToldSections: when the record of a step, of a rule, or the value of a pair is told: what it names is registered, what
-- its values are read in has a syntax, and each of its texts denotes a value (docs/PROFILE.md, sections 9 and 18).
use Rattle.std.specs.Prelude.{◌≡◌, ℕ, List, Option, None, Some, slice_get}
use Rattle.term_values.specs.Typed.{TypedValue}
use Rattle.term_model.specs.declared.rule.RuleRec.{RuleRec}
use Rattle.term_model.specs.declared.rule.RuleStep.{RuleStep}
use Rattle.asn1_names.specs.ModuleTerms.{ModuleTerm}
use Rattle.linked_parts.specs.declared.linked.Linked.{Linked}
use Rattle.linked_parts.specs.declared.linked.LinkedInstance.{LinkedInstance}
use Rattle.linked_parts.specs.declared.linked.LinkedPair.{LinkedPair}
use Rattle.linked_parts.specs.declared.linked.LinkedRule.{LinkedRule}
use Rattle.linked_parts.specs.declared.linked.LinkedStep.{LinkedStep}
use Rattle.class_faults.specs.BadValues.{IsBadForAttribute, IsBadStep}
use Rattle.section_values.specs.RegisteredSections.{HasStepSyntax, HasSyntax, IsRegisteredAction, IsRegisteredRule}
use Rattle.section_values.specs.RegisteredSections.{IsRegisteredStep}
use Rattle.section_values.specs.SectionRecords.{IsPairValue, IsRule, IsStep}

-- one is told, and it is this
abbrev pub TellsSome : {Y : Type 0} → (Y → Type 0) → Option Y → Type 0
TellsSome Is None = ⊥
TellsSome Is (Some y) = Is y

-- this holds of each element
abbrev pub HoldsOfEach : {X : Type 0} → (X → Type 0) → List X → Type 0
HoldsOfEach {X} Holds xs = (k : ℕ) (x : X) → slice_get xs k ≡ Some x → Holds x

pub record IsGoodStep (ms : List ModuleTerm) (linked : Linked) (rule : LinkedRule) (step : LinkedStep) : Type 0 where
  pub of_action : IsRegisteredAction linked rule.action
  pub registered : IsRegisteredStep linked step
  pub has_syntax : HasStepSyntax ms linked rule step
  pub denotes : (at : ℕ) → ¬ IsBadStep ms linked rule step at

abbrev pub TellsStep : List ModuleTerm → Linked → LinkedRule → LinkedStep → Option RuleStep → Type 0
TellsStep ms linked rule step told = IsGoodStep ms linked rule step → TellsSome (IsStep ms linked rule step) told

pub record IsGoodRule (ms : List ModuleTerm) (linked : Linked) (rule : LinkedRule) : Type 0 where
  pub registered : IsRegisteredRule linked rule
  pub of_steps : HoldsOfEach (IsGoodStep ms linked rule) rule.steps.items

abbrev pub TellsRule : List ModuleTerm → Linked → LinkedRule → Option RuleRec → Type 0
TellsRule ms linked rule told = IsGoodRule ms linked rule → TellsSome (IsRule ms linked rule) told

pub record IsGoodPair (ms : List ModuleTerm) (linked : Linked) (pair : LinkedPair) : Type 0 where
  pub has_syntax : HasSyntax ms linked pair.attribute
  pub denotes : (at : ℕ) → ¬ IsBadForAttribute ms linked pair.attribute pair.value at

abbrev pub TellsPair : List ModuleTerm → Linked → LinkedPair → Option TypedValue → Type 0
TellsPair ms linked pair told = IsGoodPair ms linked pair → TellsSome (IsPairValue ms linked pair) told

pub record IsGoodInstance (ms : List ModuleTerm) (linked : Linked) (instance : LinkedInstance) : Type 0 where
  pub of_name : HoldsOfEach (IsGoodPair ms linked) instance.name.items
  pub of_given : HoldsOfEach (IsGoodPair ms linked) instance.given.items
