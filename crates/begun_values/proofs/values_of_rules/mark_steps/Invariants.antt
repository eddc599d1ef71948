-- The names of the steps so far are marked.
use Rattle.std.proofs.Common.{map, take}
use Rattle.gdmo_names.specs.InStep.{AreEach}
use Rattle.gdmo_names.specs.Mentions.Role.{RuleAction}
use Rattle.gdmo_names.specs.PartTerms.{PartTerms, RuleTerm}
use Rattle.gdmo_names.specs.PartViews.{step_term}
use Rattle.gdmo_targets.specs.SectionTables.{TellsLabel, TellsStep}
use Rattle.gdmo_types.specs.Linkages.{IsLinkage}
use Rattle.gdmo_begun_names.specs.BegunMarks.{AnyFirst, Marks}
use Rattle.begun_values.specs.SectionValues.{StepFirsts}
use Rattle.begun_values.proofs.values_of_rules.mark_steps.Given as goal

abbrev pub invariant-loop-k : goal.invariant-loop-k
invariant-loop-k l = (parts : PartTerms) (rule : RuleTerm) → IsLinkage parts l.linkage →
    TellsLabel parts l.linkage.templates.now rule.document RuleAction rule.action l.action →
    AreEach (TellsStep parts l.linkage.templates.now rule.document) (map step_term l.steps) l.targets →
    Marks (AnyFirst (λ s. StepFirsts parts rule (step_term s)) (take l.k l.steps)) l.initial.names l.names
