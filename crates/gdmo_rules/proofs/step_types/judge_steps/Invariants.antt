-- What is wrong with the types of the steps so far.
use Rattle.std.proofs.Common.{List, map, take}
use Rattle.asn1_names.specs.ModuleTerms.{ModuleTerm}
use Rattle.gdmo_names.specs.FaultSets.{AnyOf, Notes}
use Rattle.gdmo_names.specs.InStep.{AreEach}
use Rattle.gdmo_names.specs.PartTerms.{PartTerms, RuleTerm, module_terms_of}
use Rattle.gdmo_names.specs.PartViews.{step_term}
use Rattle.gdmo_targets.specs.SectionTables.{TellsStep}
use Rattle.gdmo_types.specs.Linkages.{IsLinkage}
use Rattle.type_numbers.specs.AskedTypes.{AreNumbers, StayNumbers}
use Rattle.gdmo_rules.specs.StepFaults.{IsKnownRule, StepTypeFaults}
use Rattle.gdmo_rules.proofs.step_types.judge_steps.Given as goal

abbrev pub invariant-loop-place : goal.invariant-loop-place
invariant-loop-place l =
    ((ms : List ModuleTerm) → AreNumbers ms l.initial.numbers → StayNumbers ms l.initial.numbers l.numbers)
    × ((parts : PartTerms) (rule : RuleTerm) → IsLinkage parts l.linkage →
    AreNumbers (module_terms_of parts) l.initial.numbers → IsKnownRule parts l.initial.numbers.lists rule l.known →
    AreEach (TellsStep parts l.linkage.templates.now rule.document) (map step_term l.steps) l.targets →
    Notes (AnyOf (StepTypeFaults parts rule) (map step_term (take l.place l.steps))) l.initial.faults.first
    l.faults.first)
