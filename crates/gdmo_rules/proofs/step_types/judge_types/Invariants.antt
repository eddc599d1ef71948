-- What is wrong with the types of the rules so far.
use Rattle.std.proofs.Common.{◌≡◌, List, map, take}
use Rattle.asn1_names.specs.ModuleTerms.{ModuleTerm}
use Rattle.gdmo_names.specs.FaultSets.{AnyOf, Notes}
use Rattle.gdmo_names.specs.InStep.{AreEach}
use Rattle.gdmo_names.specs.PartTerms.{PartTerms, module_terms_of}
use Rattle.gdmo_targets.specs.SectionTables.{IsRuleTargets}
use Rattle.gdmo_targets.specs.StatedRules.{rule_terms, text_term}
use Rattle.gdmo_types.specs.Linkages.{IsLinkage}
use Rattle.type_numbers.specs.AskedTypes.{AreNumbers, StayNumbers}
use Rattle.gdmo_rules.specs.StepFaults.{RuleTypeFaults}
use Rattle.gdmo_rules.proofs.step_types.judge_types.Given as goal

abbrev pub invariant-loop-place : goal.invariant-loop-place
invariant-loop-place l =
    ((ms : List ModuleTerm) → AreNumbers ms l.initial.numbers → StayNumbers ms l.initial.numbers l.numbers)
    × ((parts : PartTerms) → IsLinkage parts l.linkage → AreNumbers (module_terms_of parts) l.initial.numbers →
    rule_terms l.rules ≡ parts.rules →
    AreEach (IsRuleTargets parts l.linkage.templates.now) parts.rules l.targets →
    Notes (AnyOf (RuleTypeFaults parts) (map text_term (take l.place l.rules))) l.initial.faults.first
    l.faults.first)
