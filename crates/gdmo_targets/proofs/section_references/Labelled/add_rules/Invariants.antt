use Rattle.std.proofs.Common.{map, take}
use Rattle.gdmo_names.specs.PartViews.{rule_term}
use Rattle.gdmo_names.specs.SectionFaults.{FaultsOfRule}
use Rattle.gdmo_targets.specs.SectionTables.{IsRuleTargets}
use Rattle.gdmo_names.specs.PartTerms.{PartTerms}
use Rattle.gdmo_targets.specs.SectionTables.{IsLabelled}
use Rattle.gdmo_names.proofs.InStepLaws.{AddsNoted}
use Rattle.gdmo_targets.proofs.section_references.Labelled.add_rules.Given as goal

abbrev pub invariant-loop-rule : goal.invariant-loop-rule
invariant-loop-rule l = (parts : PartTerms) → IsLabelled parts l.self →
    AddsNoted (IsRuleTargets parts l.self.templates.now) (FaultsOfRule parts)
    (map (rule_term l.section.document) (take l.rule-index l.section.rules.items)) l.initial.rules.items l.rules.items l.initial.faults.first l.faults.first
