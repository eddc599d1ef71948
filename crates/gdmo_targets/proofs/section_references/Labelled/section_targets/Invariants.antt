use Rattle.std.proofs.Common.{◌≡◌, [], take}
use Rattle.std.specs.Prelude.{flat_map}
use Rattle.gdmo_targets.specs.declared.section_references.SectionTargets.{SectionTargets}
use Rattle.gdmo_names.specs.PartTerms.{PartTerms}
use Rattle.gdmo_names.specs.PartViews.{section_instances, section_rules}
use Rattle.gdmo_targets.specs.SectionTables.{IsLabelled, TellsSection}
use Rattle.gdmo_targets.proofs.section_references.Labelled.section_targets.Given as goal

abbrev pub invariant-loop-section : goal.invariant-loop-section
invariant-loop-section l = (parts : PartTerms) → IsLabelled parts l.self →
    (before : SectionTargets) × (before.rules.items ≡ []) × (before.instances.items ≡ [])
    × TellsSection parts l.self.templates.now (flat_map section_rules (take l.section-index l.sections))
    (flat_map section_instances (take l.section-index l.sections)) before l.targets l.initial.faults.first
    l.faults.first
