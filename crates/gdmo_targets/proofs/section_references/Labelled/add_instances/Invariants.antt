use Rattle.std.proofs.Common.{map, take}
use Rattle.gdmo_names.specs.PartViews.{instance_term}
use Rattle.gdmo_names.specs.SectionFaults.{FaultsOfInstance}
use Rattle.gdmo_targets.specs.SectionTables.{IsInstanceTargets}
use Rattle.gdmo_names.specs.PartTerms.{PartTerms}
use Rattle.gdmo_targets.specs.SectionTables.{IsLabelled}
use Rattle.gdmo_names.proofs.InStepLaws.{AddsNoted}
use Rattle.gdmo_targets.proofs.section_references.Labelled.add_instances.Given as goal

abbrev pub invariant-loop-instance : goal.invariant-loop-instance
invariant-loop-instance l = (parts : PartTerms) → IsLabelled parts l.self →
    AddsNoted (IsInstanceTargets parts l.self.templates.now) (FaultsOfInstance parts)
    (map (instance_term l.section.document) (take l.instance-index l.section.instances.items)) l.initial.instances.items l.instances.items l.initial.faults.first l.faults.first
