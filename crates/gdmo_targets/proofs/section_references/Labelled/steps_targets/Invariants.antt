use Rattle.std.proofs.Common.{[], map, take}
use Rattle.gdmo_names.specs.PartViews.{step_term}
use Rattle.gdmo_names.specs.SectionFaults.{FaultsOfStep}
use Rattle.gdmo_targets.specs.SectionTables.{TellsStep}
use Rattle.gdmo_names.specs.PartTerms.{PartTerms}
use Rattle.gdmo_targets.specs.SectionTables.{IsLabelled}
use Rattle.gdmo_names.proofs.InStepLaws.{AddsNoted}
use Rattle.gdmo_targets.proofs.section_references.Labelled.steps_targets.Given as goal

abbrev pub invariant-loop-step : goal.invariant-loop-step
invariant-loop-step l = (parts : PartTerms) → IsLabelled parts l.self →
    AddsNoted (TellsStep parts l.self.templates.now l.document) (FaultsOfStep parts l.document)
    (map step_term (take l.step-index l.steps)) [] l.targets.items l.initial.faults.first l.faults.first
