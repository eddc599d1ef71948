-- What the steps so far name and may not.
use Rattle.std.proofs.Common.{map, take}
use Rattle.gdmo_names.specs.FaultSets.{AnyOf, Notes}
use Rattle.gdmo_names.specs.FoundViews.{found_views}
use Rattle.gdmo_names.specs.InStep.{AreEach}
use Rattle.gdmo_names.specs.PartTerms.{Placed, PartTerms}
use Rattle.gdmo_names.specs.PartViews.{step_term}
use Rattle.gdmo_targets.specs.SectionTables.{TellsStep}
use Rattle.gdmo_types.specs.Linkages.{IsLinkage}
use Rattle.class_graphs.specs.ClassGraphs.{TellsFacts}
use Rattle.gdmo_rules.specs.NamingFaults.{StepNamingFaults}
use Rattle.gdmo_rules.proofs.step_names.note_steps.Given as goal

abbrev pub invariant-loop-place : goal.invariant-loop-place
invariant-loop-place l = (parts : PartTerms) (class : Placed) → IsLinkage parts l.linkage →
    TellsFacts parts (found_views l.linkage.templates.now) class l.facts →
    AreEach (TellsStep parts l.linkage.templates.now l.document) (map step_term l.steps) l.targets →
    Notes (AnyOf (StepNamingFaults parts class l.document) (map step_term (take l.place l.steps)))
    l.initial.faults.first l.faults.first
