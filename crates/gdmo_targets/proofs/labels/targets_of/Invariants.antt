use Rattle.std.proofs.Common.{take}
use Rattle.gdmo_names.specs.FoundViews.{AreLabels}
use Rattle.gdmo_names.specs.PartTerms.{PartTerms}
use Rattle.gdmo_names.specs.TargetTables.{AreFound}
use Rattle.gdmo_targets.proofs.TargetLaws.{TellFirst}
use Rattle.gdmo_targets.proofs.labels.targets_of.Given as goal

abbrev pub invariant-loop-found : goal.invariant-loop-found
invariant-loop-found l = (parts : PartTerms) → AreFound parts l.templates → AreLabels parts l.templates l.labels →
    TellFirst parts l.templates (take l.found-index l.templates) l.targets.items l.initial.faults.first l.faults.first
