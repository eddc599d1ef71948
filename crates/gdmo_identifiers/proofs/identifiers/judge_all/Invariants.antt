-- The templates so far, with what is noted of them.
use Rattle.std.proofs.Common.{take}
use Rattle.std.specs.Prelude.{map}
use Rattle.gdmo_first_names.specs.DefinedNames.{AreAssignedNames}
use Rattle.gdmo_names.specs.FoundViews.{AreTemplates, found_view}
use Rattle.gdmo_names.specs.DocumentTemplates.{templates}
use Rattle.gdmo_names.specs.InStep.{AreEach}
use Rattle.gdmo_names.specs.PartTerms.{PartTerms}
use Rattle.gdmo_names.proofs.InStepLaws.{AddsNoted}
use Rattle.gdmo_identifiers.specs.IdentifierFaults.{FaultsOfRegistered}
use Rattle.gdmo_identifiers.specs.IdentifierTables.{TellsOids, TellsRegistered}
use Rattle.gdmo_identifiers.proofs.identifiers.judge_all.Given as goal

abbrev pub invariant-loop-number : goal.invariant-loop-number
invariant-loop-number l = (parts : PartTerms) → AreTemplates parts l.templates → AreAssignedNames parts l.assigned →
    AreEach (TellsRegistered parts l.lists) (templates parts) l.told →
    AddsNoted (TellsOids parts) (FaultsOfRegistered parts) (map found_view (take l.number l.templates))
    l.initial.identifiers.items l.identifiers.items l.fn.faults.first l.faults.first
