-- The identifiers of the modules so far.
use Rattle.std.proofs.Common.{take}
use Rattle.std.specs.Prelude.{map}
use Rattle.gdmo_first_names.specs.DefinedNames.{AreAssignedNames}
use Rattle.gdmo_names.specs.FaultSets.{AnyOf, Notes}
use Rattle.gdmo_names.specs.PartTerms.{PartTerms}
use Rattle.gdmo_names.specs.PartViews.{module_part}
use Rattle.gdmo_identifiers.specs.IdentifierFaults.{FaultsOfModule}
use Rattle.gdmo_identifiers.proofs.module_identifiers.judge_modules.Given as goal

abbrev pub invariant-loop-text : goal.invariant-loop-text
invariant-loop-text l = (parts : PartTerms) → AreAssignedNames parts l.assigned →
    Notes (AnyOf (FaultsOfModule parts) (map module_part (take l.text-index l.modules)))
    l.fn.faults.first l.faults.first
