-- The identifiers of the modules from which is imported so far.
use Rattle.std.proofs.Common.{◌++◌, take}
use Rattle.std.specs.Prelude.{flat_map}
use Rattle.gdmo_first_names.specs.DefinedNames.{AreAssignedNames}
use Rattle.gdmo_names.specs.FaultSets.{AnyOf, Notes}
use Rattle.gdmo_names.specs.PartTerms.{PartTerms}
use Rattle.gdmo_names.specs.PartViews.{identifier_list}
use Rattle.gdmo_identifiers.specs.IdentifierFaults.{StatedFaults}
use Rattle.gdmo_identifiers.proofs.module_identifiers.judge_imports.Given as goal

abbrev pub invariant-loop-other : goal.invariant-loop-other
invariant-loop-other l = (parts : PartTerms) → AreAssignedNames parts l.assigned →
    Notes (AnyOf (StatedFaults parts l.document) (identifier_list l.imports.first.identifier ++
    flat_map (λ y. identifier_list y.identifier) (take l.other-index l.imports.others.items)))
    l.fn.faults.first l.faults.first
