-- The names so far, and which of them came again.
use Rattle.asn1_names.specs.TermViews.{module_terms}
use Rattle.gdmo_names.specs.FaultSets.{Notes}
use Rattle.gdmo_types.specs.ModuleNames.{ModuleAgain}
use Rattle.gdmo_types.specs.PlaceFaults.{BeforePlace}
use Rattle.gdmo_types.proofs.ModuleNameLaws.{HasNames, IsStandardName, module_called}
use Rattle.gdmo_types.proofs.module_names.module_names.Given as goal

abbrev pub invariant-loop-module : goal.invariant-loop-module
invariant-loop-module l =
    HasNames IsStandardName module_called (module_terms l.modules) l.module-index l.names
    × Notes (BeforePlace (ModuleAgain (module_terms l.modules)) (module_terms l.modules) l.module-index)
    l.initial.faults.first l.faults.first
