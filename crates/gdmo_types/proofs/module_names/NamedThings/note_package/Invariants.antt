-- What is wrong with the attributes so far.
use Rattle.std.proofs.Common.{take, map}
use Rattle.asn1_names.specs.TermViews.{module_terms}
use Rattle.gdmo_names.specs.FaultSets.{AnyOf, Notes}
use Rattle.gdmo_types.specs.ModuleNames.{AreModuleNames}
use Rattle.gdmo_types.proofs.QualifiedLaws.{UseFaults}
use Rattle.gdmo_types.proofs.module_names.NamedThings.note_package.Given as goal

abbrev pub invariant-loop-x : goal.invariant-loop-x
invariant-loop-x l = AreModuleNames (module_terms l.self.types.now) l.self.modules.now →
    Notes (AnyOf (UseFaults (module_terms l.self.types.now) l.document) (map (λ x. x) (take l.x-index l.x-items)))
    l.initial.faults.first l.faults.first
