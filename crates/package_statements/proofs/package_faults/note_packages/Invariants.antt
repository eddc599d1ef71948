-- What is wrong with the packages so far.
use Rattle.std.proofs.Common.{List}
use Rattle.asn1_names.specs.ModuleTerms.{ModuleTerm}
use Rattle.class_faults.specs.FaultSets.{Notes}
use Rattle.class_faults.specs.PlaceFaults.{BeforePlace}
use Rattle.linked_types.specs.KnownParts.{AreClosingParts}
use Rattle.package_statements.specs.UseFaults.{FaultsOfPackage}
use Rattle.package_statements.proofs.package_faults.note_packages.Given as goal

abbrev pub invariant-loop-part : goal.invariant-loop-part
invariant-loop-part l = (ms : List ModuleTerm) → AreClosingParts ms l.parts →
    Notes (BeforePlace (λ place. FaultsOfPackage ms l.parts.linked.now) l.parts.linked.now.packages.items
    l.part-index) l.initial.faults.first l.faults.first
