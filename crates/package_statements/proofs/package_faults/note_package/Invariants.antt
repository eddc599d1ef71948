-- What is wrong with the attributes so far.
use Rattle.std.proofs.Common.{List}
use Rattle.asn1_names.specs.ModuleTerms.{ModuleTerm}
use Rattle.class_faults.specs.FaultSets.{Notes}
use Rattle.class_faults.specs.PlaceFaults.{BeforePlace}
use Rattle.linked_types.specs.KnownParts.{AreClosingParts}
use Rattle.package_statements.specs.UseFaults.{UseFaults}
use Rattle.package_statements.proofs.package_faults.note_package.Given as goal

abbrev pub invariant-loop-stated : goal.invariant-loop-stated
invariant-loop-stated l = (ms : List ModuleTerm) → AreClosingParts ms l.parts →
    Notes (BeforePlace (λ place. UseFaults ms l.parts.linked.now l.part.head.document) l.part.attributes.items
    l.stated-index) l.initial.faults.first l.faults.first
