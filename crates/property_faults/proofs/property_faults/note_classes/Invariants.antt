-- The faults of the classes so far.
use Rattle.std.proofs.Common.{List}
use Rattle.asn1_names.specs.ModuleTerms.{ModuleTerm}
use Rattle.class_faults.specs.FaultSets.{Notes}
use Rattle.class_faults.specs.PlaceFaults.{BeforePlace}
use Rattle.linked_types.specs.KnownParts.{AreClosingParts}
use Rattle.property_faults.proofs.ClassLaws.{EachFault}
use Rattle.property_faults.proofs.property_faults.note_classes.Given as goal

abbrev pub invariant-loop-place : goal.invariant-loop-place
invariant-loop-place l = (ms : List ModuleTerm) → AreClosingParts ms l.parts →
    Notes (BeforePlace (EachFault ms l.parts.linked.now l.parts.table.now l.properties) l.classes l.place)
    l.initial.faults.first l.faults.first
