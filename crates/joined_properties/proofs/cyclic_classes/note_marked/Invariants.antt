-- Those that are marked among the classes so far.
use Rattle.linked_parts.specs.declared.linked.LinkedClass.{LinkedClass}
use Rattle.class_faults.specs.CyclicFaults.{MarkedFault}
use Rattle.class_faults.specs.FaultSets.{Notes}
use Rattle.class_faults.specs.PlaceFaults.{BeforePlace}
use Rattle.joined_properties.proofs.cyclic_classes.note_marked.Given as goal

abbrev pub invariant-loop-place : goal.invariant-loop-place
invariant-loop-place l = Notes (BeforePlace (λ k (x : LinkedClass). MarkedFault l.cyclic k x.head) l.classes l.place)
    l.initial.faults.first l.faults.first
