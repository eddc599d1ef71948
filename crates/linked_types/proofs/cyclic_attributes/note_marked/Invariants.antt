-- Those that are marked among the attributes so far.
use Rattle.linked_parts.specs.declared.linked.LinkedAttribute.{LinkedAttribute}
use Rattle.class_faults.specs.CyclicFaults.{MarkedFault}
use Rattle.class_faults.specs.FaultSets.{Notes}
use Rattle.class_faults.specs.PlaceFaults.{BeforePlace}
use Rattle.linked_types.proofs.cyclic_attributes.note_marked.Given as goal

abbrev pub invariant-loop-place : goal.invariant-loop-place
invariant-loop-place l = Notes (BeforePlace (λ k (x : LinkedAttribute). MarkedFault l.cyclic k x.head) l.attributes
    l.place)
    l.initial.faults.first l.faults.first
