-- The targets of the classes so far.
use Rattle.std.proofs.Common.{◌≡◌, ℕ, map, take}
use Rattle.std.specs.declared.vec.Vec.{Vec}
use Rattle.class_faults.specs.CyclicFaults.{superclasses_of}
use Rattle.joined_properties.proofs.cyclic_classes.class_graph.Given as goal

abbrev pub invariant-loop-class : goal.invariant-loop-class
invariant-loop-class l =
    map (λ targets. targets.items) l.targets.items ≡ superclasses_of (take l.class-index l.classes)
