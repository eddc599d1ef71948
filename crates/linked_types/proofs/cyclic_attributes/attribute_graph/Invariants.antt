-- The targets of the attributes so far.
use Rattle.std.proofs.Common.{◌≡◌, map, take}
use Rattle.class_faults.specs.CyclicFaults.{bases_of_each}
use Rattle.linked_types.proofs.cyclic_attributes.attribute_graph.Given as goal

abbrev pub invariant-loop-attribute : goal.invariant-loop-attribute
invariant-loop-attribute l =
    map (λ targets. targets.items) l.targets.items ≡ bases_of_each (take l.attribute-index l.attributes)
