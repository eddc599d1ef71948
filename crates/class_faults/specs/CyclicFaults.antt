-- CyclicFaults: the classes, and the attributes, that derive from themselves, as faults, each at its label (X.722, sections
-- 8.3 and 8.7; docs/PROFILE.md, section 18).
use Rattle.std.specs.Prelude.{◌≡◌, ℕ, List, Bool, true, Some, map, slice_get}
use Rattle.link_graphs.specs.Leading.{Leads}
use Rattle.linked_parts.specs.declared.linked.LinkedAttribute.{LinkedAttribute}
use Rattle.linked_parts.specs.declared.linked.LinkedClass.{LinkedClass}
use Rattle.linked_parts.specs.declared.linked.LinkedHead.{LinkedHead}
use Rattle.class_faults.specs.AttributeSyntaxes.{bases_of}
use Rattle.class_faults.specs.FaultSets.{FaultSet, OneFault}
use Rattle.class_faults.specs.FirstClassFault.ClassFault.{ClassCyclic}
use Rattle.class_faults.specs.PlaceFaults.{AtPlaces}

-- what has this head leads to itself
abbrev pub CyclicFault : List (List ℕ) → ℕ → LinkedHead → FaultSet
CyclicFault lists k head = OneFault (Leads lists k k) ClassCyclic head.document head.label.at

-- what has this head is marked
abbrev pub MarkedFault : List Bool → ℕ → LinkedHead → FaultSet
MarkedFault marks k head = OneFault (slice_get marks k ≡ Some true) ClassCyclic head.document head.label.at

-- the classes from which each of these derives directly
abbrev pub superclasses_of : List LinkedClass → List (List ℕ)
superclasses_of classes = map (λ (x : LinkedClass). x.superclasses.items) classes

abbrev pub CyclicClassFaults : List LinkedClass → FaultSet
CyclicClassFaults classes = AtPlaces (λ k x. CyclicFault (superclasses_of classes) k x.head) classes

-- the attributes from which each of these derives directly
abbrev pub bases_of_each : List LinkedAttribute → List (List ℕ)
bases_of_each attributes = map (λ (x : LinkedAttribute). bases_of x.syntax) attributes

abbrev pub CyclicAttributeFaults : List LinkedAttribute → FaultSet
CyclicAttributeFaults attributes = AtPlaces (λ k x. CyclicFault (bases_of_each attributes) k x.head) attributes
