-- CyclicLaws: what is marked is what leads to itself, so its faults are those of a cycle.
use Rattle.std.proofs.Common.{◌≡◌, ℕ, List, Bool, true, false, Option, None, Some, refl, sym, inl, inr}
use Rattle.std.specs.Prelude.{unwrap_or, slice_get}
use Rattle.link_graphs.specs.Cycles.{MarkCycles}
use Rattle.link_graphs.specs.Leading.{Leads}
use Rattle.linked_parts.specs.declared.linked.Linked.{Linked}
use Rattle.linked_parts.specs.declared.linked.LinkedAttribute.{LinkedAttribute}
use Rattle.linked_parts.specs.declared.linked.LinkedClass.{LinkedClass}
use Rattle.linked_parts.specs.declared.linked.LinkedHead.{LinkedHead}
use Rattle.class_faults.specs.CyclicClasses.{CyclicClassAt}
use Rattle.class_faults.specs.CyclicClasses.CyclicClassAt.{of_attribute, of_class}
use Rattle.class_faults.specs.CyclicFaults.{CyclicAttributeFaults, CyclicClassFaults, CyclicFault, MarkedFault}
use Rattle.class_faults.specs.FaultSets.{Either, Notes, OneFault}
use Rattle.class_faults.specs.FirstClassFault.{ClassFault}
use Rattle.class_faults.specs.FirstClassFault.ClassFault.{ClassCyclic}
use Rattle.class_faults.specs.PlaceFaults.{AtPlaces}
use Rattle.class_faults.specs.declared.first_fault.ClassFault.{ClassFault as NotedFault}
use Rattle.class_faults.proofs.NotingLaws.{noted_by}

pub marked : (mark : Option Bool) → unwrap_or mark false ≡ true → mark ≡ Some true
marked (Some true) is = refl
marked (Some false) is = absurd (cc)
marked None is = absurd (cc)

pub unmarked : (mark : Option Bool) → unwrap_or mark false ≡ false → ¬ (mark ≡ Some true)
unmarked (Some true) is = absurd (cc)
unmarked (Some false) is = λ e. absurd (cc)
unmarked None is = λ e. absurd (cc)

pub one_by : {Holds Other : Type 0} {its kind : ClassFault} {its_document its_at document at : ℕ} → (Holds → Other) →
    OneFault Holds its its_document its_at kind document at → OneFault Other its its_document its_at kind document at
one_by to (holds, k, d, t) = (to holds, k, d, t)

pub marks_noted : {X : Type 0} (head : X → LinkedHead) (lists : List (List ℕ)) (marks : List Bool) (xs : List X)
    {one next : Option NotedFault} → MarkCycles lists marks →
    Notes (AtPlaces (λ k x. MarkedFault marks k (head x)) xs) one next →
    Notes (AtPlaces (λ k x. CyclicFault lists k (head x)) xs) one next
marks_noted head lists marks xs marking h =
    noted_by (AtPlaces (λ k x. MarkedFault marks k (head x)) xs) (AtPlaces (λ k x. CyclicFault lists k (head x)) xs)
    (λ kind d t fault. (fault.0, fault.1, fault.2, one_by (marking.leads fault.0) fault.3))
    (λ kind d t fault. (fault.0, fault.1, fault.2, one_by (marking.marked fault.0) fault.3)) h

-- ---- these faults are those of the sentence

pub cyclic_told : (linked : Linked) (kind : ClassFault) (document at : ℕ) →
    Either (CyclicClassFaults linked.classes.items) (CyclicAttributeFaults linked.attributes.items) kind document at →
    (ClassCyclic ≡ kind) × CyclicClassAt linked document at
cyclic_told linked kind document at (inl fault) =
    let one = fault.3 in
    (one.1, of_class fault.2 one.0 (record { in_document = one.2; at_token = one.3 }))
cyclic_told linked kind document at (inr fault) =
    let one = fault.3 in
    (one.1, of_attribute fault.2 one.0 (record { in_document = one.2; at_token = one.3 }))

pub told_cyclic : (linked : Linked) (document at : ℕ) → CyclicClassAt linked document at →
    Either (CyclicClassFaults linked.classes.items) (CyclicAttributeFaults linked.attributes.items) ClassCyclic document at
told_cyclic linked document at (of_class {k} {x} there leads label) =
    inl (k, x, there, (leads, refl, label.in_document, label.at_token))
told_cyclic linked document at (of_attribute {k} {x} there leads label) =
    inr (k, x, there, (leads, refl, label.in_document, label.at_token))
