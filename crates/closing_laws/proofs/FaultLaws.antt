-- FaultLaws: what is noted last is the first fault of the classes, and where nothing is noted there is none.
use Rattle.std.proofs.Common.{◌≡◌, ◌⊎◌, ◌<◌, ◌≤◌, ◌∙◌, ap, arith, ℕ, zero, suc, List, None, Option, Some, inl, inr}
use Rattle.std.proofs.Common.{refl, sym}
use Rattle.std.proofs.Math.Path.{subst}
use Rattle.asn1_names.specs.ModuleTerms.{ModuleTerm}
use Rattle.linked_parts.specs.declared.linked.Linked.{Linked}
use Rattle.filled_syntaxes.specs.NotedTexts.{IsNoLater as IsNoLaterText, KeepsText}
use Rattle.filled_syntaxes.specs.NotedTexts.IsNoLater.{earlier_document as earlier_text_document, same_document}
use Rattle.filled_syntaxes.specs.declared.bad_texts.TextPlace.{TextPlace}
use Rattle.class_faults.specs.BadValues.{BadValueAt}
use Rattle.class_faults.specs.BadValues.BadValueAt.{of_assignment, of_default, of_instance, of_package, of_rule}
use Rattle.class_faults.specs.CyclicClasses.{CyclicClassAt}
use Rattle.class_faults.specs.CyclicFaults.{CyclicAttributeFaults, CyclicClassFaults}
use Rattle.class_faults.specs.FaultSets.{Either, FaultSet, FirstText, KeepsOne, Notes}
use Rattle.class_faults.specs.FirstClassFault.{AreFaultless, ClassFault, HasFault, IsFirstFault, IsNoLater}
use Rattle.class_faults.specs.FirstClassFault.ClassFault.{ClassCyclic, DefaultUnequal, PermittedEmpty, SetMissing}
use Rattle.class_faults.specs.FirstClassFault.ClassFault.{ValueBad}
use Rattle.class_faults.specs.FirstClassFault.IsNoLater.{at_one_token, earlier_document, earlier_token}
use Rattle.class_faults.specs.NotedFaults.{kind_of}
use Rattle.class_faults.specs.declared.first_fault.ClassFault.{ClassFault as NotedFault}
use Rattle.class_faults.proofs.CyclicLaws.{cyclic_told, told_cyclic}
use Rattle.class_faults.proofs.NotingLaws.{no_later, some_is}
use Rattle.package_statements.specs.StatedFaults.{StatedFaults}
use Rattle.property_faults.specs.PropertyFaults.{PropertyFaults}
use Rattle.closing_laws.specs.NotedSteps.{AreClassFaults, AreCyclicFaults, AreNotedFaults}
use Rattle.closing_laws.proofs.TextLaws.{assignment_kept, instance_kept, rule_kept, text_there}

-- ---- the faults of each step are faults of classes

cyclic_is : (ms : List ModuleTerm) (linked : Linked) (kind : ClassFault) (document at : ℕ) →
    (ClassCyclic ≡ kind) × CyclicClassAt linked document at → HasFault ms linked kind document at
cyclic_is ms linked kind document at (same, holds) = subst (λ k. HasFault ms linked k document at) same holds

property_is : (ms : List ModuleTerm) (linked : Linked) (kind : ClassFault) (document at : ℕ) →
    PropertyFaults ms linked kind document at → HasFault ms linked kind document at
property_is ms linked DefaultUnequal document at fault = fault
property_is ms linked PermittedEmpty document at fault = fault
property_is ms linked ClassCyclic document at fault = absurd fault
property_is ms linked SetMissing document at fault = absurd fault
property_is ms linked ValueBad document at fault = absurd fault

stated_is : (ms : List ModuleTerm) (linked : Linked) (kind : ClassFault) (document at : ℕ) →
    StatedFaults ms linked kind document at → HasFault ms linked kind document at
stated_is ms linked SetMissing document at fault = fault
stated_is ms linked ValueBad document at fault = of_package fault
stated_is ms linked ClassCyclic document at fault = absurd fault
stated_is ms linked DefaultUnequal document at fault = absurd fault
stated_is ms linked PermittedEmpty document at fault = absurd fault

text_is : (ms : List ModuleTerm) (linked : Linked) (texts : Option TextPlace) →
    ((x : TextPlace) → texts ≡ Some x → BadValueAt ms linked x.document x.token) → (kind : ClassFault)
    (document at : ℕ) → FirstText texts kind document at → HasFault ms linked kind document at
text_is ms linked texts bad kind document at (place, is, (same, in_document, at_token)) =
    subst (λ k. HasFault ms linked k document at) same
    (subst (λ d. BadValueAt ms linked d at) in_document
    (subst (λ t. BadValueAt ms linked place.document t) at_token (bad place is)))

-- ---- what is noted is a fault

cyclic_there : (ms : List ModuleTerm) (linked : Linked) (first : Option NotedFault) → AreCyclicFaults linked first →
    (x : NotedFault) → first ≡ Some x → HasFault ms linked (kind_of x.kind) x.document x.token
cyclic_there ms linked first steps x is = elim (steps.of_classes.there x is) as
    (λ _. HasFault ms linked (kind_of x.kind) x.document x.token) [
      | inr fault ↦ cyclic_is ms linked (kind_of x.kind) x.document x.token
          (cyclic_told linked (kind_of x.kind) x.document x.token (inl fault))
      | inl at ↦ elim (steps.of_attributes.there x at) as
          (λ _. HasFault ms linked (kind_of x.kind) x.document x.token) [
            | inr fault ↦ cyclic_is ms linked (kind_of x.kind) x.document x.token
                (cyclic_told linked (kind_of x.kind) x.document x.token (inr fault))
            | inl none ↦ absurd (cc)
          ]
    ]

classes_there : (ms : List ModuleTerm) (linked : Linked) (first : Option NotedFault) → AreClassFaults ms linked first →
    (x : NotedFault) → first ≡ Some x → HasFault ms linked (kind_of x.kind) x.document x.token
classes_there ms linked first steps x is = elim (steps.of_packages.there x is) as
    (λ _. HasFault ms linked (kind_of x.kind) x.document x.token) [
      | inr fault ↦ stated_is ms linked (kind_of x.kind) x.document x.token fault
      | inl at ↦ elim (steps.of_properties.there x at) as
          (λ _. HasFault ms linked (kind_of x.kind) x.document x.token) [
            | inr fault ↦ property_is ms linked (kind_of x.kind) x.document x.token fault
            | inl before ↦ cyclic_there ms linked steps.cyclic steps.are_cyclic x before
          ]
    ]

fault_there : (ms : List ModuleTerm) (linked : Linked) (first : Option NotedFault) → AreNotedFaults ms linked first →
    (x : NotedFault) → first ≡ Some x → HasFault ms linked (kind_of x.kind) x.document x.token
fault_there ms linked first steps x is = elim (steps.of_texts.there x is) as
    (λ _. HasFault ms linked (kind_of x.kind) x.document x.token) [
      | inr fault ↦ text_is ms linked steps.texts (text_there ms linked steps.texts steps.are_texts)
          (kind_of x.kind) x.document x.token fault
      | inl at ↦ classes_there ms linked steps.classes steps.of_classes x at
    ]

-- ---- each fault is noted, or one before it

kept_on : {Faults : FaultSet} {before after : Option NotedFault} {kind : ClassFault} {document at : ℕ} →
    Notes Faults before after → KeepsOne before kind document at → KeepsOne after kind document at
kept_on notes (x, is, late) = let y = notes.kept x is in (y.0, y.1, no_later y.2 late)

-- what is kept when packages were gone through is kept to the end
to_end : (ms : List ModuleTerm) (linked : Linked) (first : Option NotedFault) (steps : AreNotedFaults ms linked first)
    {kind : ClassFault} {document at : ℕ} → KeepsOne steps.of_classes.joined kind document at →
    KeepsOne first kind document at
to_end ms linked first steps keeps = kept_on steps.of_texts (kept_on steps.of_classes.of_packages keeps)

cyclic_kept : (ms : List ModuleTerm) (linked : Linked) (first : Option NotedFault)
    (steps : AreNotedFaults ms linked first) (document at : ℕ) →
    Either (CyclicClassFaults linked.classes.items) (CyclicAttributeFaults linked.attributes.items) ClassCyclic
    document at →
    KeepsOne first ClassCyclic document at
cyclic_kept ms linked first steps document at (inl fault) = to_end ms linked first steps
    (kept_on steps.of_classes.of_properties (steps.of_classes.are_cyclic.of_classes.least ClassCyclic document at
    fault))
cyclic_kept ms linked first steps document at (inr fault) = to_end ms linked first steps
    (kept_on steps.of_classes.of_properties (kept_on steps.of_classes.are_cyclic.of_classes
    (steps.of_classes.are_cyclic.of_attributes.least ClassCyclic document at fault)))

split : (token its_token : ℕ) → token ≤ its_token → (token < its_token) ⊎ (token ≡ its_token)
split zero zero before = inr refl
split zero (suc n) before = inl (omega arith)
split (suc m) zero before = absurd (omega (arith, before))
split (suc m) (suc n) before = elim (split m n (omega (arith, before))) as
    (λ _. (suc m < suc n) ⊎ (suc m ≡ suc n)) [
      | inl less ↦ inl (omega (arith, less))
      | inr equal ↦ inr (ap suc equal)
    ]

token_before : (document its_document token its_token : ℕ) → document ≡ its_document → token ≤ its_token →
    IsNoLater ValueBad document token ValueBad its_document its_token
token_before document its_document token its_token same before = elim (split token its_token before) as
    (λ _. IsNoLater ValueBad document token ValueBad its_document its_token) [
      | inl less ↦ earlier_token same less
      | inr equal ↦ at_one_token same equal (omega arith)
    ]

-- a text stands no later as a fault than as a text
as_fault : (x : TextPlace) (document at : ℕ) → IsNoLaterText x (record { document = document; token = at }) →
    IsNoLater ValueBad x.document x.token ValueBad document at
as_fault x document at (earlier_text_document before) = earlier_document before
as_fault x document at (same_document same before) = token_before x.document document x.token at same before

text_kept : (ms : List ModuleTerm) (linked : Linked) (first : Option NotedFault)
    (steps : AreNotedFaults ms linked first)
    (document at : ℕ) → KeepsText steps.texts (record { document = document; token = at }) →
    KeepsOne first ValueBad document at
text_kept ms linked first steps document at (x, is, late) =
    let y = steps.of_texts.least ValueBad x.document x.token (x, is, (refl, refl, refl)) in
    (y.0, y.1, no_later y.2 (as_fault x document at late))

value_kept : (ms : List ModuleTerm) (linked : Linked) (first : Option NotedFault)
    (steps : AreNotedFaults ms linked first)
    (document at : ℕ) → BadValueAt ms linked document at → KeepsOne first ValueBad document at
value_kept ms linked first steps document at (of_assignment bad) = text_kept ms linked first steps document at
    (assignment_kept ms linked steps.texts steps.are_texts (record { document = document; token = at }) (inl bad))
value_kept ms linked first steps document at (of_default bad) = text_kept ms linked first steps document at
    (assignment_kept ms linked steps.texts steps.are_texts (record { document = document; token = at }) (inr bad))
value_kept ms linked first steps document at (of_package bad) =
    kept_on steps.of_texts (steps.of_classes.of_packages.least ValueBad document at bad)
value_kept ms linked first steps document at (of_rule bad) = text_kept ms linked first steps document at
    (rule_kept ms linked steps.texts steps.are_texts (record { document = document; token = at }) bad)
value_kept ms linked first steps document at (of_instance bad) = text_kept ms linked first steps document at
    (instance_kept ms linked steps.texts steps.are_texts (record { document = document; token = at }) bad)

fault_kept : (ms : List ModuleTerm) (linked : Linked) (first : Option NotedFault)
    (steps : AreNotedFaults ms linked first)
    (kind : ClassFault) (document at : ℕ) → HasFault ms linked kind document at → KeepsOne first kind document at
fault_kept ms linked first steps ClassCyclic document at fault =
    cyclic_kept ms linked first steps document at (told_cyclic linked document at fault)
fault_kept ms linked first steps DefaultUnequal document at fault =
    to_end ms linked first steps (steps.of_classes.of_properties.least DefaultUnequal document at fault)
fault_kept ms linked first steps PermittedEmpty document at fault =
    to_end ms linked first steps (steps.of_classes.of_properties.least PermittedEmpty document at fault)
fault_kept ms linked first steps SetMissing document at fault =
    kept_on steps.of_texts (steps.of_classes.of_packages.least SetMissing document at fault)
fault_kept ms linked first steps ValueBad document at fault = value_kept ms linked first steps document at fault

-- ---- the answer

pub first_told : (ms : List ModuleTerm) (linked : Linked) (first : Option NotedFault) → AreNotedFaults ms linked first →
    (x : NotedFault) → first ≡ Some x → IsFirstFault ms linked (kind_of x.kind) x.document x.token
first_told ms linked first steps x is = record {
  there = fault_there ms linked first steps x is;
  least = λ other its_document its_at fault.
      (let y = fault_kept ms linked first steps other its_document its_at fault in
      subst (λ (z : NotedFault). IsNoLater (kind_of z.kind) z.document z.token other its_document its_at)
      (some_is y.0 x (sym y.1 ∙ is)) y.2);
}

pub none_told : (ms : List ModuleTerm) (linked : Linked) (first : Option NotedFault) → AreNotedFaults ms linked first →
    first ≡ None → AreFaultless ms linked
none_told ms linked first steps is = λ kind document at fault.
    (let y = fault_kept ms linked first steps kind document at fault in absurd (cc))
