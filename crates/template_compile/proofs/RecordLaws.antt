-- RecordLaws: linked parts of documents of which nothing is wrong in the modules, with the references and with the
-- classes can have records, and what their instances name is registered (X.722, section 8; docs/PROFILE.md, sections
-- 9, 12 and 18).
use Rattle.std.proofs.Common.{◌≡◌, inl, inr, List, Some}
use Rattle.std.specs.Prelude.{All, Contains, slice_get}
use Rattle.std.proofs.Math.Path.{subst}
use Rattle.asn1_names.specs.TermViews.{module_terms}
use Rattle.document_parts.specs.declared.documents.Doc.{Doc}
use Rattle.gdmo_names.specs.declared.parsed.Parsed.{Parsed}
use Rattle.linked_parts.specs.declared.linked.Linked.{Linked}
use Rattle.linked_parts.specs.declared.linked.LinkedAttribute.{LinkedAttribute}
use Rattle.linked_parts.specs.declared.linked.LinkedPair.{LinkedPair}
use Rattle.class_faults.specs.FirstClassFault.{AreFaultless}
use Rattle.class_closure.specs.ClosedRecords.{CanHaveRecords, HaveTheirAttributes}
use Rattle.instance_records.specs.RegisteredInstances.{AreRegisteredInstances, IsRegisteredInstance}
use Rattle.meant_names.proofs.MeantLaws.{are_meant}
use Rattle.registered_laws.proofs.DocumentLaws.{are_registered_parts, are_registered_rules, have_own_identifiers}
use Rattle.section_values.proofs.StepLaws.{identified}
use Rattle.section_values.specs.RegisteredSections.{IsRegisteredAttribute}
use Rattle.template_compile.specs.Acceptance.{AreLinked}
use Rattle.wanted_laws.proofs.DocumentLaws.{are_registered_instances, are_wanted}

-- what holds of each element holds of one of them
of_each : {A : Type 0} (P : A → Type 0) (xs : List A) (x : A) → All P xs → Contains xs x → P x
of_each P xs x all (k, less, is) = subst P is (all k x less)

attribute_there : (linked : Linked) (pairs : List LinkedPair) (pair : LinkedPair) →
    All (λ (x : LinkedPair). IsRegisteredAttribute linked x.attribute) pairs → Contains pairs pair →
    (x : LinkedAttribute) × (slice_get linked.attributes.items pair.attribute ≡ Some x)
attribute_there linked pairs pair all stands =
    let registered = of_each (λ (x : LinkedPair). IsRegisteredAttribute linked x.attribute) pairs pair all stands in
    let there = identified (λ (x : LinkedAttribute). x.head) linked.attributes.items pair.attribute registered.0
    registered.1 in
    (there.0, there.1)

attributes_there : (linked : Linked) → AreRegisteredInstances linked → HaveTheirAttributes linked
attributes_there linked registered instance pair there (inl stands) = attribute_there linked instance.name.items pair
    (of_each (IsRegisteredInstance linked) linked.instances.items instance registered there).of_name stands
attributes_there linked registered instance pair there (inr stands) = attribute_there linked instance.given.items pair
    (of_each (IsRegisteredInstance linked) linked.instances.items instance registered there).of_given stands

pub instances_registered : (docs : List Doc) (parts : Parsed) (linked : Linked) → AreLinked docs parts linked →
    AreRegisteredInstances linked
instances_registered docs parts linked are =
    are_registered_instances parts linked are.are_linked are.referenced.have_targets

pub can_have : (docs : List Doc) (parts : Parsed) (linked : Linked) → AreLinked docs parts linked →
    AreFaultless (module_terms parts.modules.items) linked → CanHaveRecords (module_terms parts.modules.items) linked
can_have docs parts linked are sound =
    let resolved = are.referenced.resolved in
    let said = resolved.said in
    let targets = are.referenced.have_targets in
    record {
      are_registered = are_registered_parts parts linked are.are_linked targets;
      have_own = have_own_identifiers docs said.tokens said.units parts linked said.lexed said.read said.gathered
          are.are_linked targets;
      rules_registered = are_registered_rules parts linked are.are_linked targets;
      instances_there = attributes_there linked (instances_registered docs parts linked are);
      are_meant = are_meant parts.modules.items linked resolved.faultless sound
          (are_wanted parts linked are.are_linked targets);
    }
