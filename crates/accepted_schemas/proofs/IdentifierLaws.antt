-- IdentifierLaws: each identifier in the records of a schema is one of 2 to 64 arcs of 32 bits, since each is that of a
-- registered template (X.660, clause 7; X.722, section 8; docs/PROFILE.md, section 12).
use Rattle.std.specs.Prelude.{◌≡◌, ◌++◌, ℕ, List, true, Some, All, Contains, map}
use Rattle.std.specs.List.{list_all}
use Rattle.std.proofs.Common.{◌⊎◌, ◌∙◌, inl, inr}
use Rattle.std.proofs.lemmas.Bool.{and_parts}
use Rattle.std.proofs.lemmas.List.Elements.{All-append, All-map}
use Rattle.term_values.specs.Oid.{is_arc, is_oid}
use Rattle.term_model.specs.WholeSet.{identifiers_of}
use Rattle.term_model.specs.declared.actions.ActRec.{ActRec}
use Rattle.term_model.specs.declared.actions.NoteRec.{NoteRec}
use Rattle.term_model.specs.declared.name_binding.BindRec.{BindRec}
use Rattle.term_model.specs.declared.packages.PackageRec.{PackageRec}
use Rattle.term_model.specs.declared.schema.AttrRec.{AttrRec}
use Rattle.term_model.specs.declared.schema.ClassRec.{ClassRec}
use Rattle.term_model.specs.declared.schema.GroupRec.{GroupRec}
use Rattle.term_model.specs.declared.schema.Set.{Set}
use Rattle.asn1_names.specs.ModuleTerms.{ModuleTerm}
use Rattle.gdmo_names.specs.FirstNames.{are_identifier}
use Rattle.gdmo_names.specs.InStep.{AreEach as AreInStep}
use Rattle.gdmo_names.specs.PartTerms.{PartTerms, Placed, identifier_of}
use Rattle.gdmo_names.specs.TemplateTerms.{BodyTerm}
use Rattle.gdmo_linking.proofs.StepLaws.{each_from as template_from}
use Rattle.linked_parts.specs.declared.linked.Linked.{Linked}
use Rattle.linked_parts.specs.declared.linked.LinkedClass.{LinkedClass}
use Rattle.linked_parts.specs.declared.linked.LinkedHead.{LinkedHead}
use Rattle.linked_packages.specs.LinkedPackages.{IsPackageOf}
use Rattle.linked_templates.specs.LinkedMembers.{IsActionOf, IsAttributeOf, IsBindingOf, IsGroupOf, IsNotificationOf}
use Rattle.linked_templates.specs.LinkedTemplates.{IsClassOf}
use Rattle.linked_templates.specs.TemplateTables.{IsTemplate}
use Rattle.linked_documents.specs.LinkedParts.{AreLinkedParts}
use Rattle.linked_types.specs.PartIdentifiers.{AreEach, IsIdentified}
use Rattle.schema_records.specs.ClassRecords.{IsClass, IsPackageAt}
use Rattle.schema_records.specs.MemberRecords.{AreRecords, IsAction, IsBinding, IsGroup, IsNotification}
use Rattle.schema_records.proofs.ClassLaws.{at_contains, contains_at, each_from, named_part}
use Rattle.instance_records.specs.InstanceRecords.{AreInstanceRecords, IsInstanceRecord}
use Rattle.registered_laws.proofs.ApartLaws.{stated_of}
use Rattle.reference_laws.proofs.PlaceLaws.{all_made}
use Rattle.stated_laws.proofs.ListLaws.{all_of_each}
use Rattle.stated_laws.proofs.TemplateLaws.{AreRecorded, attribute_of}
use Rattle.opening_laws.specs.Encodable.{IsChosen, IsIdentifier, IsOfClass}

arcs_fit : (arcs : List ℕ) → are_identifier arcs ≡ true → IsIdentifier arcs
arcs_fit arcs good = and_parts (is_oid arcs) (list_all is_arc arcs) good

-- the identifier of what is linked of a template
module _ {L : Type 0} (parts : PartTerms) (head : L → LinkedHead) (is : ℕ → BodyTerm → L → Type 0) where
  pub linked_identifier : (xs : List Placed) (ys : List L) → AreInStep (IsTemplate parts head is) xs ys → (y : L) →
      Contains ys y → (id : List ℕ) → (head y).identifier ≡ Some id → IsIdentifier id
  linked_identifier xs ys each y has id called =
      let at = contains_at ys y has in
      let found = template_from (IsTemplate parts head is) xs ys at.0 y each at.1 in
      arcs_fit id
      (stated_of parts (identifier_of found.0.template) (head y).identifier id called found.2.0.identifier).2.good

module _ (parts : PartTerms) (ms : List ModuleTerm) (linked : Linked) (schema : Set)
    (are_linked : AreLinkedParts parts linked) (are : AreRecords ms linked schema) where
  abbrev recorded : AreRecorded
  recorded = record { ms = ms; linked = linked; schema = schema; are = are }

  -- ---- templates but packages

  class_identifiers : All (λ (r : ClassRec). IsIdentifier r.id) schema.classes
  class_identifiers = all_made (IsClass ms linked) (λ (r : ClassRec). IsIdentifier r.id) linked.classes.items
      schema.classes (λ part x has is. linked_identifier parts (λ y. y.head) (IsClassOf parts) _ linked.classes.items
      are_linked.tables.classes part has x.id is.registered.is_id) are.classes_are

  attribute_identifiers : All (λ (r : AttrRec). IsIdentifier r.id) schema.attributes
  attribute_identifiers = all_of_each (λ (r : AttrRec). IsIdentifier r.id) schema.attributes (λ x known.
      let found = attribute_of recorded x known in
      linked_identifier parts (λ y. y.head) (IsAttributeOf parts) _ linked.attributes.items
      are_linked.tables.attributes found.1.part
      (at_contains linked.attributes.items found.0 found.1.part found.1.stands) x.id found.1.registered.is_id)

  group_identifiers : All (λ (r : GroupRec). IsIdentifier r.id) schema.groups
  group_identifiers = all_made (IsGroup linked) (λ (r : GroupRec). IsIdentifier r.id) linked.groups.items
      schema.groups (λ part x has is. linked_identifier parts (λ y. y.head) (IsGroupOf parts) _ linked.groups.items
      are_linked.tables.groups part has x.id is.registered.is_id) are.groups_are

  binding_identifiers : All (λ (r : BindRec). IsIdentifier r.id) schema.bindings
  binding_identifiers = all_made (IsBinding linked) (λ (r : BindRec). IsIdentifier r.id) linked.bindings.items
      schema.bindings (λ part x has is. linked_identifier parts (λ y. y.head) (IsBindingOf parts) _
      linked.bindings.items are_linked.tables.bindings part has x.id is.registered.is_id) are.bindings_are

  action_identifiers : All (λ (r : ActRec). IsIdentifier r.id) schema.actions
  action_identifiers = all_made (IsAction ms linked) (λ (r : ActRec). IsIdentifier r.id) linked.actions.items
      schema.actions (λ part x has is. linked_identifier parts (λ y. y.head) (IsActionOf parts) _ linked.actions.items
      are_linked.tables.actions part has x.id is.registered.is_id) are.actions_are

  notification_identifiers : All (λ (r : NoteRec). IsIdentifier r.id) schema.notifications
  notification_identifiers = all_made (IsNotification ms linked) (λ (r : NoteRec). IsIdentifier r.id)
      linked.notifications.items schema.notifications (λ part x has is. linked_identifier parts (λ y. y.head)
      (IsNotificationOf parts) _ linked.notifications.items are_linked.tables.notifications part has x.id
      is.registered.is_id) are.notifications_are

  -- those of one kind more
  more_identifiers : {A : Type 0} (id_of : A → List ℕ) (xs : List A) (others : List (List ℕ)) →
      All (λ x. IsIdentifier (id_of x)) xs → All IsIdentifier others → All IsIdentifier (others ++ map id_of xs)
  more_identifiers id_of xs others one all =
      All-append IsIdentifier others (map id_of xs) all (All-map IsIdentifier id_of xs one)

  pub all_identifiers : All IsIdentifier (identifiers_of schema)
  all_identifiers =
      more_identifiers (λ r. r.id) schema.notifications _ notification_identifiers
      (more_identifiers (λ r. r.id) schema.actions _ action_identifiers
      (more_identifiers (λ r. r.id) schema.bindings _ binding_identifiers
      (more_identifiers (λ r. r.id) schema.groups _ group_identifiers
      (more_identifiers (λ r. r.id) schema.attributes _ attribute_identifiers
      (All-map IsIdentifier (λ r. r.id) schema.classes class_identifiers)))))

  -- ---- packages

  package_identifier : (places : List ℕ) (packages : List PackageRec) (x : PackageRec) (id : List ℕ) →
      AreEach (IsPackageAt ms linked) places packages → Contains packages x → x.id ≡ Some id → IsIdentifier id
  package_identifier places packages x id each has is =
      let at = contains_at packages x has in
      let found = each_from (IsPackageAt ms linked) places packages at.0 x each at.1 in
      linked_identifier parts (λ y. y.head) (IsPackageOf parts) _ linked.packages.items are_linked.tables.packages
      found.2.0 (at_contains linked.packages.items found.0 found.2.0 found.2.1) id (found.2.2.is_id ∙ is)

  class_package : (id : List ℕ) → IsOfClass schema id → IsIdentifier id
  class_package id (of_class, (of_package, known, own, is)) = by own
    where
      part_of : (part : LinkedClass) × IsClass ms linked part of_class
      part_of =
          let at = contains_at schema.classes of_class known in
          let found = each_from (IsClass ms linked) linked.classes.items schema.classes at.0 of_class are.classes_are
          at.1 in
          (found.0, found.2)

      by : Contains of_class.mandatory of_package ⊎ Contains of_class.conditional of_package → IsIdentifier id
      by (inl has) = package_identifier part_of.0.mandatory.items of_class.mandatory of_package id
          part_of.1.mandatory_are has is
      by (inr has) = package_identifier part_of.0.conditional.items of_class.conditional of_package id
          part_of.1.conditional_are has is

  module _ (of_instances : AreInstanceRecords ms linked schema.instances schema.system) where
    chosen_package : (id : List ℕ) → IsChosen schema id → IsIdentifier id
    chosen_package id (instance, known, has) =
        let at = contains_at schema.instances instance known in
        let found = each_from (IsInstanceRecord ms linked) linked.instances.items schema.instances at.0 instance
        of_instances.instances_are at.1 in
        let own = contains_at instance.chosen id has in
        let named = each_from (IsIdentified (λ y. y.head) linked.packages.items) found.0.packages.items
        instance.chosen own.0 id found.2.chosen_are own.1 in
        let there = named_part (λ y. y.head) linked.packages.items named.0 id named.2 in
        linked_identifier parts (λ y. y.head) (IsPackageOf parts) _ linked.packages.items are_linked.tables.packages
        there.part (at_contains linked.packages.items named.0 there.part there.stands) id there.called

    pub package_identifiers : (id : List ℕ) → IsOfClass schema id ⊎ IsChosen schema id → IsIdentifier id
    package_identifiers id (inl of_class) = class_package id of_class
    package_identifiers id (inr chosen) = chosen_package id chosen
