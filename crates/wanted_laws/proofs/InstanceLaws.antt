-- InstanceLaws: the class, the attributes and the packages that instances name are registered, in documents without a
-- fault of labels (docs/PROFILE.md, sections 9 and 12).
use Rattle.std.specs.Prelude.{◌≡◌, ℕ, List, true, Option, None, Some, All, Contains, option_and_then, refl, slice_get}
use Rattle.std.proofs.Common.{◌∙◌, ap}
use Rattle.std.proofs.Math.Path.{subst}
use Rattle.std.proofs.lemmas.Option.{get_or_from_slice_get, slice_get_within}
use Rattle.gdmo_names.specs.FirstLabelFault.{AreFaultless}
use Rattle.gdmo_names.specs.FirstLabelFault.LabelFault.{KindWrong}
use Rattle.gdmo_names.specs.InStep.{AreEach}
use Rattle.gdmo_names.specs.LabelMeaning.{reference_token}
use Rattle.gdmo_names.specs.Mentions.{Role, must_be_registered, wanted_kind}
use Rattle.gdmo_names.specs.Mentions.Role.{GivenAttribute, NameAttribute}
use Rattle.gdmo_names.specs.PartTerms.{InstanceTerm, PairTerm, PartTerms, identifier_of}
use Rattle.gdmo_names.specs.References.{Refers}
use Rattle.gdmo_names.specs.References.Refers.{chosen_package, given_attribute, name_attribute}
use Rattle.gdmo_names.specs.TemplateTerms.{BodyTerm, IdentifierTerm, ReferenceTerm, TemplateKind}
use Rattle.gdmo_names.specs.TemplateTerms.ReferenceTerm.{ByLabel}
use Rattle.gdmo_names.specs.TemplateTerms.TemplateKind.{AttributeKind, ClassKind, PackageKind}
use Rattle.gdmo_names.specs.WrongKinds.WrongKindAt.{unregistered}
use Rattle.gdmo_linking.specs.LinkedNames.{IsLinkedIdentifier}
use Rattle.gdmo_linking.specs.LinkedTables.{Links, table}
use Rattle.linked_parts.specs.declared.linked.Linked.{Linked}
use Rattle.linked_parts.specs.declared.linked.LinkedHead.{LinkedHead}
use Rattle.linked_parts.specs.declared.linked.LinkedInstance.{LinkedInstance}
use Rattle.linked_parts.specs.declared.linked.LinkedPair.{LinkedPair}
use Rattle.linked_packages.specs.LinkedPackages.{IsPackageOf}
use Rattle.linked_templates.specs.LinkedMembers.{IsAttributeOf}
use Rattle.linked_templates.specs.LinkedTemplates.{IsClassOf}
use Rattle.linked_templates.specs.TemplateTables.{IsTemplate}
use Rattle.linked_sections.specs.LinkedSections.{IsChosen, IsInstance, IsPair}
use Rattle.linked_documents.specs.LinkedParts.{AreLinkedParts}
use Rattle.schema_records.specs.RegisteredParts.{AreRegisteredParts, IsRegisteredClass}
use Rattle.section_values.specs.RegisteredSections.{HasIdentifier, IsRegisteredAttribute}
use Rattle.instance_records.specs.RegisteredInstances.{AreRegisteredInstances, IsRegisteredInstance}
use Rattle.wanted_laws.proofs.TableLaws.{all_told, linked_there}

-- ---- identifiers

-- a linked identifier is that of a template that is registered
identifier_told : (parts : PartTerms) (stated : Option IdentifierTerm) (own : Option (List ℕ)) →
    (stated ≡ None → ⊥) → IsLinkedIdentifier parts stated own → (id : List ℕ) × (own ≡ Some id)
identifier_told parts None own registered told = absurd (registered refl)
identifier_told parts (Some x) None registered told = absurd told
identifier_told parts (Some x) (Some id) registered told = (id, refl)

-- the identifier of what stands at a place
identifier_there : {L : Type 0} (head : L → LinkedHead) (ys : List L) (k : ℕ) (y : L) (id : List ℕ) →
    slice_get ys k ≡ Some y → (head y).identifier ≡ Some id → HasIdentifier head ys k
identifier_there head ys k y id at is = (id, ap (option_and_then (λ z. (head z).identifier)) at ∙ is)

module _ (parts : PartTerms) (faultless : AreFaultless parts) where
  -- the target of a reference is registered where it must be
  never_unregistered : (document : ℕ) (role : Role) (reference : ReferenceTerm) (k : ℕ) →
      must_be_registered role ≡ true → Refers parts document role reference →
      (links : Links parts document role reference k) → identifier_of links.to.template ≡ None → ⊥
  never_unregistered document role reference k must refers links is =
      faultless KindWrong document (reference_token reference).at (unregistered (record {
        role = role;
        must = must;
        refers = refers;
        to = links.to;
        means = links.means;
        unregistered = is;
      }) refl)

  registered_there : {L : Type 0} (head : L → LinkedHead) (is : ℕ → BodyTerm → L → Type 0) (kind : TemplateKind)
      (ys : List L) → AreEach (IsTemplate parts head is) (table parts kind) ys → {document : ℕ} {role : Role}
      {reference : ReferenceTerm} {k : ℕ} → wanted_kind role ≡ kind → must_be_registered role ≡ true →
      Refers parts document role reference → Links parts document role reference k → HasIdentifier head ys k
  registered_there head is kind ys each {document} {role} {reference} {k} wanted must refers links =
      let found = linked_there parts head is kind ys each wanted links in
      let own = identifier_told parts (identifier_of links.to.template) (head found.0).identifier
      (never_unregistered document role reference k must refers links) found.2.0.identifier in
      identifier_there head ys k found.0 own.0 found.1 own.1

  -- ---- instances

  module _ (linked : Linked) (are : AreLinkedParts parts linked) where
    pairs_registered : (document : ℕ) (role : Role) (pairs : List PairTerm) (xs : List LinkedPair) →
        wanted_kind role ≡ AttributeKind → must_be_registered role ≡ true →
        ((pair : PairTerm) → Contains pairs pair → Refers parts document role (ByLabel pair.attribute)) →
        AreEach (IsPair parts document role) pairs xs →
        All (λ (pair : LinkedPair). IsRegisteredAttribute linked pair.attribute) xs
    pairs_registered document role pairs xs wanted must refers each =
        all_told (λ (pair : LinkedPair). IsRegisteredAttribute linked pair.attribute) (IsPair parts document role)
        pairs xs (λ pair x has told. registered_there (λ z. z.head) (IsAttributeOf parts) AttributeKind
        linked.attributes.items are.tables.attributes wanted must (refers pair has) told.is_attribute) each

    -- what is linked of a class that stands at a place is registered
    class_registered : AreRegisteredParts linked → {document : ℕ} {role : Role} {reference : ReferenceTerm} {k : ℕ} →
        wanted_kind role ≡ ClassKind → Links parts document role reference k →
        HasIdentifier (λ z. z.head) linked.classes.items k
    class_registered registered {k = k} wanted links =
        let found = linked_there parts (λ z. z.head) (IsClassOf parts) ClassKind linked.classes.items
        are.tables.classes wanted links in
        let is = subst (IsRegisteredClass linked)
        (get_or_from_slice_get linked.classes.items k found.0 found.0 found.1)
        (registered.classes k found.0 (slice_get_within linked.classes.items k found.0 found.1)) in
        identifier_there (λ z. z.head) linked.classes.items k found.0 is.itself.0 found.1 is.itself.1

    instance_registered : AreRegisteredParts linked → (instance : InstanceTerm) (x : LinkedInstance) →
        Contains parts.instances instance → IsInstance parts instance x → IsRegisteredInstance linked x
    instance_registered registered instance x stands is = record {
      of_class = class_registered registered refl is.is_class;
      of_name = pairs_registered instance.document NameAttribute instance.name x.name.items refl refl
          (λ pair has. name_attribute stands has) is.name_is;
      of_given = pairs_registered instance.document GivenAttribute instance.given x.given.items refl refl
          (λ pair has. given_attribute stands has) is.given_are;
      of_packages = all_told (HasIdentifier (λ z. z.head) linked.packages.items)
          (IsChosen parts instance.document) instance.packages x.packages.items
          (λ label k has links. registered_there (λ z. z.head) (IsPackageOf parts) PackageKind linked.packages.items
          are.tables.packages refl refl (chosen_package stands has) links) is.packages_are;
    }

    pub instances_registered : AreRegisteredParts linked → AreRegisteredInstances linked
    instances_registered registered = all_told (IsRegisteredInstance linked) (IsInstance parts) parts.instances
        linked.instances.items (instance_registered registered) are.instances
