-- ClassLaws: the records of classes and the templates of which they are made: a class derives by its record from those
-- from which its template derives, and from no others (X.722, section 8.3).
use Rattle.std.specs.Prelude.{◌≡◌, ℕ, List, Some, Contains, option_and_then, refl, slice_get}
use Rattle.std.proofs.Common.{◌∙◌, ap, inl, inr, sym}
use Rattle.std.proofs.Math.Path.{subst}
use Rattle.std.proofs.lemmas.Option.{same_Some}
use Rattle.term_model.specs.Inheritance.{Derives, HasRecord, IsAbove}
use Rattle.term_model.specs.Inheritance.IsAbove.{Further, Itself}
use Rattle.term_model.specs.declared.schema.ClassRec.{ClassRec}
use Rattle.term_model.specs.declared.schema.Set.{Set}
use Rattle.asn1_names.specs.ModuleTerms.{ModuleTerm}
use Rattle.gdmo_names.specs.ClassMembers.{Derives as DerivesTerm, IsOrDerives}
use Rattle.gdmo_names.specs.ClassMembers.Derives.{directly, through}
use Rattle.gdmo_names.specs.LabelMeaning.{Leads}
use Rattle.gdmo_names.specs.Mentions.{Role, template_mentions}
use Rattle.gdmo_names.specs.Mentions.Role.{Superclass}
use Rattle.gdmo_names.specs.PartTerms.{Placed, PartTerms, body_of}
use Rattle.gdmo_names.specs.TargetTables.{ArePlacedApart}
use Rattle.gdmo_names.specs.TemplateTerms.TemplateKind.{AttributeKind, ClassKind}
use Rattle.gdmo_linking.specs.LinkedTables.{Links, table}
use Rattle.gdmo_linking.proofs.StepLaws.{each_at as term_at, each_from as term_from}
use Rattle.linked_parts.specs.declared.linked.Linked.{Linked}
use Rattle.linked_parts.specs.declared.linked.LinkedAttribute.{LinkedAttribute}
use Rattle.linked_parts.specs.declared.linked.LinkedClass.{LinkedClass}
use Rattle.linked_templates.specs.LinkedTemplates.{IsClassOf}
use Rattle.linked_templates.specs.TemplateTables.{IsTemplate}
use Rattle.linked_documents.specs.LinkedParts.{AreLinkedParts}
use Rattle.linked_types.specs.PartIdentifiers.{IsClassId}
use Rattle.schema_records.specs.ApartParts.{HaveOwnIdentifiers}
use Rattle.schema_records.specs.ClassRecords.{IsClass}
use Rattle.schema_records.specs.MemberRecords.{AreRecords}
use Rattle.schema_records.proofs.ClassLaws.{at_contains, contains_at, each_at, each_from}
use Rattle.ruled_attributes.proofs.NamedLaws.{IsNamed, superclass_named}
use Rattle.ruled_attributes.proofs.PlaceLaws.{IsUnder, one_template}

-- the linked parts of documents and the schema of these, where identifiers and labels are each that of one template
pub record AreCompiled : Type 0 where
  pub parts : PartTerms
  pub linked : Linked
  pub ms : List ModuleTerm
  pub schema : Set
  pub are : AreLinkedParts parts linked
  pub records : AreRecords ms linked schema
  pub own : HaveOwnIdentifiers linked
  pub placed : ArePlacedApart parts

-- what is linked by a number leads to the template of that number
pub leads_by : (parts : PartTerms) (role : Role) (x : Placed) (k : ℕ) →
    (named : IsNamed parts x.document role (template_mentions x.template) k) → Leads parts x role named.links.to
leads_by parts role x k named =
    record { reference = named.reference; names = named.names; means = named.links.means }

-- a template is the one that is meant
pub is_meant : (parts : PartTerms) (role : Role) (x y : Placed) (leads : Leads parts x role y) {k : ℕ}
    (links : Links parts x.document role leads.reference k) → links.to ≡ y
is_meant parts role x y leads links = same_Some links.to y (sym links.means.is_target ∙ leads.means.is_target)

module _ (m : AreCompiled) where
  abbrev pub IsClassUnder : Placed → List ℕ → Type 0
  IsClassUnder = IsUnder m.parts ClassKind (λ (y : LinkedClass). y.head) m.linked.classes.items

  abbrev pub IsAttributeUnder : Placed → List ℕ → Type 0
  IsAttributeUnder = IsUnder m.parts AttributeKind (λ (y : LinkedAttribute). y.head) m.linked.attributes.items

  pub one_class : (x y : Placed) (id : List ℕ) → IsClassUnder x id → IsClassUnder y id → x ≡ y
  one_class = one_template m.parts ClassKind (λ (y : LinkedClass). y.head) m.linked.classes.items m.own.classes

  pub one_attribute : (x y : Placed) (id : List ℕ) → IsAttributeUnder x id → IsAttributeUnder y id → x ≡ y
  one_attribute =
      one_template m.parts AttributeKind (λ (y : LinkedAttribute). y.head) m.linked.attributes.items m.own.attributes

  -- ---- records and their templates

  -- the record of a class, what is linked of it, and its template, all at one place
  pub record IsMade (k : ℕ) (x : Placed) (of_class : ClassRec) : Type 0 where
    pub at : slice_get (table m.parts ClassKind) k ≡ Some x
    pub part : LinkedClass
    pub part_at : slice_get m.linked.classes.items k ≡ Some part
    pub told : IsTemplate m.parts (λ y. y.head) (IsClassOf m.parts) x part
    pub record_at : slice_get m.schema.classes k ≡ Some of_class
    pub is : IsClass m.ms m.linked part of_class

  pub made_at : (k : ℕ) (x : Placed) → slice_get (table m.parts ClassKind) k ≡ Some x →
      (of_class : ClassRec) × IsMade k x of_class
  made_at k x at =
      let linked = term_at (IsTemplate m.parts (λ y. y.head) (IsClassOf m.parts)) (table m.parts ClassKind)
      m.linked.classes.items k x m.are.tables.classes at in
      let found = each_at (IsClass m.ms m.linked) m.linked.classes.items m.schema.classes k linked.0
      m.records.classes_are linked.1 in (
        found.0,
        record {
          at = at;
          part = linked.0;
          part_at = linked.1;
          told = linked.2;
          record_at = found.1;
          is = found.2;
        },
      )

  made_from : (of_class : ClassRec) → Contains m.schema.classes of_class →
      (k : ℕ) × ((x : Placed) × IsMade k x of_class)
  made_from of_class known =
      let at = contains_at m.schema.classes of_class known in
      let linked = each_from (IsClass m.ms m.linked) m.linked.classes.items m.schema.classes at.0 of_class
      m.records.classes_are at.1 in
      let found = term_from (IsTemplate m.parts (λ y. y.head) (IsClassOf m.parts)) (table m.parts ClassKind)
      m.linked.classes.items at.0 linked.0 m.are.tables.classes linked.1 in (
        at.0,
        (
          found.0,
          record {
            at = found.1;
            part = linked.0;
            part_at = linked.1;
            told = found.2;
            record_at = at.1;
            is = linked.2;
          },
        ),
      )

  pub class_id : {k : ℕ} {x : Placed} {of_class : ClassRec} → IsMade k x of_class → IsClassId m.linked k of_class.id
  class_id made =
      ap (option_and_then (λ (y : LinkedClass). y.head.identifier)) made.part_at ∙ made.is.registered.is_id

  pub class_under : {k : ℕ} {x : Placed} {of_class : ClassRec} → IsMade k x of_class → IsClassUnder x of_class.id
  class_under {k} made = record { place = k; at = made.at; is = class_id made }

  pub has_record : {k : ℕ} {x : Placed} {of_class : ClassRec} → IsMade k x of_class →
      HasRecord m.schema of_class.id of_class
  has_record {k} {x} {of_class} made =
      record { known = at_contains m.schema.classes k of_class made.record_at; named = refl }

  -- ---- from records to templates

  -- a template of a class to which another one leads
  record LeadsUp (x : Placed) (above : List ℕ) : Type 0 where
    y : Placed
    under : IsClassUnder y above
    leads : Leads m.parts x Superclass y

  superclass_made : {k : ℕ} {x : Placed} {of_class : ClassRec} → IsMade k x of_class → (above : List ℕ) →
      Contains of_class.superclasses above → LeadsUp x above
  superclass_made {x = x} {of_class = of_class} made above from =
      let at = contains_at of_class.superclasses above from in
      let found = each_from (IsClassId m.linked) made.part.superclasses.items of_class.superclasses at.0 above
      made.is.superclasses_are at.1 in
      let named = superclass_named m.parts x.document (body_of x.template) made.part at.0 found.0 made.told.1 found.1 in
      record {
        y = named.links.to;
        under = record { place = found.0; at = named.links.at; is = found.2 };
        leads = leads_by m.parts Superclass x found.0 named;
      }

  superclass_from : (x : Placed) (id above : List ℕ) → IsClassUnder x id → Derives m.schema id above →
      LeadsUp x above
  superclass_from x id above under derives =
      let made = made_from derives.of_class derives.has.known in
      let same = one_class made.1.0 x id
      (subst (IsClassUnder made.1.0) derives.has.named (class_under made.1.1)) under in
      subst (λ y. LeadsUp y above) same (superclass_made made.1.1 above derives.from)

  -- a template from which another one derives, or which is it
  record IsTop (x : Placed) (above : List ℕ) : Type 0 where
    y : Placed
    under : IsClassUnder y above
    derives : IsOrDerives m.parts x y

  leads_on : (x y z : Placed) → IsOrDerives m.parts x y → Leads m.parts y Superclass z → DerivesTerm m.parts x z
  leads_on x y z (inl same) leads = directly (subst (λ w. Leads m.parts w Superclass z) (sym same) leads)
  leads_on x y z (inr derives) leads = through derives leads

  above_made : (x : Placed) (id above : List ℕ) → IsClassUnder x id → IsAbove m.schema id above → IsTop x above
  above_made x id above under Itself = record { y = x; under = under; derives = inl refl }
  above_made x id above under (Further {above = middle} is_above derives) =
      let so_far = above_made x id middle under is_above in
      let next = superclass_from so_far.y middle above so_far.under derives in
      record { y = next.y; under = next.under; derives = inr (leads_on x so_far.y next.y so_far.derives next.leads) }

  -- a class that is above another one by the records is the one from which it derives
  pub is_or_derives : (x top : Placed) (id above : List ℕ) → IsClassUnder x id → IsClassUnder top above →
      IsAbove m.schema id above → IsOrDerives m.parts x top
  is_or_derives x top id above under its is_above =
      let found = above_made x id above under is_above in
      subst (IsOrDerives m.parts x) (one_class found.y top above found.under its) found.derives

  -- what is below a class of the documents is one of them too
  pub has_template : (id above : List ℕ) → IsAbove m.schema id above → (top : Placed) → IsClassUnder top above →
      (x : Placed) × IsClassUnder x id
  has_template id above Itself top under = (top, under)
  has_template id above (Further {above = middle} is_above derives) top under =
      let made = made_from derives.of_class derives.has.known in
      has_template id middle is_above made.1.0
      (subst (IsClassUnder made.1.0) derives.has.named (class_under made.1.1))
