-- HavingLaws: what a mandatory package of a class of the documents has, it has in the schema of these (X.722, sections
-- 8.3 and 8.4).
use Rattle.std.specs.Prelude.{◌≡◌, [], ℕ, List, Some, Contains, refl}
use Rattle.std.proofs.Common.{◌∙◌, ap, inl, inr, sym}
use Rattle.std.proofs.Math.Path.{subst}
use Rattle.std.proofs.lemmas.Option.{same_Some}
use Rattle.term_model.specs.Inheritance.{HasAttribute, IsAbove}
use Rattle.term_model.specs.Inheritance.IsAbove.{Further, Itself}
use Rattle.term_model.specs.declared.packages.PackageRec.{PackageRec}
use Rattle.term_model.specs.declared.packages.Property.{Property}
use Rattle.term_model.specs.declared.schema.ClassRec.{ClassRec}
use Rattle.gdmo_names.specs.ClassMembers.{Derives as DerivesTerm, HasAttribute as HasAttributeTerm, IsOrDerives}
use Rattle.gdmo_names.specs.ClassMembers.Derives.{directly, through}
use Rattle.gdmo_names.specs.LabelMeaning.{Leads}
use Rattle.gdmo_names.specs.Mentions.{mention}
use Rattle.gdmo_names.specs.Mentions.Role.{MandatoryPackage, PackageAttribute, Superclass}
use Rattle.gdmo_names.specs.PartTerms.{Placed, body_of}
use Rattle.gdmo_names.specs.TemplateTerms.TemplateKind.{AttributeKind, PackageKind}
use Rattle.gdmo_linking.specs.LinkedTables.{table}
use Rattle.gdmo_linking.proofs.StepLaws.{each_at as term_at}
use Rattle.linked_parts.specs.declared.linked.LinkedAttribute.{LinkedAttribute}
use Rattle.linked_parts.specs.declared.linked.LinkedPackage.{LinkedPackage}
use Rattle.linked_packages.specs.LinkedPackages.{IsPackageOf}
use Rattle.linked_templates.specs.TemplateTables.{IsTemplate}
use Rattle.linked_types.specs.PartIdentifiers.{IsClassId}
use Rattle.schema_records.specs.ClassRecords.{IsPackage, IsPackageAt, IsProperty}
use Rattle.schema_records.proofs.ClassLaws.{at_contains, contains_at, each_at}
use Rattle.ruled_attributes.proofs.ClassLaws.{AreCompiled, IsAttributeUnder, IsMade, class_id, has_record, is_meant}
use Rattle.ruled_attributes.proofs.ClassLaws.{made_at}
use Rattle.ruled_attributes.proofs.ListedLaws.{AreAllSo, class_listed, package_listed}
use Rattle.ruled_attributes.proofs.PlaceLaws.{one_identifier}

module _ (m : AreCompiled) where
  -- ---- classes

  -- the record of a class that is above another one
  record IsAboveRecord (x : Placed) (class : List ℕ) : Type 0 where
    place : ℕ
    of_class : ClassRec
    made : IsMade m place x of_class
    above : IsAbove m.schema class of_class.id

  -- a superclass of the template is one of the record
  derives_made : {k : ℕ} {x : Placed} {of_class : ClassRec} → IsMade m k x of_class → (y : Placed) →
      Leads m.parts x Superclass y → (class : List ℕ) → IsAbove m.schema class of_class.id → IsAboveRecord y class
  unfolding AreAllSo
  derives_made {k} {x} {of_class} made y leads class above =
      let found = (class_listed m.parts x.document (body_of x.template) made.part made.told.1).superclasses
      (mention Superclass leads.reference) leads.names refl in
      let next = made_at m found.k y (found.links.at ∙ ap Some (is_meant m.parts Superclass x y leads found.links)) in
      let at = contains_at made.part.superclasses.items found.k found.listed in
      let named = each_at (IsClassId m.linked) made.part.superclasses.items of_class.superclasses at.0 found.k
      made.is.superclasses_are at.1 in
      let same = same_Some named.0 next.0.id (sym named.2 ∙ class_id m next.1) in
      record {
        place = found.k;
        of_class = next.0;
        made = next.1;
        above = Further above (record {
          of_class = of_class;
          has = has_record m made;
          from = subst (Contains of_class.superclasses) same
              (at_contains of_class.superclasses at.0 named.0 named.1);
        });
      }

  module _ {k : ℕ} {x : Placed} {of_class : ClassRec} (made : IsMade m k x of_class) where
    itself : IsAboveRecord x of_class.id
    itself = record { place = k; of_class = of_class; made = made; above = Itself }

    derived_above : (y : Placed) → DerivesTerm m.parts x y → IsAboveRecord y of_class.id
    derived_above y (directly leads) = derives_made made y leads of_class.id Itself
    derived_above y (through {middle = middle} derives leads) =
        let so_far = derived_above middle derives in derives_made so_far.made y leads of_class.id so_far.above

    record_above : (y : Placed) → IsOrDerives m.parts x y → IsAboveRecord y of_class.id
    record_above y (inl same) = subst (λ z. IsAboveRecord z of_class.id) same itself
    record_above y (inr derives) = derived_above y derives

  -- ---- packages

  -- the record of a mandatory package, and what is linked of its template
  record IsMandatory (of_class : ClassRec) (p : Placed) : Type 0 where
    part : LinkedPackage
    told : IsPackageOf m.parts p.document (body_of p.template) part
    of_package : PackageRec
    is : IsPackage m.ms m.linked part of_package
    there : Contains of_class.mandatory of_package

  mandatory_made : {k : ℕ} {x : Placed} {of_class : ClassRec} → IsMade m k x of_class → (p : Placed) →
      Leads m.parts x MandatoryPackage p → IsMandatory of_class p
  unfolding AreAllSo
  mandatory_made {k} {x} {of_class} made p leads =
      let found = (class_listed m.parts x.document (body_of x.template) made.part made.told.1).mandatory
      (mention MandatoryPackage leads.reference) leads.names refl in
      let linked = term_at (IsTemplate m.parts (λ y. y.head) (IsPackageOf m.parts)) (table m.parts PackageKind)
      m.linked.packages.items found.k p m.are.tables.packages
      (found.links.at ∙ ap Some (is_meant m.parts MandatoryPackage x p leads found.links)) in
      let at = contains_at made.part.mandatory.items found.k found.listed in
      let named = each_at (IsPackageAt m.ms m.linked) made.part.mandatory.items of_class.mandatory at.0 found.k
      made.is.mandatory_are at.1 in
      record {
        part = linked.0;
        told = linked.2.1;
        of_package = named.0;
        is = subst (λ (part : LinkedPackage). IsPackage m.ms m.linked part named.0)
            (same_Some named.2.0 linked.0 (sym named.2.1 ∙ linked.1)) named.2.2;
        there = at_contains of_class.mandatory at.0 named.0 named.1;
      }

  -- ---- attributes

  record IsStated (of_package : PackageRec) (attribute : List ℕ) : Type 0 where
    property : Property
    stated : Contains of_package.attributes property
    is : property.attribute ≡ attribute

  stated_made : {of_class : ClassRec} {p : Placed} (its : IsMandatory of_class p) (a : Placed) (attribute : List ℕ) →
      Leads m.parts p PackageAttribute a → IsAttributeUnder m a attribute → IsStated its.of_package attribute
  unfolding AreAllSo
  stated_made {of_class} {p} its a attribute leads under =
      let found = package_listed m.parts p.document (body_of p.template) its.part its.told
      (mention PackageAttribute leads.reference) leads.names refl in
      let at = contains_at its.part.attributes.items found.stated found.listed in
      let property = each_at (IsProperty m.ms m.linked) its.part.attributes.items its.of_package.attributes at.0
      found.stated its.is.attributes_are at.1 in
      record {
        property = property.0;
        stated = at_contains its.of_package.attributes at.0 property.0 property.1;
        is = one_identifier m.parts AttributeKind (λ (y : LinkedAttribute). y.head) m.linked.attributes.items m.placed a
            property.0.attribute attribute (record {
              place = found.stated.attribute;
              at = found.links.at ∙ ap Some (is_meant m.parts PackageAttribute p a leads found.links);
              is = property.2.is_attribute;
            }) under;
      }

  pub has_attribute : {k : ℕ} {x : Placed} {of_class : ClassRec} → IsMade m k x of_class → (a : Placed)
      (attribute : List ℕ) → IsAttributeUnder m a attribute → HasAttributeTerm m.parts x a →
      HasAttribute m.schema of_class.id [] attribute
  has_attribute {of_class = of_class} made a attribute under has =
      let above = record_above made has.base has.above in
      let package_made = mandatory_made above.made has.package_of has.mandatory in
      let property = stated_made package_made a attribute has.has under in
      record {
        of_package = package_made.of_package;
        has = record {
          above = above.of_class.id;
          is_above = above.above;
          of_class = above.of_class;
          record_of = has_record m above.made;
          there = inl package_made.there;
        };
        property = property.property;
        stated = property.stated;
        is = property.is;
      }
