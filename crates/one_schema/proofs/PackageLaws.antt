-- PackageLaws: a linked package has one record, and so has the template of a class, with its packages (X.722, sections
-- 8.3 and 8.4).
use Rattle.std.specs.Prelude.{◌∷◌, [], List, None, Some, refl}
use Rattle.std.proofs.Common.{◌∙◌, ap, sym}
use Rattle.std.proofs.Math.Path.{subst}
use Rattle.std.proofs.lemmas.Option.{same_Some}
use Rattle.term_model.specs.declared.schema.ClassRec.{ClassRec}
use Rattle.asn1_names.specs.ModuleTerms.{ModuleTerm}
use Rattle.linked_parts.specs.declared.linked.Linked.{Linked}
use Rattle.linked_parts.specs.declared.linked.LinkedClass.{LinkedClass}
use Rattle.linked_types.specs.PartIdentifiers.{IsAttributeId, IsClassId}
use Rattle.schema_records.specs.ClassRecords.{ArePermittedTypes, AreRequiredTypes, IsClass, IsGroupUse, IsPackage}
use Rattle.schema_records.specs.ClassRecords.{IsPackageAt, IsProperty}
use Rattle.one_schema.specs.SameSchemas.{HaveSameTemplate}
use Rattle.one_schema.proofs.OnceLaws.{HasOne, one_each}
use Rattle.one_schema.proofs.MeaningLaws.{one_attribute, one_class, one_identifier, one_identifiers, one_optional_value}
use Rattle.one_schema.proofs.MeaningLaws.{one_type, registered_id, registered_label}

module _ (ms : List ModuleTerm) (linked : Linked) where
  one_permitted : HasOne (ArePermittedTypes ms linked)
  one_permitted None [] [] is also = refl
  one_permitted None [] (y ∷ ys) is also = absurd also
  one_permitted None (x ∷ xs) ys is also = absurd is
  one_permitted (Some name) [] ys is also = absurd is
  one_permitted (Some name) (x ∷ w ∷ xs) ys is also = absurd is
  one_permitted (Some name) (x ∷ []) [] is also = absurd also
  one_permitted (Some name) (x ∷ []) (y ∷ z ∷ ys) is also = absurd also
  one_permitted (Some name) (x ∷ []) (y ∷ []) is also = ap (λ s. s ∷ []) (one_type ms linked name x y is also)

  one_required : HasOne (AreRequiredTypes ms)
  one_required None [] [] is also = refl
  one_required None [] (y ∷ ys) is also = absurd also
  one_required None (x ∷ xs) ys is also = absurd is
  one_required (Some name) [] ys is also = absurd is
  one_required (Some name) (x ∷ w ∷ xs) ys is also = absurd is
  one_required (Some name) (x ∷ []) [] is also = absurd also
  one_required (Some name) (x ∷ []) (y ∷ z ∷ ys) is also = absurd also
  one_required (Some name) (x ∷ []) (y ∷ []) is also = ap (λ s. s ∷ []) (sym is ∙ also)

  one_property : HasOne (IsProperty ms linked)
  one_property stated one other is also =
      let attribute = one_attribute linked stated.attribute one.attribute other.attribute is.is_attribute
      also.is_attribute in
      let default_value = one_optional_value ms linked stated.default_value one.default other.default is.is_default
      also.is_default in
      let initial_value = one_optional_value ms linked stated.initial_value one.initial other.initial is.is_initial
      also.is_initial in
      let permitted = one_permitted stated.permitted one.permitted other.permitted is.permits also.permits in
      let required = one_required stated.required one.required other.required is.requires_types also.requires_types in
      λ i. record {
        attribute = attribute i;
        get = (sym is.gets ∙ also.gets) i;
        replace = (sym is.replaces ∙ also.replaces) i;
        add = (sym is.adds ∙ also.adds) i;
        remove = (sym is.removes ∙ also.removes) i;
        set_to_default = (sym is.sets_default ∙ also.sets_default) i;
        default = default_value i;
        initial = initial_value i;
        permitted = permitted i;
        required = required i;
      }

  one_group_use : HasOne (IsGroupUse linked)
  one_group_use stated one other is also =
      let group = one_identifier (λ x. x.head) linked.groups.items stated.group one.group other.group is.is_group
      also.is_group in
      let added = one_each (IsAttributeId linked) (one_attribute linked) stated.added.items one.added other.added
      is.are_added also.are_added in
      λ i. record { group = group i; added = added i }

  one_package : HasOne (IsPackage ms linked)
  one_package part one other is also =
      let attributes = one_each (IsProperty ms linked) one_property part.attributes.items one.attributes
      other.attributes is.attributes_are also.attributes_are in
      let groups = one_each (IsGroupUse linked) one_group_use part.groups.items one.groups other.groups is.groups_are
      also.groups_are in
      let actions = one_identifiers (λ x. x.head) linked.actions.items part.actions.items one.actions other.actions
      is.actions_are also.actions_are in
      let notifications = one_identifiers (λ x. x.head) linked.notifications.items part.notifications.items
      one.notifications other.notifications is.notifications_are also.notifications_are in
      λ i. record {
        id = (sym is.is_id ∙ also.is_id) i;
        label = (sym is.is_label ∙ also.is_label) i;
        attributes = attributes i;
        groups = groups i;
        actions = actions i;
        notifications = notifications i;
      }

  one_package_at : HasOne (IsPackageAt ms linked)
  one_package_at k one other is also =
      one_package also.0 one other
      (subst (λ part. IsPackage ms linked part one) (same_Some is.0 also.0 (sym is.1 ∙ also.1)) is.2) also.2

  -- two records of a class
  pub one_template : (part : LinkedClass) (one other : ClassRec) → IsClass ms linked part one →
      IsClass ms linked part other → HaveSameTemplate one other
  one_template part one other is also = record {
    id = registered_id is.registered also.registered;
    label = registered_label is.registered also.registered;
    superclasses = one_each (IsClassId linked) (one_class linked) part.superclasses.items one.superclasses
        other.superclasses is.superclasses_are also.superclasses_are;
    mandatory = one_each (IsPackageAt ms linked) one_package_at part.mandatory.items one.mandatory other.mandatory
        is.mandatory_are also.mandatory_are;
    conditional = one_each (IsPackageAt ms linked) one_package_at part.conditional.items one.conditional
        other.conditional is.conditional_are also.conditional_are;
  }
