-- ValueLaws: each value that a class states, its own or inherited, is short in the syntax of its attribute, where those
-- that packages state are (X.722, section 8.4; X.690, section 8.1.3).
use Rattle.std.specs.Prelude.{◌≡◌, ℕ, List, Option, None, Some, All, Contains, refl}
use Rattle.std.proofs.Common.{◌⊎◌, ◌∙◌, inl, inr, sym}
use Rattle.std.proofs.Math.Path.{subst}
use Rattle.std.proofs.lemmas.List.Elements.{All-contains}
use Rattle.std.proofs.lemmas.Option.{same_Some}
use Rattle.term_values.specs.Typed.{TypedValue}
use Rattle.term_model.specs.JoinedProperties.{HasJoined, Holds, IsJoined, OwnStates}
use Rattle.term_model.specs.JoinedProperties.Holds.{Inherited, Own}
use Rattle.term_model.specs.declared.packages.PackageRec.{PackageRec}
use Rattle.term_model.specs.declared.packages.Property.{Property}
use Rattle.term_model.specs.declared.schema.AttrRec.{AttrRec}
use Rattle.term_model.specs.declared.schema.ClassRec.{ClassRec}
use Rattle.term_model.specs.declared.schema.Set.{Set}
use Rattle.asn1_names.specs.ModuleTerms.{ModuleTerm}
use Rattle.linked_parts.specs.declared.linked.Linked.{Linked}
use Rattle.linked_parts.specs.declared.linked.LinkedName.{LinkedName}
use Rattle.linked_parts.specs.declared.linked.LinkedPackage.{LinkedPackage}
use Rattle.linked_parts.specs.declared.linked.LinkedUse.{LinkedUse}
use Rattle.class_faults.specs.AttributeSyntaxes.{AttributeHas}
use Rattle.class_faults.specs.StatedProperties.{HasValue}
use Rattle.linked_types.specs.PartIdentifiers.{AreEach, IsAttributeId}
use Rattle.schema_records.specs.ApartParts.{HaveOwnIdentifiers}
use Rattle.schema_records.specs.ClassRecords.{IsClass, IsOptionalValue, IsPackageAt, IsProperty}
use Rattle.schema_records.specs.MemberRecords.{AreRecords}
use Rattle.schema_records.proofs.ClassLaws.{at_contains, contains_at, each_from}
use Rattle.sound_laws.specs.ShortDefaults.{IsShort}
use Rattle.stated_laws.proofs.ListLaws.{all_of_each}
use Rattle.stated_laws.proofs.TemplateLaws.{AreRecorded, template_has}
use Rattle.opening_laws.specs.Encodable.{HasShortValues}
use Rattle.accepted_schemas.specs.ShortStated.{AreShortStated, IsShortNamed, IsShortUse}

module _ (ms : List ModuleTerm) (linked : Linked) (schema : Set) (are : AreRecords ms linked schema)
    (apart : HaveOwnIdentifiers linked) (short : AreShortStated ms linked) where
  abbrev recorded : AreRecorded
  recorded = record { ms = ms; linked = linked; schema = schema; are = are }

  -- ---- what a class itself states

  record IsUse (x : Property) : Type 0 where
    stated : LinkedUse
    few : IsShortUse ms linked stated
    is : IsProperty ms linked stated x

  use_in : (places : List ℕ) (packages : List PackageRec) (of_package : PackageRec) (x : Property) →
      AreEach (IsPackageAt ms linked) places packages → Contains packages of_package →
      Contains of_package.attributes x → IsUse x
  use_in places packages of_package x each own says =
      let at = contains_at packages of_package own in
      let found = each_from (IsPackageAt ms linked) places packages at.0 of_package each at.1 in
      let part = found.2.0 in
      let there = contains_at of_package.attributes x says in
      let use_ = each_from (IsProperty ms linked) part.attributes.items of_package.attributes there.0 x
      found.2.2.attributes_are there.1 in
      let all = All-contains (λ (y : LinkedPackage). All (IsShortUse ms linked) y.attributes.items)
      linked.packages.items part short (at_contains linked.packages.items found.0 part found.2.1) in
      record {
        stated = use_.0;
        few = All-contains (IsShortUse ms linked) part.attributes.items use_.0 all
            (at_contains part.attributes.items there.0 use_.0 use_.1);
        is = use_.2;
      }

  own_use : (of_class : ClassRec) → Contains schema.classes of_class → (x : Property) → OwnStates of_class x → IsUse x
  own_use of_class known x own =
      let at = contains_at schema.classes of_class known in
      let found = each_from (IsClass ms linked) linked.classes.items schema.classes at.0 of_class are.classes_are
      at.1 in
      by found.0.mandatory.items found.0.conditional.items found.2.mandatory_are found.2.conditional_are own.own
    where
      by : (mandatory conditional : List ℕ) → AreEach (IsPackageAt ms linked) mandatory of_class.mandatory →
          AreEach (IsPackageAt ms linked) conditional of_class.conditional →
          Contains of_class.mandatory own.of_package ⊎ Contains of_class.conditional own.of_package → IsUse x
      by mandatory conditional one other (inl there) =
          use_in mandatory of_class.mandatory own.of_package x one there own.says
      by mandatory conditional one other (inr there) =
          use_in conditional of_class.conditional own.of_package x other there own.says

  -- ---- values

  named_short : (attribute : ℕ) (template : AttrRec) (named : Option LinkedName) (o : Option TypedValue)
      (value : TypedValue) → AttributeHas ms linked attribute template.syntax →
      IsShortNamed ms linked attribute named → IsOptionalValue ms linked named o → o ≡ Some value →
      IsShort template.syntax value
  named_short attribute template None None value has few is e = absurd (cc)
  named_short attribute template None (Some own) value has few is e = absurd is
  named_short attribute template (Some name) None value has few is e = absurd (cc)
  named_short attribute template (Some name) (Some own) value has few is e =
      few name refl template.syntax has value (subst (HasValue ms linked name) (same_Some own value e) is)

  -- a value that a class states, or one from which it derives
  held_short : (which : Property → Option TypedValue) (attribute : List ℕ) (template : AttrRec) →
      Contains schema.attributes template → template.id ≡ attribute →
      ((stated : LinkedUse) (x : Property) (value : TypedValue) → IsShortUse ms linked stated →
      IsProperty ms linked stated x → AttributeHas ms linked stated.attribute template.syntax →
      which x ≡ Some value → IsShort template.syntax value) →
      {class : List ℕ} {value : TypedValue} → Holds schema which attribute class value →
      IsShort template.syntax value
  held_short which attribute template known named each {value = value} (Own of_class stated has own same there) =
      let use_ = own_use of_class has.known stated own in
      each use_.stated stated value use_.few use_.is
      (template_has recorded apart use_.stated.attribute template known
      (subst (IsAttributeId linked use_.stated.attribute) (same ∙ sym named) use_.is.is_attribute)) there
  held_short which attribute template known named each (Inherited of_class has none_states derives further) =
      held_short which attribute template known named each further

  property_short : (class : List ℕ) (property : Property) → IsJoined schema class property →
      HasShortValues schema property
  property_short class property joined template value known named (inl initial) =
      held_short (λ x. x.initial) property.attribute template known named
      (λ stated x own few is has e. named_short stated.attribute template stated.initial_value x.initial own has
      few.initial is.is_initial e) ((joined.initial value).0 initial)
  property_short class property joined template value known named (inr default) =
      held_short (λ x. x.default) property.attribute template known named
      (λ stated x own few is has e. named_short stated.attribute template stated.default_value x.default own has
      few.default is.is_default e) ((joined.default value).0 default)

  pub values_short : All (λ (of_class : ClassRec). All (HasShortValues schema) of_class.properties) schema.classes
  values_short = all_of_each (λ (of_class : ClassRec). All (HasShortValues schema) of_class.properties) schema.classes
      (λ of_class known. all_of_each (HasShortValues schema) of_class.properties (λ property has.
      property_short of_class.id property
      (All-contains (IsJoined schema of_class.id) of_class.properties property
      (All-contains (HasJoined schema) schema.classes of_class are.joined known).joined has)))
