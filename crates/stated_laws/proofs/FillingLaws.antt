-- FillingLaws: of each attribute of a class some value is permitted where nothing is wrong with the classes (X.722,
-- section 8.4; docs/PROFILE.md, section 18).
use Rattle.std.specs.Prelude.{◌≡◌, ◌∷◌, [], ℕ, zero, suc, List, Option, None, Some, Contains, refl}
use Rattle.std.proofs.Common.{◌∙◌, arith, sym}
use Rattle.std.proofs.Math.Path.{subst}
use Rattle.std.proofs.lemmas.Option.{same_Some}
use Rattle.term_values.specs.Syntaxes.{TypeSyntax}
use Rattle.term_model.specs.JoinedProperties.{IsJoined}
use Rattle.term_model.specs.WholeRecords.{IsFillable}
use Rattle.term_model.specs.declared.packages.Property.{Property}
use Rattle.term_model.specs.declared.schema.ClassRec.{ClassRec}
use Rattle.asn1_names.specs.ModuleTerms.{ModuleTerm}
use Rattle.linked_parts.specs.declared.linked.Linked.{Linked}
use Rattle.linked_parts.specs.declared.linked.LinkedName.{LinkedName}
use Rattle.filled_syntaxes.specs.LinkedMeanings.{linked_arcs, linked_meaning}
use Rattle.filled_syntaxes.proofs.FilledLaws.{has_once}
use Rattle.class_faults.specs.FirstClassFault.{AreFaultless}
use Rattle.class_faults.specs.FirstClassFault.ClassFault.{PermittedEmpty}
use Rattle.class_faults.specs.PackageFaults.{ArePermitted}
use Rattle.class_faults.specs.StatedProperties.{TypeHas}
use Rattle.linked_types.specs.PartIdentifiers.{IsAttributeId}
use Rattle.schema_records.specs.ApartParts.{HaveOwnIdentifiers}
use Rattle.schema_records.specs.ClassRecords.{ArePermittedTypes}
use Rattle.stated_laws.proofs.AboveLaws.{property_of}
use Rattle.stated_laws.proofs.ReachedLaws.{stated_of}
use Rattle.stated_laws.proofs.BoundLaws.{not_empty_unless}
use Rattle.stated_laws.proofs.ListLaws.{first_of}
use Rattle.stated_laws.proofs.TemplateLaws.{AreRecorded, template_has}
use Rattle.stated_laws.proofs.RecordLaws.{IsRecordAt}

-- ---- the types of a property

type_told : (ms : List ModuleTerm) (linked : Linked) (name : Option LinkedName) (types : List TypeSyntax)
    (type : TypeSyntax) → ArePermittedTypes ms linked name types → Contains types type →
    (own : LinkedName) × (name ≡ Some own) × TypeHas ms linked own type
type_told ms linked None [] type are (k, within, same) = absurd (omega (arith, within))
type_told ms linked None (first ∷ types) type are there = absurd are
type_told ms linked (Some own) [] type are there = absurd are
type_told ms linked (Some own) (first ∷ []) type are (zero, within, same) =
    (own, refl, subst (TypeHas ms linked own) same are)
type_told ms linked (Some own) (first ∷ []) type are (suc k, within, same) = absurd (omega (arith, within))
type_told ms linked (Some own) (first ∷ second ∷ types) type are there = absurd are

type_there : (ms : List ModuleTerm) (linked : Linked) (name : Option LinkedName) (types : List TypeSyntax)
    (own : LinkedName) (type : TypeSyntax) → ArePermittedTypes ms linked name types → name ≡ Some own →
    TypeHas ms linked own type → Contains types type
type_there ms linked None types own type are same has = absurd (cc)
type_there ms linked (Some other) [] own type are same has = absurd are
type_there ms linked (Some other) (first ∷ []) own type are same has =
    let also = subst (λ n. TypeHas ms linked n first) (same_Some other own same) are in
    subst (Contains (first ∷ [])) (has_once ms (linked_arcs linked) (linked_meaning ms own.meaning) also has)
    (first_of first [])
type_there ms linked (Some other) (first ∷ second ∷ types) own type are same has = absurd are

module _ (m : AreRecorded) (apart : HaveOwnIdentifiers m.linked) where
  -- what is joined of the types that are permitted are those that packages state
  permitted_are : {k : ℕ} {of_class : ClassRec} → IsRecordAt m k of_class → (x : Property) →
      IsJoined m.schema of_class.id x → (attribute : ℕ) → IsAttributeId m.linked attribute x.attribute →
      ArePermitted m.ms m.linked k attribute x.permitted
  permitted_are here x joined attribute is = record {
    each = λ type. (
      λ there.
          let some = (joined.permitted type).0 there in
          let found = stated_of m apart here some.0 some.1 in
          let told = type_told m.ms m.linked found.stated.permitted some.0.permitted type found.is.permits some.3 in
          let same = apart.attributes found.stated.attribute attribute x.attribute
          (subst (IsAttributeId m.linked found.stated.attribute) some.2 found.is.is_attribute) is in
          (found.stated, (told.0, found.states, same, told.1, told.2)),
      λ (stated, (name, states, same, permits, has)).
          let found = property_of m here stated states in
          let named = same_Some found.x.attribute x.attribute
          (sym (subst (λ n. IsAttributeId m.linked n found.x.attribute) same found.is.is_attribute) ∙ is) in
          (joined.permitted type).1 (
            found.x,
            found.states,
            named,
            type_there m.ms m.linked stated.permitted found.x.permitted name type found.is.permits permits has,
          ),
    );
  }

  pub is_fillable : AreFaultless m.ms m.linked → {k : ℕ} {of_class : ClassRec} → IsRecordAt m k of_class →
      (x : Property) → IsJoined m.schema of_class.id x → IsFillable m.schema x
  is_fillable faultless {k} {of_class} here x joined template known named =
      let found = stated_of m apart here joined.stated.0 joined.stated.1 in
      let attribute = found.stated.attribute in
      let is = subst (IsAttributeId m.linked attribute) joined.stated.2 found.is.is_attribute in
      not_empty_unless template.syntax x.permitted (λ empty.
      faultless PermittedEmpty here.part.head.document here.part.head.label.at (record {
        k = k;
        is_class = record {
          of_class = here.part;
          stands = here.class_at;
          label = record { in_document = refl; at_token = refl };
        };
        attribute = attribute;
        stated = found.stated;
        states = found.states;
        of_attribute = refl;
        syntax = template.syntax;
        has = template_has m apart attribute template known
            (subst (IsAttributeId m.linked attribute) (sym named) is);
        types = x.permitted;
        permit = permitted_are here x joined attribute is;
        empty = empty;
      }))
