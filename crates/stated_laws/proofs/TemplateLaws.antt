-- TemplateLaws: the records of attributes, each with the linked attribute at its place (X.722, section 8.7).
use Rattle.std.specs.Prelude.{◌≡◌, ◌+◌, ℕ, zero, suc, List, None, Some, Contains, option_and_then}
use Rattle.std.specs.Prelude.{slice_get}
use Rattle.std.proofs.Common.{◌∙◌, ap, arith, sym}
use Rattle.std.proofs.Math.Path.{subst}
use Rattle.std.proofs.lemmas.Option.{same_Some}
use Rattle.term_model.specs.declared.schema.AttrRec.{AttrRec}
use Rattle.term_model.specs.declared.schema.Set.{Set}
use Rattle.asn1_names.specs.ModuleTerms.{ModuleTerm}
use Rattle.linked_parts.specs.declared.linked.Linked.{Linked}
use Rattle.linked_parts.specs.declared.linked.LinkedAttribute.{LinkedAttribute}
use Rattle.class_faults.specs.AttributeSyntaxes.{AttributeHas}
use Rattle.linked_types.specs.PartIdentifiers.{IsAttributeId}
use Rattle.schema_records.specs.ApartParts.{HaveOwnIdentifiers}
use Rattle.schema_records.specs.MemberRecords.{AreAttributes, AreRecords, IsAttribute}
use Rattle.schema_records.specs.MemberRecords.AreAttributes.{no_more, one, unregistered}
use Rattle.schema_records.proofs.ClassLaws.{named_part}
use Rattle.stated_laws.proofs.ListLaws.{first_of, later_of}

-- linked parts, and a schema of their records
pub record AreRecorded : Type 0 where
  pub ms : List ModuleTerm
  pub linked : Linked
  pub schema : Set
  pub are : AreRecords ms linked schema

module _ (m : AreRecorded) where
  record_in : {k : ℕ} {parts : List LinkedAttribute} {xs : List AttrRec} (i j : ℕ) (part : LinkedAttribute)
      (id : List ℕ) → AreAttributes m.ms m.linked k parts xs → slice_get parts i ≡ Some part →
      part.head.identifier ≡ Some id → j ≡ k + i → (x : AttrRec) × Contains xs x × IsAttribute m.ms m.linked j x
  record_in i j part id no_more at called same = absurd (cc)
  record_in zero j part id (one {k = k} {x = x} {xs = xs} is rest) at called same =
      (x, first_of x xs, subst (λ n. IsAttribute m.ms m.linked n x) (omega (arith, same)) is)
  record_in (suc i) j part id (one {k = k} {x = x} {xs = xs} is rest) at called same =
      let found = record_in i j part id rest at called (omega (arith, same)) in
      (found.0, later_of x found.0 xs found.1, found.2)
  record_in zero j part id (unregistered {part = own} gone rest) at called same =
      absurd (apart (sym gone ∙ ap (λ (y : LinkedAttribute). y.head.identifier) (same_Some own part at) ∙ called))
    where
      apart : None ≡ Some id → ⊥
      apart e = absurd (cc)
  record_in (suc i) j part id (unregistered {k = k} gone rest) at called same =
      record_in i j part id rest at called (omega (arith, same))

  place_of : {k : ℕ} {parts : List LinkedAttribute} {xs : List AttrRec} (x : AttrRec) →
      AreAttributes m.ms m.linked k parts xs → Contains xs x → (j : ℕ) × IsAttribute m.ms m.linked j x
  place_of x no_more (n, within, same) = absurd (omega (arith, within))
  place_of x (one {k = k} is rest) (zero, within, same) = (k, subst (IsAttribute m.ms m.linked k) same is)
  place_of x (one is rest) (suc n, within, same) = place_of x rest (n, omega (arith, within), same)
  place_of x (unregistered gone rest) there = place_of x rest there

  -- the record at a place has the identifier of this place
  pub is_identified : {k : ℕ} {x : AttrRec} → IsAttribute m.ms m.linked k x → IsAttributeId m.linked k x.id
  is_identified is =
      ap (option_and_then (λ (y : LinkedAttribute). y.head.identifier)) is.stands ∙ is.registered.is_id

  -- the attribute of a record
  pub attribute_of : (x : AttrRec) → Contains m.schema.attributes x → (k : ℕ) × IsAttribute m.ms m.linked k x
  attribute_of x known = place_of x m.are.attributes_are known

  -- the record of an attribute that is registered
  pub record IsTemplate (k : ℕ) (id : List ℕ) : Type 0 where
    pub x : AttrRec
    pub known : Contains m.schema.attributes x
    pub named : x.id ≡ id
    pub is : IsAttribute m.ms m.linked k x

  pub template_of : (k : ℕ) (id : List ℕ) → IsAttributeId m.linked k id → IsTemplate k id
  template_of k id is =
      let named = named_part (λ (x : LinkedAttribute). x.head) m.linked.attributes.items k id is in
      let found = record_in k k named.part id m.are.attributes_are named.stands named.called (omega arith) in
      record {
        x = found.0;
        known = found.1;
        named = same_Some found.0.id id (sym (is_identified found.2) ∙ is);
        is = found.2;
      }

  -- a record has the syntax of the attribute under its identifier
  pub template_has : HaveOwnIdentifiers m.linked → (k : ℕ) (x : AttrRec) → Contains m.schema.attributes x →
      IsAttributeId m.linked k x.id → AttributeHas m.ms m.linked k x.syntax
  template_has apart k x known is =
      let found = attribute_of x known in
      let same = apart.attributes found.0 k x.id (is_identified found.1) is in
      subst (λ n. AttributeHas m.ms m.linked n x.syntax) same found.1.has
