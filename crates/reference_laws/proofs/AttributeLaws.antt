-- AttributeLaws: the record of an attribute by its place among the linked ones, of which those that aren't registered
-- have none.
use Rattle.std.specs.Prelude.{◌≡◌, ◌+◌, ℕ, zero, suc, List, None, Some, Contains, refl, slice_get}
use Rattle.std.proofs.Common.{◌∙◌, ap, arith, sym}
use Rattle.std.proofs.Math.Path.{subst}
use Rattle.std.proofs.lemmas.Option.{same_Some}
use Rattle.term_model.specs.WholeRecords.{IsAttribute}
use Rattle.term_model.specs.declared.schema.AttrRec.{AttrRec}
use Rattle.term_model.specs.declared.schema.Set.{Set}
use Rattle.asn1_names.specs.ModuleTerms.{ModuleTerm}
use Rattle.linked_parts.specs.declared.linked.Linked.{Linked}
use Rattle.linked_parts.specs.declared.linked.LinkedAttribute.{LinkedAttribute}
use Rattle.linked_types.specs.PartIdentifiers.{IsAttributeId}
use Rattle.schema_records.specs.MemberRecords.{AreAttributes, IsAttribute as IsAttributeRecord}
use Rattle.schema_records.specs.MemberRecords.AreAttributes.{no_more, one, unregistered}
use Rattle.schema_records.proofs.ClassLaws.{named_part}
use Rattle.reference_laws.specs.SchemaReferences.{IsAttributeThere}
use Rattle.reference_laws.proofs.PlaceLaws.{among_all, later_of}

module _ (ms : List ModuleTerm) (linked : Linked) where
  attribute_from : {n : ℕ} {parts : List LinkedAttribute} {xs : List AttrRec} (j : ℕ) (part : LinkedAttribute)
      (id : List ℕ) → AreAttributes ms linked n parts xs → slice_get parts j ≡ Some part →
      part.head.identifier ≡ Some id → (x : AttrRec) × Contains xs x × IsAttributeRecord ms linked (n + j) x
  attribute_from j part id no_more at called = absurd (cc)
  attribute_from zero part id (one {k = k} {x = x} is rest) at called =
      (x, (0, omega arith, refl), subst (λ m. IsAttributeRecord ms linked m x) (omega arith) is)
  attribute_from (suc j) part id (one {k = k} {x = y} {xs = ys} is rest) at called =
      let found = attribute_from j part id rest at called in (
        found.0,
        later_of y found.0 ys found.1,
        subst (λ m. IsAttributeRecord ms linked m found.0) (omega arith) found.2,
      )
  attribute_from zero part id (unregistered {part = other} gone rest) at called =
      absurd (lost (sym gone ∙ ap (λ (y : LinkedAttribute). y.head.identifier) (same_Some other part at) ∙ called))
    where
      lost : None ≡ Some id → ⊥
      lost e = absurd (cc)
  attribute_from (suc j) part id (unregistered {k = k} gone rest) at called =
      let found = attribute_from j part id rest at called in
      (found.0, found.1, subst (λ m. IsAttributeRecord ms linked m found.0) (omega arith) found.2)

  module _ (schema : Set) (are : AreAttributes ms linked 0 linked.attributes.items schema.attributes) where
    pub attribute_there : (k : ℕ) (id : List ℕ) → IsAttributeId linked k id →
        IsAttributeThere ms linked schema k id
    attribute_there k id is =
        let named = named_part (λ (y : LinkedAttribute). y.head) linked.attributes.items k id is in
        let found = attribute_from k named.part id are named.stands named.called in
        let here : IsAttributeRecord ms linked k found.0 =
        subst (λ m. IsAttributeRecord ms linked m found.0) (omega arith) found.2 in
        record {
          template = found.0;
          known = found.1;
          named = same_Some found.0.id id (sym here.registered.is_id
              ∙ ap (λ (y : LinkedAttribute). y.head.identifier)
              (same_Some here.part named.part (sym here.stands ∙ named.stands)) ∙ named.called);
          of_place = here;
        }

    pub is_attribute : (k : ℕ) (id : List ℕ) → IsAttributeId linked k id → IsAttribute schema id
    is_attribute k id is =
        let there = attribute_there k id is in
        among_all (λ (x : AttrRec). x.id) schema.attributes there.template id there.known there.named
