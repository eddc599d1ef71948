-- PairLaws: the part of a name, and the value of an attribute, that a pair states, by the record of its attribute.
use Rattle.std.proofs.Common.{◌≡◌, ◌∙◌, ◌∷◌, [], ℕ, suc, zero, List, Option, None, Some, ap, refl, sym}
use Rattle.std.specs.Prelude.{All, option_and_then, slice_get}
use Rattle.std.proofs.Math.Path.{subst}
use Rattle.std.proofs.lemmas.Option.{none-some, same_Some}
use Rattle.asn1_values_syntax.specs.ValueTrees.{value_tree}
use Rattle.term_values.specs.Typed.{TypedValue}
use Rattle.term_values.specs.Written.{der}
use Rattle.term_model.specs.declared.name.Rdn.{Rdn}
use Rattle.term_model.specs.declared.object.Attribute.{Attribute}
use Rattle.term_model.specs.declared.schema.AttrRec.{AttrRec}
use Rattle.asn1_names.specs.ModuleTerms.{ModuleTerm}
use Rattle.linked_parts.specs.declared.linked.Linked.{Linked}
use Rattle.linked_parts.specs.declared.linked.LinkedAttribute.{LinkedAttribute}
use Rattle.linked_parts.specs.declared.linked.LinkedPair.{LinkedPair}
use Rattle.filled_syntaxes.specs.LinkedMeanings.{linked_arcs}
use Rattle.filled_syntaxes.specs.SaidTexts.{DenotesValue}
use Rattle.linked_types.specs.PartIdentifiers.{AreEach, IsAttributeId}
use Rattle.linked_types.proofs.SyntaxLaws.{one_syntax}
use Rattle.section_values.specs.RegisteredSections.{IsRegisteredAttribute}
use Rattle.section_values.specs.SectionRecords.{IsPairValue}
use Rattle.schema_records.specs.MemberRecords.{IsAttribute}
use Rattle.instance_records.specs.InstanceRecords.{IsGiven, IsPart}
use Rattle.instance_records.specs.KnownRecords.{TellsRecord}

-- the element of a second list at the place of one of the first
pub each_at : {A B : Type 0} (Is : A → B → Type 0) (xs : List A) (ys : List B) (i : ℕ) (x : A) → AreEach Is xs ys →
    slice_get xs i ≡ Some x → (y : B) × (slice_get ys i ≡ Some y) × Is x y
each_at Is [] ys i x each at = absurd (none-some x at)
each_at Is (z ∷ xs) [] i x each at = absurd each
each_at Is (z ∷ xs) (y ∷ ys) zero x each at = (y, refl, subst (λ w. Is w y) (same_Some z x at) each.0)
each_at Is (z ∷ xs) (y ∷ ys) (suc i) x each at = each_at Is xs ys i x each.1 at

module _ (ms : List ModuleTerm) (linked : Linked) where
  -- an attribute that is registered has a record
  pub is_there : (k : ℕ) (found : Option AttrRec) → TellsRecord ms linked k found → found ≡ None →
      IsRegisteredAttribute linked k → ⊥
  is_there k None told gone registered = absurd (none-some registered.0 (sym told ∙ registered.1))
  is_there k (Some x) told gone registered = absurd (none-some x (sym gone))

  pub is_told : (k : ℕ) (found : Option AttrRec) (x : AttrRec) → TellsRecord ms linked k found → found ≡ Some x →
      IsAttribute ms linked k x
  is_told k found x told is = subst (TellsRecord ms linked k) is told

  identified : (k : ℕ) (x : AttrRec) → IsAttribute ms linked k x → IsAttributeId linked k x.id
  identified k x is =
      ap (option_and_then (λ (y : LinkedAttribute). y.head.identifier)) is.stands ∙ is.registered.is_id

  pub is_part : (pair : LinkedPair) (x : AttrRec) (denoted : TypedValue) (rdn : Rdn) →
      IsAttribute ms linked pair.attribute x → IsPairValue ms linked pair denoted → rdn.attribute ≡ x.id →
      rdn.value ≡ der x.syntax denoted → IsPart ms linked pair rdn
  is_part pair x denoted rdn is value id octets =
      let same = one_syntax ms linked pair.attribute value.0 x.syntax value.1 is.has in record {
        is_attribute = subst (IsAttributeId linked pair.attribute) (sym id) (identified pair.attribute x is);
        syntax = x.syntax;
        has = is.has;
        denoted = denoted;
        denotes = subst (λ s. DenotesValue (linked_arcs linked) s (value_tree pair.value) denoted) same value.2;
        is_written = octets;
      }

  pub is_given : (pair : LinkedPair) (x : AttrRec) (denoted : TypedValue) (given : Attribute) →
      IsAttribute ms linked pair.attribute x → IsPairValue ms linked pair denoted → given.id ≡ x.id →
      given.value ≡ denoted → IsGiven ms linked pair given
  is_given pair x denoted given is value id same = record {
    is_attribute = subst (IsAttributeId linked pair.attribute) (sym id) (identified pair.attribute x is);
    is_value = subst (IsPairValue ms linked pair) (sym same) value;
  }

  -- what is made of slices of pairs and of their values is made of these
  pub along : {X : Type 0} (Is : LinkedPair → X → Type 0) (pairs slice : List LinkedPair)
      (values held : List TypedValue) (made : List X) → pairs ≡ slice → values ≡ held →
      All (λ (pair : LinkedPair). IsRegisteredAttribute linked pair.attribute) pairs →
      AreEach (IsPairValue ms linked) pairs values →
      (All (λ (pair : LinkedPair). IsRegisteredAttribute linked pair.attribute) slice →
      AreEach (IsPairValue ms linked) slice held → AreEach Is slice made) → AreEach Is pairs made
  along Is pairs slice values held made same alike registered each makes =
      subst (λ xs. AreEach Is xs made) (sym same)
      (makes (subst (All (λ (pair : LinkedPair). IsRegisteredAttribute linked pair.attribute)) same registered)
      (subst (AreEach (IsPairValue ms linked) slice) alike
      (subst (λ xs. AreEach (IsPairValue ms linked) xs values) same each)))
