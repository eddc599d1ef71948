-- PlaceLaws: templates of documents and the identifiers under which they are linked: a template has one place in the
-- table of its kind, and one identifier, which no other one has (X.722, section 8.2; docs/PROFILE.md, section 12).
use Rattle.std.specs.Prelude.{◌≡◌, ◌⊎◌, ◌<◌, ℕ, List, Some, refl, slice_get}
use Rattle.std.proofs.Common.{◌∙◌, ap, inl, inr, sym}
use Rattle.std.proofs.Math.Path.{subst}
use Rattle.std.proofs.lemmas.Bool.{cases_order}
use Rattle.std.proofs.lemmas.Option.{same_Some}
use Rattle.gdmo_names.specs.PartTerms.{Placed, PartTerms}
use Rattle.gdmo_names.specs.TargetTables.{ArePlacedApart, AreTwo}
use Rattle.gdmo_names.specs.TemplateTerms.{TemplateKind}
use Rattle.gdmo_names.specs.DocumentTemplates.{templates}
use Rattle.gdmo_linking.specs.LinkedTables.{table}
use Rattle.linked_parts.specs.declared.linked.LinkedHead.{LinkedHead}
use Rattle.linked_types.specs.PartIdentifiers.{IsIdentified}
use Rattle.schema_records.specs.ApartParts.{AreApart}
use Rattle.registered_laws.proofs.ApartLaws.{pair_at, pairs_of_kind}

-- a template of a kind is linked under an identifier
pub record IsUnder {L : Type 0} (parts : PartTerms) (kind : TemplateKind) (head : L → LinkedHead) (ys : List L)
    (x : Placed) (id : List ℕ) : Type 0 where
  pub place : ℕ
  pub at : slice_get (table parts kind) place ≡ Some x
  pub is : IsIdentified head ys place id

never_twice : (parts : PartTerms) (kind : TemplateKind) → ArePlacedApart parts → (j k : ℕ) (x : Placed) →
    slice_get (table parts kind) j ≡ Some x → slice_get (table parts kind) k ≡ Some x → j < k → ⊥
never_twice parts kind placed j k x one other less =
    pair_at AreTwo (table parts kind) j k x x (pairs_of_kind AreTwo kind (templates parts) placed) less one other refl
    refl

one_place : (parts : PartTerms) (kind : TemplateKind) → ArePlacedApart parts → (j k : ℕ) (x : Placed) →
    slice_get (table parts kind) j ≡ Some x → slice_get (table parts kind) k ≡ Some x → j ≡ k
one_place parts kind placed j k x one other = by (cases_order j k)
  where
    by : (j ≡ k) ⊎ ((j < k) ⊎ (k < j)) → j ≡ k
    by (inl same) = same
    by (inr (inl less)) = absurd (never_twice parts kind placed j k x one other less)
    by (inr (inr more)) = absurd (never_twice parts kind placed k j x other one more)

module _ {L : Type 0} (parts : PartTerms) (kind : TemplateKind) (head : L → LinkedHead) (ys : List L) where
  -- templates under one identifier are one
  pub one_template : AreApart head ys → (x y : Placed) (id : List ℕ) → IsUnder parts kind head ys x id →
      IsUnder parts kind head ys y id → x ≡ y
  one_template apart x y id one other = same_Some x y
      (sym one.at ∙ ap (slice_get (table parts kind)) (apart one.place other.place id one.is other.is) ∙ other.at)

  -- the identifiers of one template are one
  pub one_identifier : ArePlacedApart parts → (x : Placed) (id other : List ℕ) → IsUnder parts kind head ys x id →
      IsUnder parts kind head ys x other → id ≡ other
  one_identifier placed x id other one two = same_Some id other
      (sym one.is ∙ subst (λ k. IsIdentified head ys k other)
      (sym (one_place parts kind placed one.place two.place x one.at two.at)) two.is)
