-- TableLaws: what holds of each part of a table that is linked of a template of its kind, and what stands where a
-- reference is linked.
use Rattle.std.specs.Prelude.{◌≡◌, ◌∷◌, [], ℕ, zero, suc, List, Bool, true, false, Some, All, Contains}
use Rattle.std.specs.Prelude.{get_or, if◌then◌else◌, slice_get}
use Rattle.std.proofs.Common.{arith}
use Rattle.std.proofs.Math.Path.{subst}
use Rattle.std.proofs.lemmas.Option.{get_or_from_slice_get, slice_get-get_or, slice_get_within}
use Rattle.gdmo_names.specs.DocumentTemplates.{templates}
use Rattle.gdmo_names.specs.InStep.{AreEach}
use Rattle.gdmo_names.specs.Mentions.{Role, wanted_kind}
use Rattle.gdmo_names.specs.PartTerms.{Placed, PartTerms}
use Rattle.gdmo_names.specs.TemplateTerms.{BodyTerm, ReferenceTerm, TemplateKind}
use Rattle.gdmo_linking.specs.LinkedTables.{Links, is_kind, of_kind, table}
use Rattle.gdmo_linking.proofs.StepLaws.{each_at, each_from}
use Rattle.linked_parts.specs.declared.linked.LinkedHead.{LinkedHead}
use Rattle.linked_templates.specs.TemplateTables.{IsTemplate}

later_of : {A : Type 0} (x y : A) (xs : List A) → Contains xs y → Contains (x ∷ xs) y
later_of x y xs has = (suc has.0, (let w = has.1 in omega (arith, w)), has.2)

-- a template of a table stands in the documents
in_table : (kind : TemplateKind) (xs : List Placed) (x : Placed) → Contains (of_kind kind xs) x → Contains xs x
unfolding of_kind
in_table kind [] x has = has
in_table kind (y ∷ ys) x has = by (is_kind kind y) (λ there. later_of y x ys (in_table kind ys x there)) has
  where
    by : (test : Bool) → (Contains (of_kind kind ys) x → Contains (y ∷ ys) x) →
        Contains (if test then y ∷ of_kind kind ys else of_kind kind ys) x → Contains (y ∷ ys) x
    by true further (zero, within, is) = (0, omega arith, is)
    by true further (suc n, within, is) = further (n, omega (arith, within), is)
    by false further there = further there

-- what holds of each that is told by an element of a list holds of all
pub all_told : {A B : Type 0} (P : B → Type 0) (is : A → B → Type 0) (xs : List A) (ys : List B) →
    ((x : A) (y : B) → Contains xs x → is x y → P y) → AreEach is xs ys → All P ys
all_told P is xs ys step each n d within =
    let found = each_from is xs ys n (get_or ys n d) each (slice_get-get_or ys n d within) in
    step found.0 (get_or ys n d)
    (n, slice_get_within xs n found.0 found.1, get_or_from_slice_get xs n found.0 found.0 found.1) found.2

module _ {L : Type 0} (parts : PartTerms) (head : L → LinkedHead) (is : ℕ → BodyTerm → L → Type 0) (kind : TemplateKind)
    (ys : List L) (each : AreEach (IsTemplate parts head is) (table parts kind) ys) where
  -- what holds of each that is linked of a template holds of the table
  pub each_linked : (P : L → Type 0) → ((x : Placed) (y : L) → Contains (templates parts) x →
      IsTemplate parts head is x y → P y) → All P ys
  each_linked P step = all_told P (IsTemplate parts head is) (table parts kind) ys
      (λ x y has told. step x y (in_table kind (templates parts) x has) told) each

  -- what is linked of the target of a reference stands at its place
  pub linked_there : {document : ℕ} {role : Role} {reference : ReferenceTerm} {k : ℕ} → wanted_kind role ≡ kind →
      (links : Links parts document role reference k) →
      (y : L) × (slice_get ys k ≡ Some y) × IsTemplate parts head is links.to y
  linked_there {k = k} wanted links = each_at (IsTemplate parts head is) (table parts kind) ys k links.to each
      (subst (λ z. slice_get (table parts z) k ≡ Some links.to) wanted links.at)
