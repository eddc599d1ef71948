-- An attribute in its place, and the end of two lists that go in step.
use Rattle.std.proofs.Common.{◌≡◌, ℕ, ◌≤◌, min, List, [], ◌∷◌, length, drop}
use Rattle.std.proofs.Common.{arith, refl, ap, ◌∙◌, ◌⊎◌, inl, inr}
use Rattle.std.proofs.lemmas.List.{drop_all}
use Rattle.term_model.specs.declared.object.Attribute.{Attribute}
use Rattle.term_model.specs.declared.schema.AttrRec.{AttrRec}
use Rattle.term_model.specs.ObjectSet.{differing}

without_now : (records : List AttrRec) (before : List Attribute) → differing records before [] ≡ []
without_now records [] = refl
without_now records (x ∷ xs) = refl

pub differing_end : (records : List AttrRec) (before now : List Attribute) (i : ℕ)
    → min (length before) (length now) ≤ i → differing records (drop i before) (drop i now) ≡ []
differing_end records before now i h = by_order (either (length before) (length now) i h)
  where
    either : (a b i : ℕ) → min a b ≤ i → (a ≤ i) ⊎ (b ≤ i)
    either a b i h = grind arith

    by_order : (length before ≤ i) ⊎ (length now ≤ i) → differing records (drop i before) (drop i now) ≡ []
    by_order (inl past) = ap (λ xs. differing records xs (drop i now)) (drop_all i before past)
    by_order (inr past) = ap (λ xs. differing records (drop i before) xs) (drop_all i now past)
        ∙ without_now records (drop i before)
