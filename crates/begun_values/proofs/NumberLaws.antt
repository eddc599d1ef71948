-- NumberLaws: first names of the assignments below a number.
use Rattle.std.proofs.Common.{◌≡◌, ◌⊎◌, ◌<◌, ◌+◌, ℕ, zero, suc, refl, ap, arith, inl, inr, subst}
use Rattle.token_grammar.specs.declared.token.Token.{Token}
use Rattle.gdmo_begun_names.specs.declared.begun_names.BegunNames.{BegunNames}
use Rattle.gdmo_begun_names.specs.BegunMarks.{FirstSet, Marks}
use Rattle.gdmo_begun_names.proofs.MarkLaws.{both_marked, marked_by, none_marked}
use Rattle.begun_values.specs.ModuleValues.{BelowFirsts}

pub below_begin : (F : ℕ → FirstSet) (names : BegunNames) → Marks (BelowFirsts F 0) names names
below_begin F names = none_marked (BelowFirsts F 0) names (λ t h. let w = h.1 in omega (arith, w))

below_or_last : (k n : ℕ) → k < n + 1 → (k < n) ⊎ (k ≡ n)
below_or_last zero zero w = inr refl
below_or_last zero (suc n) w = inl (omega arith)
below_or_last (suc k) zero w = absurd (omega (arith, w))
below_or_last (suc k) (suc n) w = by (below_or_last k n (omega (arith, w)))
  where
    by : (k < n) ⊎ (k ≡ n) → (suc k < suc n) ⊎ (suc k ≡ suc n)
    by (inl h) = inl (omega (arith, h))
    by (inr h) = inr (ap suc h)

below_cases : (F : ℕ → FirstSet) (n : ℕ) (t : Token) → BelowFirsts F (n + 1) t → BelowFirsts F n t ⊎ F n t
below_cases F n t h = by (below_or_last h.0 n h.1)
  where
    by : (h.0 < n) ⊎ (h.0 ≡ n) → BelowFirsts F n t ⊎ F n t
    by (inl w) = inl (h.0, w, h.2)
    by (inr e) = inr (subst (λ k. F k t) e h.2)

below_more : (F : ℕ → FirstSet) (n : ℕ) (t : Token) → BelowFirsts F n t ⊎ F n t → BelowFirsts F (n + 1) t
below_more F n t (inl h) = (h.0, (let w = h.1 in omega (arith, w)), h.2)
below_more F n t (inr h) = (n, omega arith, h)

pub below_step : (F : ℕ → FirstSet) (n : ℕ) {one other next : BegunNames} → Marks (BelowFirsts F n) one other →
    Marks (F n) other next → Marks (BelowFirsts F (n + 1)) one next
below_step F n p q = marked_by (λ t. BelowFirsts F n t ⊎ F n t) (BelowFirsts F (n + 1)) (below_more F n)
    (below_cases F n) (both_marked (BelowFirsts F n) (F n) p q)
