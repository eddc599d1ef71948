-- EachLaws: a fact of each element of a list and its place.
use Rattle.std.specs.Prelude.{◌≡◌, ◌<◌, ℕ, zero, suc, ◌+◌, List, [], ◌∷◌, ◌++◌, Some, length, refl}
use Rattle.std.specs.Prelude.{slice_get}
use Rattle.std.proofs.Common.{ap, arith, inl, inr, length-append, sym, subst, ◌∙◌}
use Rattle.link_graphs.specs.Leading.{targets_of}
use Rattle.link_graphs.proofs.PlaceLaws.{IsPushed, get_push}

-- each of the first n elements, which are all, has the fact
pub record EachIs {X : Type 0} (Fact : ℕ → X → Type 0) (n : ℕ) (xs : List X) : Type 0 where
  pub size : length xs ≡ n
  pub each : (k : ℕ) (x : X) → slice_get xs k ≡ Some x → Fact k x

pub each_none : {X : Type 0} (Fact : ℕ → X → Type 0) (xs : List X) → xs ≡ [] → EachIs Fact 0 xs
each_none Fact xs empty = record {
  size = ap (λ ys. length ys) empty;
  each = λ k x h. absurd (let at = sym (ap (λ ys. slice_get ys k) empty) ∙ h in cc);
}

pub each_push : {X : Type 0} (Fact : ℕ → X → Type 0) (n : ℕ) (xs after : List X) (x : X) → EachIs Fact n xs →
    Fact n x → after ≡ xs ++ x ∷ [] → EachIs Fact (n + 1) after
each_push Fact n xs after x each fact is = record {
  size = ap (λ ys. length ys) is ∙ length-append xs (x ∷ []) ∙ (let m = each.size in omega (arith, m));
  each = λ k y h. pushed k y (get_push xs x k y (sym (ap (λ ys. slice_get ys k) is) ∙ h));
}
  where
    pushed : (k : ℕ) (y : _) → IsPushed xs x k y → Fact k y
    pushed k y (inl h) = each.each k y h
    pushed k y (inr h) = subst (Fact k) h.1 (subst (λ j. Fact j x) (sym (h.0 ∙ each.size)) fact)

-- what stands at a place that isn't past the end
pub each_at : {X : Type 0} (Fact : ℕ → X → Type 0) (n : ℕ) (xs : List X) (k : ℕ) → EachIs Fact n xs → k < n →
    (x : X) × (slice_get xs k ≡ Some x) × Fact k x
each_at Fact n xs k each less =
    let found = there xs k (let m = each.size in omega (arith, m, less)) in
    (found.0, found.1, each.each k found.0 found.1)
  where
    there : {Y : Type 0} (ys : List Y) (j : ℕ) → j < length ys → (y : Y) × (slice_get ys j ≡ Some y)
    there [] j h = absurd (omega (arith, h))
    there (y ∷ ys) zero h = (y, refl)
    there (y ∷ ys) (suc j) h = there ys j (omega (arith, h))

-- a fact of the targets of an element, where they stand and where there are none
pub targets_by : (P : List ℕ → Type 0) (lists : List (List ℕ)) (e : ℕ) →
    ((xs : List ℕ) → slice_get lists e ≡ Some xs → P xs) → (length lists < e + 1 → P []) → P (targets_of lists e)
targets_by P [] e there past = past (omega arith)
targets_by P (x ∷ xs) zero there past = there x refl
targets_by P (x ∷ xs) (suc e) there past = targets_by P xs e there (λ h. past (omega (arith, h)))
