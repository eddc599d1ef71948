-- Paths that end at a place.
use Rattle.std.proofs.Common.{◌≡◌, ◌<◌, ◌≤◌, ◌-◌, ℕ, zero, suc, List, [], ◌∷◌, ◌++◌, length, take, Option}
use Rattle.std.proofs.Common.{None, Some}
use Rattle.std.proofs.Common.{◌⊎◌, inl, inr, refl, sym, ap, ◌∙◌, subst, arith}
use Rattle.std.specs.Prelude.{slice_get}
use Rattle.std.proofs.lemmas.Option.{none-some, same_Some}
use Rattle.lock_model.specs.declared.lock_name.LockName.{LockName}
use Rattle.lock_model.specs.declared.lock_name.Mode.{Mode}
use Rattle.lock_model.specs.LockPath.{IsWay, Path, depth}
use Rattle.lock_model.specs.PathEnds.{ended, last_mode, with_mode}

abbrev Place : Type 0
Place = LockName × Mode

-- two numbers in their order
pub ordered : (i k : ℕ) → (i < k) ⊎ ((i ≡ k) ⊎ (k < i))
ordered zero zero = inr (inl refl)
ordered zero (suc k) = inl (omega arith)
ordered (suc i) zero = inr (inr (omega arith))
ordered (suc i) (suc k) = elim (ordered i k) [
  | inl less ↦ inl (omega arith)
  | inr rest ↦ elim rest [
    | inl same ↦ inr (inl (ap (λ n. suc n) same))
    | inr more ↦ inr (inr (omega arith))
  ]
]

abbrev full : Mode → Path → ℕ → Path
full mode path at = take at path ++ with_mode mode (slice_get path at)

-- before the end the places are those that were entered
before_end : (mode : Mode) (path : Path) (at i : ℕ) → i < at → slice_get (full mode path at) i ≡ slice_get path i
before_end mode path zero i h = absurd (omega arith)
before_end mode [] (suc at) i h = refl
before_end mode (x ∷ xs) (suc at) zero h = refl
before_end mode (x ∷ xs) (suc at) (suc i) h = before_end mode xs at i (omega arith)

-- at the end it is the one that was entered, with the mode
at_end : (mode : Mode) (path : Path) (at : ℕ) (place : Place) → slice_get path at ≡ Some place
    → slice_get (full mode path at) at ≡ Some (place.0, mode)
at_end mode [] at place h = absurd (none-some place h)
at_end mode (x ∷ xs) zero place h = ap (λ (p : Place). Some (p.0, mode)) (same_Some x place h)
at_end mode (x ∷ xs) (suc at) place h = at_end mode xs at place h

-- behind it there is none
behind_end : (mode : Mode) (path : Path) (at i : ℕ) → at < i → slice_get (full mode path at) i ≡ None
behind_end mode path at zero h = absurd (omega arith)
behind_end mode [] zero (suc i) h = refl
behind_end mode [] (suc at) (suc i) h = refl
behind_end mode (x ∷ xs) zero (suc i) h = refl
behind_end mode (x ∷ xs) (suc at) (suc i) h = behind_end mode xs at i (omega arith)

-- nor behind the last place that was entered
gone_end : (mode : Mode) (path : Path) (at i : ℕ) → slice_get path i ≡ None → slice_get (full mode path at) i ≡ None
gone_end mode [] zero i h = refl
gone_end mode [] (suc at) i h = refl
gone_end mode (x ∷ xs) zero zero h = absurd (none-some x (sym h))
gone_end mode (x ∷ xs) zero (suc i) h = refl
gone_end mode (x ∷ xs) (suc at) zero h = absurd (none-some x (sym h))
gone_end mode (x ∷ xs) (suc at) (suc i) h = gone_end mode xs at i h

end_length : (mode : Mode) (path : Path) (at : ℕ) → at < length path → length (full mode path at) ≡ suc at
end_length mode [] at h = absurd (omega arith)
end_length mode (x ∷ xs) zero h = refl
end_length mode (x ∷ xs) (suc at) h = ap (λ n. suc n) (end_length mode xs at (omega arith))

-- the first places are those that were entered
end_taken : (mode : Mode) (path : Path) (at k : ℕ) → k ≤ at → take k (full mode path at) ≡ take k path
end_taken mode [] zero zero h = refl
end_taken mode [] zero (suc k) h = absurd (omega arith)
end_taken mode [] (suc at) zero h = refl
end_taken mode [] (suc at) (suc k) h = refl
end_taken mode (x ∷ xs) at zero h = refl
end_taken mode (x ∷ xs) zero (suc k) h = absurd (omega arith)
end_taken mode (x ∷ xs) (suc at) (suc k) h = ap (λ (p : Path). x ∷ p) (end_taken mode xs at k (omega arith))

-- ---- by the table's words

pub ended_before : (path : Path) (at i : ℕ) → i < at → slice_get (ended path (Some at)) i ≡ slice_get path i
ended_before path at i h = before_end (last_mode path) path at i h

pub ended_here : (path : Path) (at : ℕ) (place : Place) → slice_get path at ≡ Some place
    → slice_get (ended path (Some at)) at ≡ Some (place.0, last_mode path)
ended_here path at place h = at_end (last_mode path) path at place h

pub ended_behind : (path : Path) (at i : ℕ) → at < i → slice_get (ended path (Some at)) i ≡ None
ended_behind path at i h = behind_end (last_mode path) path at i h

pub ended_gone : (path : Path) (end : Option ℕ) (i : ℕ) → slice_get path i ≡ None → slice_get (ended path end) i ≡ None
ended_gone path None i h = h
ended_gone path (Some at) i h = gone_end (last_mode path) path at i h

pub ended_length : (path : Path) (at : ℕ) → at < length path → length (ended path (Some at)) ≡ suc at
ended_length path at h = end_length (last_mode path) path at h

pub ended_taken : (path : Path) (at k : ℕ) → k ≤ at → take k (ended path (Some at)) ≡ take k path
ended_taken path at k h = end_taken (last_mode path) path at k h

pub last_is : (path : Path) (i : ℕ) (place : Place) → slice_get path i ≡ Some place → length path ≡ suc i
    → last_mode path ≡ place.1
last_is [] i place h long = absurd (none-some place h)
last_is (x ∷ []) zero place h long = ap (λ (p : Place). p.1) (same_Some x place h)
last_is (x ∷ []) (suc i) place h long = absurd (none-some place h)
last_is (x ∷ y ∷ ys) zero place h long = absurd (omega arith)
last_is (x ∷ y ∷ ys) (suc i) place h long = last_is (y ∷ ys) i place h (omega arith)

pub none_long : {A : Type 0} (xs : List A) (i : ℕ) → slice_get xs i ≡ None → length xs ≤ i
none_long [] i h = omega arith
none_long (x ∷ xs) zero h = absurd (none-some x (sym h))
none_long (x ∷ xs) (suc i) h = let rest = none_long xs i h in omega arith

pub some_short : {A : Type 0} (xs : List A) (i : ℕ) (x : A) → slice_get xs i ≡ Some x → i < length xs
some_short [] i x h = absurd (none-some x h)
some_short (y ∷ ys) zero x h = omega arith
some_short (y ∷ ys) (suc i) x h = let rest = some_short ys i x h in omega arith

pub short_some : {A : Type 0} (xs : List A) (i : ℕ) → i < length xs → (x : A) × (slice_get xs i ≡ Some x)
short_some [] i h = absurd (omega arith)
short_some (y ∷ ys) zero h = (y, refl)
short_some (y ∷ ys) (suc i) h = short_some ys i (omega arith)

-- a path that ends at a place has its places at their depths
way_at : (path : Path) (at : ℕ) → IsWay path → (i : ℕ) (place : Place)
    → slice_get (ended path (Some at)) i ≡ Some place → i ≡ depth place.0
way_at path at way i place h = by_place (slice_get path i) refl
  where
    at_it : (there : Place) → slice_get path i ≡ Some there → i ≡ at → i ≡ depth place.0
    at_it there is same =
        let here : slice_get (ended path (Some at)) i ≡ Some (there.0, last_mode path) =
        subst (λ k. slice_get (ended path (Some k)) i ≡ Some (there.0, last_mode path)) same
        (ended_here path i there is) in
        let lock : there.0 ≡ place.0 =
        ap (λ (p : Place). p.0) (same_Some (there.0, last_mode path) place (sym here ∙ h)) in
        way i there is ∙ ap depth lock

    by_order : (there : Place) → slice_get path i ≡ Some there → (i < at) ⊎ ((i ≡ at) ⊎ (at < i)) → i ≡ depth place.0
    by_order there is (inl less) = way i place (sym (ended_before path at i less) ∙ h)
    by_order there is (inr (inl same)) = at_it there is same
    by_order there is (inr (inr more)) = absurd (none-some place (sym (ended_behind path at i more) ∙ h))

    by_place : (o : Option Place) → slice_get path i ≡ o → i ≡ depth place.0
    by_place None is = absurd (none-some place (sym (ended_gone path (Some at) i is) ∙ h))
    by_place (Some there) is = by_order there is (ordered i at)

pub ended_way : (path : Path) (end : Option ℕ) → IsWay path → IsWay (ended path end)
ended_way path None way = way
ended_way path (Some at) way = way_at path at way

-- the last place of a path that ends at it
pub ended_last : (path : Path) (end at : ℕ) (place last : Place) → slice_get path at ≡ Some place
    → slice_get path (length path - 1) ≡ Some last → at ≡ end
    → slice_get (ended path (Some end)) at ≡ Some (place.0, last.1)
ended_last path end at place last is is_last same =
    let within = some_short path at place is in
    let mode : last_mode path ≡ last.1 = last_is path (length path - 1) last is_last (omega arith) in
    subst (λ k. slice_get (ended path (Some k)) at ≡ Some (place.0, last.1)) same
    (subst (λ m. slice_get (ended path (Some at)) at ≡ Some (place.0, m)) mode (ended_here path at place is))
