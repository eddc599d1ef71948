-- What a filter keeps of a list.
use Rattle.std.proofs.Common.{◌≡◌, ◌⊎◌, ◌<◌, ℕ, zero, suc, Bool, true, false, List, [], ◌∷◌, length, refl, sym, ap, ◌∙◌}
use Rattle.std.proofs.Common.{arith, ⊎_elim, inl, inr, subst}
use Rattle.std.specs.Prelude.{Contains, filter, slice_index_or}
use Rattle.std.proofs.lemmas.Bool.{cases_Bool}
use Rattle.std.proofs.lemmas.List.Elements.{All-contains, All-contains_itself, All-filter, filter_passes}

pub kept : {X : Type 0} (p : X → Bool) (x : X) (xs : List X) → p x ≡ true → filter p (x ∷ xs) ≡ x ∷ filter p xs
kept p x xs e = rw e refl

pub left_out : {X : Type 0} (p : X → Bool) (x : X) (xs : List X) → p x ≡ false → filter p (x ∷ xs) ≡ filter p xs
left_out p x xs e = rw e refl

contains_at : {X : Type 0} (x : X) (xs : List X) (y : X) (k : ℕ) → k < length (x ∷ xs) → slice_index_or (x ∷ xs) k y ≡ y
    → (x ≡ y) ⊎ Contains xs y
contains_at x xs y zero within is = inl is
contains_at x xs y (suc k) within is = inr (k, omega arith, is)

contains_later : {X : Type 0} (x : X) (xs : List X) (y : X) → Contains xs y → Contains (x ∷ xs) y
contains_later x xs y h =
    let within = h.1 in
    (suc h.0, omega arith, h.2)

contains_here : {X : Type 0} (x : X) (xs : List X) (y : X) → x ≡ y → Contains (x ∷ xs) y
contains_here x xs y e = (0, omega arith, e)

pub filter_has : {X : Type 0} (p : X → Bool) (xs : List X) (y : X) → Contains (filter p xs) y → Contains xs y
    × (p y ≡ true)
filter_has p xs y h = (
  All-contains (Contains xs) (filter p xs) y (All-filter p (Contains xs) xs (All-contains_itself xs)) h,
  All-contains (λ x. p x ≡ true) (filter p xs) y (filter_passes p xs) h,
)

pub filter_gets : {X : Type 0} (p : X → Bool) (xs : List X) (y : X) → Contains xs y → p y ≡ true
    → Contains (filter p xs) y
filter_gets p [] y h e = absurd (omega (arith, h.1))
filter_gets {X} p (x ∷ xs) y h e =
    ⊎_elim
    (λ (here : x ≡ y).
    subst (λ (zs : List X). Contains zs y) (sym (kept p x xs (ap p here ∙ e))) (contains_here x (filter p xs) y here))
    (λ (there : Contains xs y).
    ⊎_elim
    (λ (comes : p x ≡ true).
    subst (λ (zs : List X). Contains zs y) (sym (kept p x xs comes))
    (contains_later x (filter p xs) y (filter_gets p xs y there e)))
    (λ (other : p x ≡ false).
    subst (λ (zs : List X). Contains zs y) (sym (left_out p x xs other)) (filter_gets p xs y there e))
    (cases_Bool (p x)))
    (contains_at x xs y h.0 h.1 h.2)
