-- PlaceLaws: what stands at a place of a list, and beside it in a list that goes in step.
use Rattle.std.specs.Prelude.{◌≡◌, ◌<◌, ◌+◌, ◌⊎◌, ℕ, zero, suc, List, [], ◌∷◌, ◌++◌, Some, length, refl}
use Rattle.std.specs.Prelude.{slice_get}
use Rattle.std.proofs.Common.{ap, arith, inl, inr, subst}
use Rattle.std.proofs.lemmas.Option.{same_Some}
use Rattle.gdmo_names.specs.InStep.{AreAll, AreEach}

pub same_number : {A B : Type 0} (Is : A → B → Type 0) (xs : List A) (ys : List B) → AreEach Is xs ys →
    length xs ≡ length ys
same_number Is [] [] each = refl
same_number Is (x ∷ xs) (y ∷ ys) each = ap suc (same_number Is xs ys each.1)
same_number Is [] (y ∷ ys) each = absurd each
same_number Is (x ∷ xs) [] each = absurd each

-- what stands in the other list beside what stands in the one
pub beside : {A B : Type 0} (Is : A → B → Type 0) (xs : List A) (ys : List B) (k : ℕ) (x : A) → AreEach Is xs ys →
    slice_get xs k ≡ Some x → (y : B) × (slice_get ys k ≡ Some y) × Is x y
beside Is [] ys k x each at = absurd (cc)
beside Is (z ∷ xs) [] k x each at = absurd each
beside Is (z ∷ xs) (y ∷ ys) zero x each at = (y, refl, subst (λ w. Is w y) (same_Some z x at) each.0)
beside Is (z ∷ xs) (y ∷ ys) (suc k) x each at = beside Is xs ys k x each.1 at

-- the same the other way
pub beside_it : {A B : Type 0} (Is : A → B → Type 0) (xs : List A) (ys : List B) (k : ℕ) (y : B) → AreEach Is xs ys →
    slice_get ys k ≡ Some y → (x : A) × (slice_get xs k ≡ Some x) × Is x y
beside_it Is xs [] k y each at = absurd (cc)
beside_it Is [] (z ∷ ys) k y each at = absurd each
beside_it Is (x ∷ xs) (z ∷ ys) zero y each at = (x, refl, subst (λ w. Is x w) (same_Some z y at) each.0)
beside_it Is (x ∷ xs) (z ∷ ys) (suc k) y each at = beside_it Is xs ys k y each.1 at

pub all_at : {A : Type 0} (Is : A → Type 0) (xs : List A) (k : ℕ) (x : A) → AreAll Is xs → slice_get xs k ≡ Some x →
    Is x
all_at Is [] k x each at = absurd (cc)
all_at Is (y ∷ xs) zero x each at = subst Is (same_Some y x at) each.0
all_at Is (y ∷ xs) (suc k) x each at = all_at Is xs k x each.1 at

-- a place in one of two lists
abbrev pub AtEither : {X : Type 0} → List X → List X → ℕ → X → Type 0
AtEither xs ys k x = (slice_get xs k ≡ Some x) ⊎ ((j : ℕ) × (k ≡ length xs + j) × (slice_get ys j ≡ Some x))

deeper : {X : Type 0} (z : X) (xs ys : List X) (k : ℕ) (x : X) → AtEither xs ys k x → AtEither (z ∷ xs) ys (suc k) x
deeper z xs ys k x (inl h) = inl h
deeper z xs ys k x (inr h) = inr (h.0, (let n = h.1 in omega (arith, n)), h.2)

pub at_either : {X : Type 0} (xs ys : List X) (k : ℕ) (x : X) → slice_get (xs ++ ys) k ≡ Some x → AtEither xs ys k x
at_either [] ys k x at = inr (k, omega arith, at)
at_either (z ∷ xs) ys zero x at = inl at
at_either (z ∷ xs) ys (suc k) x at = deeper z xs ys k x (at_either xs ys k x at)
