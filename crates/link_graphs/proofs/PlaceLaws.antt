-- What stands at a place of a list after a push or a write.
use Rattle.std.proofs.Common.{◌≡◌, ℕ, suc, zero, ◌<◌, ◌⊎◌, List, [], ◌∷◌, ◌++◌, Bool, true, false, None, Some}
use Rattle.std.proofs.Common.{length, set, replicate, refl, sym, ap, ◌∙◌, inl, inr, arith}
use Rattle.std.specs.List.{slice_get}
use Rattle.std.proofs.lemmas.Bool.{false≢true}
use Rattle.std.proofs.lemmas.Option.{same_Some}

pub get_before : {A : Type 0} (xs ys : List A) (k : ℕ) (x : A) → slice_get xs k ≡ Some x
    → slice_get (xs ++ ys) k ≡ Some x
get_before [] ys k x h = absurd (cc)
get_before (z ∷ xs) ys zero x h = h
get_before (z ∷ xs) ys (suc k) x h = get_before xs ys k x h

pub get_last : {A : Type 0} (xs : List A) (y : A) → slice_get (xs ++ y ∷ []) (length xs) ≡ Some y
get_last [] y = refl
get_last (z ∷ xs) y = get_last xs y

-- what stands at a place after a push: what stood there, or what was pushed
abbrev pub IsPushed : {A : Type 0} → List A → A → ℕ → A → Type 0
IsPushed xs y k x = (slice_get xs k ≡ Some x) ⊎ ((k ≡ length xs) × (y ≡ x))

deeper : {A : Type 0} (z : A) (xs : List A) (y : A) (k : ℕ) (x : A) → IsPushed xs y k x → IsPushed (z ∷ xs) y (suc k) x
deeper z xs y k x (inl h) = inl h
deeper z xs y k x (inr h) = inr (ap suc h.0, h.1)

pub get_push : {A : Type 0} (xs : List A) (y : A) (k : ℕ) (x : A) → slice_get (xs ++ y ∷ []) k ≡ Some x
    → IsPushed xs y k x
get_push [] y zero x h = inr (refl, same_Some y x h)
get_push [] y (suc k) x h = absurd (cc)
get_push (z ∷ xs) y zero x h = inl h
get_push (z ∷ xs) y (suc k) x h = deeper z xs y k x (get_push xs y k x h)

pub nothing_there : {A : Type 0} {P : Type 0} (k : ℕ) (x : A) → slice_get [] k ≡ Some x → P
nothing_there k x h = absurd (cc)

pub same_there : {A : Type 0} (xs : List A) (k : ℕ) (x y : A) → slice_get xs k ≡ Some x → slice_get xs k ≡ Some y
    → x ≡ y
same_there xs k x y h i = same_Some x y (sym h ∙ i)

-- ---- marks

pub stays_marked : (xs : List Bool) (k e : ℕ) → slice_get xs e ≡ Some true → slice_get (set xs k true) e ≡ Some true
stays_marked [] k e h = h
stays_marked (x ∷ xs) zero zero h = refl
stays_marked (x ∷ xs) zero (suc e) h = h
stays_marked (x ∷ xs) (suc k) zero h = h
stays_marked (x ∷ xs) (suc k) (suc e) h = stays_marked xs k e h

pub is_marked : (xs : List Bool) (k : ℕ) → k < length xs → slice_get (set xs k true) k ≡ Some true
is_marked [] k h = absurd (omega arith)
is_marked (x ∷ xs) zero h = refl
is_marked (x ∷ xs) (suc k) h = is_marked xs k (omega arith)

one_more : (e k : ℕ) {P : Type 0} → P ⊎ (e ≡ k) → P ⊎ (suc e ≡ suc k)
one_more e k (inl p) = inl p
one_more e k (inr q) = inr (ap suc q)

pub was_marked : (xs : List Bool) (k e : ℕ) → slice_get (set xs k true) e ≡ Some true
    → (slice_get xs e ≡ Some true) ⊎ (e ≡ k)
was_marked [] k e h = inl h
was_marked (x ∷ xs) zero zero h = inr refl
was_marked (x ∷ xs) zero (suc e) h = inl h
was_marked (x ∷ xs) (suc k) zero h = inl h
was_marked (x ∷ xs) (suc k) (suc e) h = one_more e k (was_marked xs k e h)

pub not_both : {P : Type 0} (xs : List Bool) (e : ℕ) → slice_get xs e ≡ Some false → slice_get xs e ≡ Some true → P
not_both xs e h i = absurd (false≢true (same_there xs e false true h i))

pub one_of_both : (xs : List Bool) (e : ℕ) → e < length xs → (slice_get xs e ≡ Some false → ⊥)
    → slice_get xs e ≡ Some true
one_of_both [] e h other = absurd (omega arith)
one_of_both (true ∷ xs) zero h other = refl
one_of_both (false ∷ xs) zero h other = absurd (other refl)
one_of_both (x ∷ xs) (suc e) h other = one_of_both xs e (omega arith) other

pub none_marked : {P : Type 0} (n e : ℕ) → slice_get (replicate n false) e ≡ Some true → P
none_marked zero e h = absurd (cc)
none_marked (suc n) zero h = absurd (false≢true (same_Some false true h))
none_marked (suc n) (suc e) h = none_marked n e h

pub past_there : {A : Type 0} (xs : List A) (n k : ℕ) (x : A) → slice_get xs n ≡ None → slice_get xs k ≡ Some x → k < n
past_there [] n k x none h = absurd (cc)
past_there (z ∷ xs) zero k x none h = absurd (cc)
past_there (z ∷ xs) (suc n) zero x none h = omega arith
past_there (z ∷ xs) (suc n) (suc k) x none h = let r = past_there xs n k x none h in omega arith
