-- StepLaws: lists that go in step, and facts of each element of a list.
use Rattle.std.specs.Prelude.{◌≡◌, ◌<◌, ◌≤◌, ℕ, zero, suc, ◌+◌, List, [], ◌∷◌, ◌++◌, Option, Some, length, map, refl}
use Rattle.std.specs.Prelude.{get_or, slice_get}
use Rattle.std.specs.Option.{option_and_then}
use Rattle.std.proofs.Common.{ap, arith, sym, take, ◌∙◌}
use Rattle.std.proofs.Math.Path.{subst}
use Rattle.std.proofs.lemmas.List.{take_all, take_more}
use Rattle.std.proofs.lemmas.Option.{get_or_from_slice_get, same_Some, slice_get_read, slice_get_within}
use Rattle.gdmo_names.specs.InStep.{AreAll, AreEach}

pub each_push : {A B : Type 0} (is : A → B → Type 0) (xs : List A) (ys : List B) (x : A) (y : B) →
    AreEach is xs ys → is x y → AreEach is (xs ++ x ∷ []) (ys ++ y ∷ [])
each_push is [] [] x y each one = (one, tt)
each_push is [] (z ∷ ys) x y each one = absurd each
each_push is (w ∷ xs) [] x y each one = absurd each
each_push is (w ∷ xs) (z ∷ ys) x y each one = (each.0, each_push is xs ys x y each.1 one)

pub each_at : {A B : Type 0} (is : A → B → Type 0) (xs : List A) (ys : List B) (i : ℕ) (x : A) →
    AreEach is xs ys → slice_get xs i ≡ Some x → (y : B) × (slice_get ys i ≡ Some y) × is x y
each_at is [] ys i x each at = absurd (cc)
each_at is (w ∷ xs) [] i x each at = absurd each
each_at is (w ∷ xs) (z ∷ ys) zero x each at = (z, refl, subst (λ v. is v z) (same_Some w x at) each.0)
each_at is (w ∷ xs) (z ∷ ys) (suc i) x each at = each_at is xs ys i x each.1 at

-- the same from the other list
pub each_from : {A B : Type 0} (is : A → B → Type 0) (xs : List A) (ys : List B) (i : ℕ) (y : B) →
    AreEach is xs ys → slice_get ys i ≡ Some y → (x : A) × (slice_get xs i ≡ Some x) × is x y
each_from is xs [] i y each at = absurd (cc)
each_from is [] (z ∷ ys) i y each at = absurd each
each_from is (w ∷ xs) (z ∷ ys) zero y each at = (w, refl, subst (λ v. is w v) (same_Some z y at) each.0)
each_from is (w ∷ xs) (z ∷ ys) (suc i) y each at = each_from is xs ys i y each.1 at

pub each_also : {A B : Type 0} (is also : A → B → Type 0) (xs : List A) (ys : List B) →
    ((x : A) (y : B) → is x y → also x y) → AreEach is xs ys → AreEach also xs ys
each_also is also [] [] step each = tt
each_also is also [] (z ∷ ys) step each = absurd each
each_also is also (w ∷ xs) [] step each = absurd each
each_also is also (w ∷ xs) (z ∷ ys) step each = (step w z each.0, each_also is also xs ys step each.1)

pub each_size : {A B : Type 0} (is : A → B → Type 0) (xs : List A) (ys : List B) → AreEach is xs ys →
    length xs ≡ length ys
each_size is [] [] each = refl
each_size is [] (z ∷ ys) each = absurd each
each_size is (w ∷ xs) [] each = absurd each
each_size is (w ∷ xs) (z ∷ ys) each = ap suc (each_size is xs ys each.1)

-- ---- facts of each

pub all_at : {A : Type 0} (is : A → Type 0) (xs : List A) (i : ℕ) (x : A) → AreAll is xs →
    slice_get xs i ≡ Some x → is x
all_at is [] i x all at = absurd (cc)
all_at is (w ∷ xs) zero x all at = subst is (same_Some w x at) all.0
all_at is (w ∷ xs) (suc i) x all at = all_at is xs i x all.1 at

pub all_left : {A : Type 0} (is : A → Type 0) (xs ys : List A) → AreAll is (xs ++ ys) → AreAll is xs
all_left is [] ys all = tt
all_left is (x ∷ xs) ys all = (all.0, all_left is xs ys all.1)

pub all_right : {A : Type 0} (is : A → Type 0) (xs ys : List A) → AreAll is (xs ++ ys) → AreAll is ys
all_right is [] ys all = all
all_right is (x ∷ xs) ys all = all_right is xs ys all.1

-- the number at a place
pub each_number : {A : Type 0} (is : A → ℕ → Type 0) (xs : List A) (ks : List ℕ) (i : ℕ) (x : A) (k : ℕ) →
    AreEach is xs ks → slice_get xs i ≡ Some x → k ≡ get_or ks i 0 → is x k
each_number is xs ks i x k each at here =
    let found = each_at is xs ks i x each at in
    subst (is x) (sym (here ∙ get_or_from_slice_get ks i found.0 0 found.1)) found.2

some_at : {A : Type 0} (xs : List A) (i : ℕ) → i < length xs → (x : A) × (slice_get xs i ≡ Some x)
some_at [] i less = absurd (omega (arith, less))
some_at (x ∷ xs) zero less = (x, refl)
some_at (x ∷ xs) (suc i) less = some_at xs i (omega (arith, less))

-- what is told of the target at a place
pub told_at : {A : Type 0} (is : A → Option ℕ → Type 0) (xs : List A) (ys : List (Option ℕ)) (i : ℕ) (t : Option ℕ) →
    AreEach is xs ys → i < length ys → t ≡ option_and_then (λ y. y) (slice_get ys i) →
    (x : A) × (slice_get xs i ≡ Some x) × is x t
told_at is xs ys i t each less told =
    let there = some_at ys i less in
    let found = each_from is xs ys i there.0 each there.1 in
    (found.0, found.1, subst (is found.0) (sym (told ∙ ap (option_and_then (λ y. y)) there.1)) found.2)

-- ---- one element more of a list

pub at_place : {A : Type 0} (xs : List A) (i : ℕ) (x : A) → i < length xs → x ≡ get_or xs i x →
    slice_get xs i ≡ Some x
at_place xs i x within is = slice_get_read xs (length xs) i x refl within is

pub taken : {A : Type 0} (xs : List A) (i : ℕ) (x : A) → slice_get xs i ≡ Some x →
    take (i + 1) xs ≡ take i xs ++ x ∷ []
taken xs i x at = take_more xs i x (slice_get_within xs i x at) ∙
    ap (λ y. take i xs ++ y ∷ []) (get_or_from_slice_get xs i x x at)

-- what was told of all but the last, and of the last
pub each_more : {A B : Type 0} (is : A → B → Type 0) (xs : List A) (ys after : List B) (i : ℕ) (x : A) (y : B) →
    slice_get xs i ≡ Some x → AreEach is (take i xs) ys → is x y → after ≡ ys ++ y ∷ [] →
    AreEach is (take (i + 1) xs) after
each_more is xs ys after i x y at each one pushed = subst (λ zs. AreEach is (take (i + 1) xs) zs) (sym pushed)
    (subst (λ zs. AreEach is zs (ys ++ y ∷ [])) (sym (taken xs i x at)) (each_push is (take i xs) ys x y each one))

pub each_done : {A B : Type 0} (is : A → B → Type 0) (xs : List A) (ys : List B) (i : ℕ) → length xs ≤ i →
    AreEach is (take i xs) ys → AreEach is xs ys
each_done is xs ys i past each = subst (λ zs. AreEach is zs ys) (take_all i xs past) each

pub each_begun : {A B : Type 0} (is : A → B → Type 0) (xs : List A) (ys : List B) → ys ≡ [] →
    AreEach is (take 0 xs) ys
each_begun is xs ys none = subst (λ zs. AreEach is (take 0 xs) zs) (sym none) tt

pub map_at : {A B : Type 0} (f : A → B) (xs : List A) (i : ℕ) (x : A) → slice_get xs i ≡ Some x →
    slice_get (map f xs) i ≡ Some (f x)
map_at f [] i x at = absurd (cc)
map_at f (y ∷ ys) zero x at = ap (λ z. Some (f z)) (same_Some y x at)
map_at f (y ∷ ys) (suc i) x at = map_at f ys i x at
