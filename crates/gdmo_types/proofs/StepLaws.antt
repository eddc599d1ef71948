-- StepLaws: two lists that go in step, and what stands at a place of a list.
use Rattle.std.specs.Prelude.{◌≡◌, ◌<◌, ℕ, zero, suc, ◌+◌, List, [], ◌∷◌, ◌++◌, Some, Contains, length, refl, slice_get}
use Rattle.std.specs.Prelude.{IfOk, Result, Ok, Err, slice_index_or, take}
use Rattle.std.proofs.Common.{ap, arith, get_or, sym, subst, ◌∙◌}
use Rattle.std.proofs.lemmas.List.{take_more}
use Rattle.std.proofs.lemmas.Option.{get_or_from_slice_get, same_Some, slice_get_read, slice_get_within}
use Rattle.gdmo_names.specs.InStep.{AreEach}

-- ---- what stands at a place

pub there : {X : Type 0} (xs : List X) (k : ℕ) → k < length xs → (x : X) × (slice_get xs k ≡ Some x)
there [] k h = absurd (omega (arith, h))
there (x ∷ xs) zero h = (x, refl)
there (x ∷ xs) (suc k) h = there xs k (omega (arith, h))

pub taken : {X : Type 0} (xs : List X) (k : ℕ) (x : X) → slice_get xs k ≡ Some x →
    take (k + 1) xs ≡ take k xs ++ x ∷ []
taken xs k x at = take_more xs k x (slice_get_within xs k x at) ∙
    ap (λ z. take k xs ++ z ∷ []) (get_or_from_slice_get xs k x x at)

pub got_at : {X : Type 0} (xs : List X) (k : ℕ) (x : X) → k < length xs → x ≡ get_or xs k x → slice_get xs k ≡ Some x
got_at xs k x within is = slice_get_read xs (length xs) k x refl within is

-- ---- lists in step

pub same_number : {A B : Type 0} (Is : A → B → Type 0) (xs : List A) (ys : List B) → AreEach Is xs ys →
    length xs ≡ length ys
same_number Is [] [] each = refl
same_number Is (x ∷ xs) (y ∷ ys) each = ap suc (same_number Is xs ys each.1)
same_number Is [] (y ∷ ys) each = absurd each
same_number Is (x ∷ xs) [] each = absurd each

-- what stands in the other list beside what stands in the one
pub beside : {A B : Type 0} (Is : A → B → Type 0) (xs : List A) (ys : List B) (k : ℕ) (x : A) → AreEach Is xs ys →
    slice_get xs k ≡ Some x → (y : B) × (slice_get ys k ≡ Some y) × Is x y
beside Is [] ys k x each at = absurd (cc)
beside Is (z ∷ xs) [] k x each at = absurd each
beside Is (z ∷ xs) (y ∷ ys) zero x each at = (y, refl, subst (λ w. Is w y) (same_Some z x at) each.0)
beside Is (z ∷ xs) (y ∷ ys) (suc k) x each at = beside Is xs ys k x each.1 at

-- what stands at one place of both
pub pair_at : {A B : Type 0} (Is : A → B → Type 0) (xs : List A) (ys : List B) (k : ℕ) (x : A) (y : B) →
    AreEach Is xs ys → slice_get xs k ≡ Some x → slice_get ys k ≡ Some y → Is x y
pair_at Is [] ys k x y each at other = absurd (cc)
pair_at Is (z ∷ xs) [] k x y each at other = absurd each
pair_at Is (z ∷ xs) (w ∷ ys) zero x y each at other =
    subst (λ b. Is x b) (same_Some w y other) (subst (λ a. Is a w) (same_Some z x at) each.0)
pair_at Is (z ∷ xs) (w ∷ ys) (suc k) x y each at other = pair_at Is xs ys k x y each.1 at other

-- a further pair
pub each_push : {A B : Type 0} (Is : A → B → Type 0) (xs : List A) (ys : List B) (x : A) (y : B) → AreEach Is xs ys →
    Is x y → AreEach Is (xs ++ x ∷ []) (ys ++ y ∷ [])
each_push Is [] [] x y each is = (is, tt)
each_push Is (a ∷ xs) (b ∷ ys) x y each is = (each.0, each_push Is xs ys x y each.1 is)
each_push Is [] (b ∷ ys) x y each is = absurd each
each_push Is (a ∷ xs) [] x y each is = absurd each

-- a loop that makes an element for each element of a list
pub each_step : {A B : Type 0} (Is : A → B → Type 0) (xs : List A) (ys after : List B) (k : ℕ) (y : B) →
    k < length xs → ((x : A) → slice_get xs k ≡ Some x → Is x y) → AreEach Is (take k xs) ys → after ≡ ys ++ y ∷ [] →
    AreEach Is (take (k + 1) xs) after
each_step Is xs ys after k y within is each pushed =
    let found = there xs k within in
    subst (λ zs. AreEach Is zs after) (sym (taken xs k found.0 found.1))
    (subst (λ zs. AreEach Is (take k xs ++ found.0 ∷ []) zs) (sym pushed)
    (each_push Is (take k xs) ys found.0 y each (is found.0 found.1)))

pub if_ok_by : {A E : Type 0} {P Q : A → Type 0} (r : Result A E) → ((x : A) → P x → Q x) → IfOk r P → IfOk r Q
if_ok_by (Ok x) f h = f x h
if_ok_by (Err e) f h = tt

pub get_contained : {X : Type 0} (xs : List X) (k : ℕ) (x : X) → slice_get xs k ≡ Some x → Contains xs x
get_contained [] k x is = absurd (cc)
get_contained (y ∷ xs) zero x is = (0, omega arith, same_Some y x is)
get_contained (y ∷ xs) (suc k) x is =
    let rest = get_contained xs k x is in
    let within = rest.1 in (suc rest.0, omega (arith, within), rest.2)

pub contained_get : {X : Type 0} (xs : List X) (x : X) → Contains xs x → (k : ℕ) × (slice_get xs k ≡ Some x)
contained_get {X} xs x (k, within, is) = by xs k within is
  where
    by : (ys : List X) (j : ℕ) → j < length ys → slice_index_or ys j x ≡ x → (k : ℕ) × (slice_get ys k ≡ Some x)
    by [] j within is = absurd (omega (arith, within))
    by (y ∷ ys) zero within is = (0, ap (λ z. Some z) is)
    by (y ∷ ys) (suc j) within is = let rest = by ys j (omega (arith, within)) is in (suc rest.0, rest.1)

-- two lists of one length go in step where what stands at each place does
pub each_by : {A B : Type 0} (Is : A → B → Type 0) (xs : List A) (ys : List B) → length xs ≡ length ys →
    ((k : ℕ) (x : A) (y : B) → slice_get xs k ≡ Some x → slice_get ys k ≡ Some y → Is x y) → AreEach Is xs ys
each_by Is [] [] same is = tt
each_by Is (x ∷ xs) (y ∷ ys) same is =
    (is 0 x y refl refl, each_by Is xs ys (omega (arith, same)) (λ k a b one other. is (suc k) a b one other))
each_by Is [] (y ∷ ys) same is = absurd (omega (arith, same))
each_by Is (x ∷ xs) [] same is = absurd (omega (arith, same))
