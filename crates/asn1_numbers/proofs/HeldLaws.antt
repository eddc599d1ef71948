-- HeldLaws: what lists of options hold at a place.
use Rattle.std.specs.Prelude.{◌≡◌, ◌<◌, ℕ, zero, suc, ◌+◌, List, [], ◌∷◌, ◌++◌, Option, None, Some, length, map, refl}
use Rattle.std.specs.Prelude.{slice_get}
use Rattle.std.specs.Option.{option_and_then}
use Rattle.std.proofs.Common.{ap, arith, inl, inr, length-append, sym, subst, ◌∙◌}
use Rattle.std.proofs.lemmas.Option.{same_Some}
use Rattle.link_graphs.proofs.PlaceLaws.{IsPushed, get_push}
use Rattle.asn1_numbers.specs.NumberedBases.{held_in}

joined : {X : Type 0} (o : Option (Option X)) (x : X) → option_and_then (λ y. y) o ≡ Some x → o ≡ Some (Some x)
joined None x h = absurd (cc)
joined (Some None) x h = absurd (cc)
joined (Some (Some y)) x h = ap Some h

pub held_some : {X : Type 0} (xs : List (Option X)) (k : ℕ) (x : X) → held_in xs k ≡ Some x →
    slice_get xs k ≡ Some (Some x)
held_some xs k x h = joined (slice_get xs k) x h

pub some_held : {X : Type 0} (xs : List (Option X)) (k : ℕ) (x : X) → slice_get xs k ≡ Some (Some x) →
    held_in xs k ≡ Some x
some_held xs k x h = ap (option_and_then (λ y. y)) h

pub none_some : {X P : Type 0} (x : X) → None ≡ Some x → P
none_some x h = absurd (cc)

-- what stands at a place of a list of which each element was turned into another
pub get_map : {X Y : Type 0} (f : X → Y) (xs : List X) (k : ℕ) (x : X) → slice_get xs k ≡ Some x →
    slice_get (map f xs) k ≡ Some (f x)
get_map f [] k x h = absurd (cc)
get_map f (y ∷ ys) zero x h = ap (λ z. Some (f z)) (same_Some y x h)
get_map f (y ∷ ys) (suc k) x h = get_map f ys k x h

pub get_mapped : {X Y : Type 0} (f : X → Y) (xs : List X) (k : ℕ) (y : Y) → slice_get (map f xs) k ≡ Some y →
    (x : X) × (slice_get xs k ≡ Some x) × (f x ≡ y)
get_mapped f [] k y h = absurd (cc)
get_mapped f (x ∷ xs) zero y h = (x, refl, same_Some (f x) y h)
get_mapped f (x ∷ xs) (suc k) y h = get_mapped f xs k y h

-- two lists go in step, and each pair at a place, which is before n, has the fact
pub record PairIs {X Y : Type 0} (Fact : ℕ → X → Y → Type 0) (n : ℕ) (xs : List X) (ys : List Y) : Type 0 where
  pub size : length xs ≡ n
  pub other : length ys ≡ n
  pub each : (k : ℕ) (x : X) (y : Y) → slice_get xs k ≡ Some x → slice_get ys k ≡ Some y → Fact k x y

pub pair_none : {X Y : Type 0} (Fact : ℕ → X → Y → Type 0) (xs : List X) (ys : List Y) → xs ≡ [] → ys ≡ [] →
    PairIs Fact 0 xs ys
pair_none Fact xs ys empty also = record {
  size = ap (λ zs. length zs) empty;
  other = ap (λ zs. length zs) also;
  each = λ k x y h g. absurd (let at = sym (ap (λ zs. slice_get zs k) empty) ∙ h in cc);
}

get_within : {X : Type 0} (xs : List X) (k : ℕ) (x : X) → slice_get xs k ≡ Some x → k < length xs
get_within [] k x h = absurd (cc)
get_within (y ∷ ys) zero x h = omega arith
get_within (y ∷ ys) (suc k) x h = let rest = get_within ys k x h in omega (arith, rest)

pub pair_push : {X Y : Type 0} (Fact : ℕ → X → Y → Type 0) (n : ℕ) (xs after : List X) (ys later : List Y) (x : X)
    (y : Y) → PairIs Fact n xs ys → Fact n x y → after ≡ xs ++ x ∷ [] → later ≡ ys ++ y ∷ [] →
    PairIs Fact (n + 1) after later
pair_push Fact n xs after ys later x y pairs fact is also = record {
  size = ap (λ zs. length zs) is ∙ length-append xs (x ∷ []) ∙ (let m = pairs.size in omega (arith, m));
  other = ap (λ zs. length zs) also ∙ length-append ys (y ∷ []) ∙ (let m = pairs.other in omega (arith, m));
  each = λ k a b h g. pushed k a b (get_push xs x k a (sym (ap (λ zs. slice_get zs k) is) ∙ h))
      (get_push ys y k b (sym (ap (λ zs. slice_get zs k) also) ∙ g));
}
  where
    pushed : (k : ℕ) (a : _) (b : _) → IsPushed xs x k a → IsPushed ys y k b → Fact k a b
    pushed k a b (inl h) (inl g) = pairs.each k a b h g
    pushed k a b (inl h) (inr g) = absurd (
        let less = get_within xs k a h in let m = pairs.size in let p = pairs.other in let e = g.0 in
        omega (arith, less, m, p, e))
    pushed k a b (inr h) (inl g) = absurd (
        let less = get_within ys k b g in let m = pairs.size in let p = pairs.other in let e = h.0 in
        omega (arith, less, m, p, e))
    pushed k a b (inr h) (inr g) =
        subst (λ c. Fact k c b) h.1 (subst (Fact k x) g.1 (subst (λ j. Fact j x y) (sym (h.0 ∙ pairs.size)) fact))

found_within : {X : Type 0} (xs : List X) (k : ℕ) → k < length xs → (x : X) × (slice_get xs k ≡ Some x)
found_within [] k h = absurd (omega (arith, h))
found_within (x ∷ xs) zero h = (x, refl)
found_within (x ∷ xs) (suc k) h = found_within xs k (omega (arith, h))

-- what stands in the other list beside what stands in the one
pub beside : {X Y : Type 0} {Fact : ℕ → X → Y → Type 0} {n k : ℕ} {xs : List X} {ys : List Y} {x : X} →
    PairIs Fact n xs ys → slice_get xs k ≡ Some x → (y : Y) × (slice_get ys k ≡ Some y) × Fact k x y
beside {k = k} {xs = xs} {ys = ys} {x = x} pairs at =
    let less = get_within xs k x at in
    let one = pairs.size in
    let other = pairs.other in
    let found = found_within ys k (omega (arith, less, one, other)) in
    (found.0, found.1, pairs.each k x found.0 at found.1)

-- what stands at a place that isn't past the end
pub pair_at : {X Y : Type 0} {Fact : ℕ → X → Y → Type 0} {n k : ℕ} {xs : List X} {ys : List Y} →
    PairIs Fact n xs ys → k < n →
    (x : X) × (y : Y) × (slice_get xs k ≡ Some x) × (slice_get ys k ≡ Some y) × Fact k x y
pair_at {k = k} {xs = xs} {ys = ys} pairs less =
    let one = pairs.size in
    let other = pairs.other in
    let first = found_within xs k (omega (arith, less, one)) in
    let second = found_within ys k (omega (arith, less, other)) in
    (first.0, second.0, first.1, second.1, pairs.each k first.0 second.0 first.1 second.1)
