-- LeavingLaws: what rising pairs that hold some numbers are as bounds (X.680, sections 49 to 51).
use Rattle.std.proofs.Common.{◌≡◌, ℕ, ℤ, pos, ◌<◌, ◌≤ℤ◌, ◌+◌, true, false, ◌&&◌, [], ◌∷◌, ◌++◌, length, take}
use Rattle.std.proofs.Common.{get_or, zero, suc, inl, inr, ◌<ℤ◌, Result, Ok, Err, IfOk, refl, sym, ap, ◌∙◌, true≢false, arith}
use Rattle.std.proofs.lemmas.Bool.{false_from_ne_true}
use Rattle.std.proofs.lemmas.Int.{ints}
use Rattle.std.proofs.lemmas.List.{take_more}
use Rattle.term_values.specs.Bounded.{allowed, one_allows}
use Rattle.term_values.specs.Syntaxes.{Bounds}
use Rattle.range_sets.specs.RangeSets.{AreRising, IsStated, Leaves}
use Rattle.range_sets.specs.RangeSteps.{Held}
use Rattle.range_sets.proofs.HeldLaws.{allowed_held, held_allowed, held_parts}

pub leaves_by : {E : Type 0} (left : Result Bounds E) (before ranges pairs : Bounds) → AreRising pairs →
    ((n : ℤ) → one_allows pairs n ≡ (allowed before n && one_allows ranges n)) →
    IfOk left (λ bounds. AreRising pairs → IsStated bounds) →
    IfOk left (λ bounds. (n : ℤ) → allowed bounds n ≡ one_allows pairs n) →
    IfOk left (λ after. Leaves before ranges after)
leaves_by (Ok after) before ranges pairs rising same stated held = record {
  stated = stated rising;
  same = λ n. held n ∙ same n;
}
leaves_by (Err e) before ranges pairs rising same stated held = tt

pub some_allowed : (xs : Bounds) (n : ℤ) → 0 < length xs → allowed xs n ≡ one_allows xs n
some_allowed [] n h = absurd (omega arith)
some_allowed (x ∷ xs) n h = refl

pub none_held : (xs : Bounds) (i : ℕ) (d : ℤ × ℤ) → i < length xs → (get_or xs i d).1 <ℤ (get_or xs i d).0 →
    ((n : ℤ) → one_allows (take i xs) n ≡ false) → (n : ℤ) → one_allows (take (i + 1) xs) n ≡ false
none_held xs i d within empty before n =
    ap (λ zs. one_allows zs n) (take_more xs i d within)
    ∙ false_from_ne_true (one_allows (take i xs ++ get_or xs i d ∷ []) n)
    (λ h. elim (held_parts n (take i xs) (get_or xs i d ∷ []) (allowed_held n (take i xs ++ get_or xs i d ∷ []) h)) [
      | inl front ↦ true≢false (sym (held_allowed n (take i xs) front) ∙ before n)
      | inr own ↦ elim own [
        | inl within ↦ absurd (omega (arith, ints, within.0, within.1))
        | inr no_more ↦ no_more
      ]
    ])

held_at : (xs : Bounds) (i : ℕ) (d : ℤ × ℤ) → i < length xs → (get_or xs i d).0 ≤ℤ (get_or xs i d).1 →
    Held xs (get_or xs i d).0
held_at [] i d within some = absurd (omega arith)
held_at (x ∷ xs) zero d within some = inl (omega (arith, ints), some)
held_at (x ∷ xs) (suc i) d within some = inr (held_at xs i d (omega arith) some)

pub one_is_held : (xs : Bounds) (i : ℕ) (d : ℤ × ℤ) → i < length xs → (get_or xs i d).0 ≤ℤ (get_or xs i d).1 →
    (n : ℤ) × (allowed xs n ≡ true)
one_is_held xs i d within some =
    let n = (get_or xs i d).0 in
    (n, some_allowed xs n (omega arith) ∙ held_allowed n xs (held_at xs i d within some))

pub all_allowed : (xs : Bounds) → length xs ≡ 0 → allowed xs (pos 0) ≡ true
all_allowed [] h = refl
all_allowed (x ∷ xs) h = absurd (omega arith)
