-- RestLaws: ranges leave some bounds of others (X.680, sections 49 to 51).
use Rattle.std.proofs.Common.{◌≡◌, ℤ, pos, false, ◌&&◌, List, [], ◌∷◌, ◌++◌, refl, ◌∙◌, inl, inr, ⊎_elim, arith}
use Rattle.std.proofs.lemmas.Bool.{false_from_ne_true}
use Rattle.std.proofs.lemmas.Int.{ints}
use Rattle.term_values.specs.Bounded.{allowed, one_allows}
use Rattle.term_values.specs.Syntaxes.{Bounds}
use Rattle.range_sets.specs.RangeSets.{AreRising, IsStated, Leaves}
use Rattle.range_sets.specs.RangeSteps.{Held, Rises, common_pair}
use Rattle.range_sets.proofs.HeldLaws.{allowed_held, held_front, held_behind, held_parts, same_held, same_tests}
use Rattle.range_sets.proofs.HeldLaws.{held_allowed, both_hold, hold_both}
use Rattle.range_sets.proofs.RisingLaws.{rise_told}
use Rattle.range_sets.proofs.CommonLaws.{both_common, common_both}
use Rattle.denoted_types.proofs.OrderLaws.{in_order}

-- ---- what two lists of pairs both hold

record BothHeld (xs ys both : Bounds) : Type 0 where
  there : (n : ℤ) → Held both n → Held xs n × Held ys n
  back : (n : ℤ) → Held xs n → Held ys n → Held both n

with_pair : (x : ℤ × ℤ) (ys : Bounds) → (both : Bounds) × BothHeld (x ∷ []) ys both
with_pair x [] = ([], record { there = λ n h. absurd h; back = λ n h k. k })
with_pair x (y ∷ ys) =
    let rest = with_pair x ys in (
      common_pair x y ++ rest.0,
      record {
        there = λ n h. ⊎_elim (λ front. let both = common_both x y n front in (inl both.0, inl both.1))
            (λ behind. let both = rest.1.there n behind in (both.0, inr both.1))
            (held_parts n (common_pair x y) rest.0 h);
        back = λ n h k. ⊎_elim
            (λ own. ⊎_elim
            (λ its. held_front n (common_pair x y) rest.0 (both_common x y n own.0 own.1 its.0 its.1))
            (λ others. held_behind n (common_pair x y) rest.0 (rest.1.back n (inl own) others)) k)
            (λ none. absurd none) h;
      },
    )

with_each : (xs ys : Bounds) → (both : Bounds) × BothHeld xs ys both
with_each [] ys = ([], record { there = λ n h. absurd h; back = λ n h k. h })
with_each (x ∷ xs) ys =
    let one = with_pair x ys in
    let rest = with_each xs ys in (
      one.0 ++ rest.0,
      record {
        there = λ n h. ⊎_elim
            (λ front. let both = one.1.there n front in
            (⊎_elim (λ own. inl own) (λ none. absurd none) both.0, both.1))
            (λ behind. let both = rest.1.there n behind in (inr both.0, both.1))
            (held_parts n one.0 rest.0 h);
        back = λ n h k. ⊎_elim (λ own. held_front n one.0 rest.0 (one.1.back n (inl own) k))
            (λ others. held_behind n one.0 rest.0 (rest.1.back n others k)) h;
      },
    )

-- ---- the bounds that are left

none_allowed : (n : ℤ) → one_allows ((pos 1, pos 0) ∷ []) n ≡ false
none_allowed n = false_from_ne_true (one_allows ((pos 1, pos 0) ∷ []) n) (λ h.
    ⊎_elim (λ own. let low = own.0 in let high = own.1 in absurd (omega (arith, ints, low, high)))
    (λ none. none) (allowed_held n ((pos 1, pos 0) ∷ []) h))

some_stated : (x : ℤ × ℤ) (xs : Bounds) → AreRising (x ∷ xs) → IsStated (x ∷ xs)
some_stated x xs (inl h) = inl h
some_stated x xs (inr h) = absurd (cc)

stated : (before ranges pairs : Bounds) → Rises pairs →
    ((n : ℤ) → one_allows pairs n ≡ (allowed before n && one_allows ranges n)) →
    (after : Bounds) × Leaves before ranges after
stated before ranges [] rises same =
    ((pos 1, pos 0) ∷ [], record { stated = inr refl; same = λ n. none_allowed n ∙ same n })
stated before ranges (x ∷ xs) rises same =
    (x ∷ xs, record { stated = some_stated x xs (rise_told (x ∷ xs) rises); same = same })

pub some_rest : (before : Bounds) (ranges : List (ℤ × ℤ)) → (after : Bounds) × Leaves before ranges after
some_rest [] ranges =
    let ordered = in_order ranges in
    stated [] ranges ordered.0 ordered.1.rises
    (λ n. same_held n ordered.0 ranges (ordered.1.there n) (ordered.1.back n))
some_rest (x ∷ xs) ranges =
    let both = with_each (x ∷ xs) ranges in
    let ordered = in_order both.0 in
    stated (x ∷ xs) ranges ordered.0 ordered.1.rises (λ n.
    same_tests (one_allows ordered.0 n) (one_allows (x ∷ xs) n && one_allows ranges n)
    (λ h.
    let parts = both.1.there n (ordered.1.there n (allowed_held n ordered.0 h)) in
    both_hold n (x ∷ xs) ranges parts.0 parts.1)
    (λ h.
    let parts = hold_both n (x ∷ xs) ranges h in
    held_allowed n ordered.0 (ordered.1.back n (both.1.back n parts.0 parts.1))))
