-- HeldLaws: which numbers pairs hold, as a test and as a fact (X.680, section 51).
use Rattle.std.proofs.Common.{◌≡◌, ℤ, ◌≤ℤ◌, Bool, true, false, ◌||◌, ◌&&◌, [], ◌∷◌, ◌++◌}
use Rattle.std.proofs.Common.{IsPermutation, refl, sym, ap, ◌∙◌, ◌⊎◌, inl, inr, true≢false, arith}
use Rattle.std.proofs.lemmas.Int.{ints}
use Rattle.std.proofs.lemmas.List.Sorted.{list_any-IsPermutation}
use Rattle.std.specs.List.{list_any}
use Rattle.std.specs.Prelude.{int_le}
use Rattle.term_values.specs.Bounded.{one_allows}
use Rattle.term_values.specs.Syntaxes.{Bounds}
use Rattle.range_sets.specs.RangeSteps.{Held}

-- ---- a pair holds a number

abbrev pub holds : ℤ → ℤ × ℤ → Bool
holds n pair = int_le pair.0 n && int_le n pair.1

both_true : (a b : Bool) → (a && b) ≡ true → (a ≡ true) × (b ≡ true)
both_true true b h = (refl, h)
both_true false b h = absurd (true≢false (sym h))

le_true : (a b : ℤ) → a ≤ℤ b → int_le a b ≡ true
le_true a b h = grind (arith, ints)

pub true_le : (a b : ℤ) → int_le a b ≡ true → a ≤ℤ b
true_le a b h = grind (arith, ints)

pub within_holds : (n : ℤ) (pair : ℤ × ℤ) → pair.0 ≤ℤ n → n ≤ℤ pair.1 → holds n pair ≡ true
within_holds n pair h k = rw (le_true pair.0 n h) (le_true n pair.1 k)

pub holds_within : (n : ℤ) (pair : ℤ × ℤ) → holds n pair ≡ true → (pair.0 ≤ℤ n) × (n ≤ℤ pair.1)
holds_within n pair h =
    let parts = both_true (int_le pair.0 n) (int_le n pair.1) h in
    (true_le pair.0 n parts.0, true_le n pair.1 parts.1)

-- ---- a list of pairs holds a number

either_true : (a b : Bool) → (a || b) ≡ true → (a ≡ true) ⊎ (b ≡ true)
either_true true b h = inl refl
either_true false b h = inr h

first_true : (a b : Bool) → a ≡ true → (a || b) ≡ true
first_true true b h = refl
first_true false b h = absurd (true≢false (sym h))

second_true : (a b : Bool) → b ≡ true → (a || b) ≡ true
second_true true b h = refl
second_true false b h = h

pub allowed_held : (n : ℤ) (xs : Bounds) → one_allows xs n ≡ true → Held xs n
allowed_held n [] h = absurd (true≢false (sym h))
allowed_held n (x ∷ xs) h =
    elim (either_true (holds n x) (one_allows xs n) h) [
      | inl own ↦ inl (holds_within n x own)
      | inr others ↦ inr (allowed_held n xs others)
    ]

pub held_allowed : (n : ℤ) (xs : Bounds) → Held xs n → one_allows xs n ≡ true
held_allowed n [] h = absurd h
held_allowed n (x ∷ xs) (inl own) = first_true (holds n x) (one_allows xs n) (within_holds n x own.0 own.1)
held_allowed n (x ∷ xs) (inr others) = second_true (holds n x) (one_allows xs n) (held_allowed n xs others)

-- two tests that pass alike
pub same_tests : (a b : Bool) → (a ≡ true → b ≡ true) → (b ≡ true → a ≡ true) → a ≡ b
same_tests true b there back = sym (there refl)
same_tests false true there back = back refl
same_tests false false there back = refl

pub same_held : (n : ℤ) (xs ys : Bounds) → (Held xs n → Held ys n) → (Held ys n → Held xs n) →
    one_allows xs n ≡ one_allows ys n
same_held n xs ys there back = same_tests (one_allows xs n) (one_allows ys n)
    (λ h. held_allowed n ys (there (allowed_held n xs h))) (λ h. held_allowed n xs (back (allowed_held n ys h)))

pub both_hold : (n : ℤ) (xs ys : Bounds) → Held xs n → Held ys n → (one_allows xs n && one_allows ys n) ≡ true
both_hold n xs ys h k = rw (held_allowed n xs h) (held_allowed n ys k)

pub hold_both : (n : ℤ) (xs ys : Bounds) → (one_allows xs n && one_allows ys n) ≡ true → Held xs n × Held ys n
hold_both n xs ys h =
    let parts = both_true (one_allows xs n) (one_allows ys n) h in
    (allowed_held n xs parts.0, allowed_held n ys parts.1)

-- ---- lists that are put together, or in another order

pub held_front : (n : ℤ) (xs ys : Bounds) → Held xs n → Held (xs ++ ys) n
held_front n [] ys h = absurd h
held_front n (x ∷ xs) ys (inl own) = inl own
held_front n (x ∷ xs) ys (inr others) = inr (held_front n xs ys others)

pub held_behind : (n : ℤ) (xs ys : Bounds) → Held ys n → Held (xs ++ ys) n
held_behind n [] ys h = h
held_behind n (x ∷ xs) ys h = inr (held_behind n xs ys h)

pub held_parts : (n : ℤ) (xs ys : Bounds) → Held (xs ++ ys) n → Held xs n ⊎ Held ys n
held_parts n [] ys h = inr h
held_parts n (x ∷ xs) ys (inl own) = inl (inl own)
held_parts n (x ∷ xs) ys (inr others) =
    elim (held_parts n xs ys others) [ inl front ↦ inl (inr front) | inr behind ↦ inr behind ]

any_allows : (n : ℤ) (xs : Bounds) → list_any (holds n) xs ≡ one_allows xs n
any_allows n [] = refl
any_allows n (x ∷ xs) = ap (λ t. holds n x || t) (any_allows n xs)

pub moved_allows : (n : ℤ) (xs ys : Bounds) → IsPermutation xs ys → one_allows ys n ≡ one_allows xs n
moved_allows n xs ys moved =
    sym (any_allows n ys) ∙ sym (list_any-IsPermutation (holds n) xs ys moved) ∙ any_allows n xs
