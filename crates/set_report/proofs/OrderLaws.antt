-- What stands in rising order, each once, is told by its members alone.
use Rattle.std.proofs.Common.{◌≡◌, ◌⊎◌, ◌<◌, ℕ, zero, suc, Bool, true, false, not, List, [], ◌∷◌}
use Rattle.std.proofs.Common.{length, get_or, nat_cmp, is_lt, is_gt, Ordering, Less, Equal, Greater, IsSorted, refl}
use Rattle.std.proofs.Common.{sym, ap, ◌∙◌, subst, inl, inr, true≢false, arith, add-one}
use Rattle.std.specs.Prelude.{Contains, IsTrue, if◌then◌else◌}
use Rattle.std.specs.BTreeSet as sets
use Rattle.std.specs.BTreeSet.{BTreeSet}
use Rattle.std.specs.Cmp.Lexicographic.{slice_cmp}
use Rattle.std.specs.List.Sorted.{IsStrictlySortedBy}
use Rattle.std.specs.Ordering.{eq_by_cmp, ordering_reverse}
use Rattle.std.proofs.lemmas.Cmp.{nat_list_cmp_total, nat_list_eq_equiv}
use Rattle.std.proofs.lemmas.List.Kept.{Contains-dedup, Contains-from_dedup, IsStrictlySortedBy-dedup}
use Rattle.std.proofs.lemmas.Map.Lookups.{btree_set_from_contains, exact_bytes}
use Rattle.std.proofs.lemmas.Map.Text.{is_eq-slice_cmp}
use Rattle.std.proofs.lemmas.Map.Views.{btree_set_contains_iff}
use Rattle.std.proofs.lemmas.Slice.Eq.{bytes_eq-Decides}
use Rattle.term_values.specs.Rearranged.{IsRising, inserted, may_precede, rising}
use Rattle.term_values.proofs.RisingLaws.{may_precede_back}
use Rattle.term_model.specs.Comparing.{is_same_oid}
use Rattle.package_laws.proofs.Members.{either_way, first_or_later, joined, there}
use Rattle.set_report.specs.Orders.{in_order}

-- ---- the rising order rises

behind : (y x : List ℕ) (ys : List (List ℕ)) → may_precede y x ≡ true → IsRising (y ∷ ys)
    → IsRising (y ∷ inserted x ys)
behind y x [] p h = (p, tt)
behind y x (z ∷ zs) p h = by (may_precede x z) (λ q. behind z x zs q h.1) refl
  where
    by : (b : Bool) → (may_precede z x ≡ true → IsRising (z ∷ inserted x zs)) → may_precede x z ≡ b
        → IsRising (y ∷ (if b then x ∷ z ∷ zs else z ∷ inserted x zs))
    by true rest e = (p, (e, h.1))
    by false rest e = (h.0, rest (may_precede_back x z e))

rises_in : (x : List ℕ) (ys : List (List ℕ)) → IsRising ys → IsRising (inserted x ys)
rises_in x [] h = tt
rises_in x (y ∷ ys) h = by (may_precede x y) refl
  where
    by : (b : Bool) → may_precede x y ≡ b → IsRising (if b then x ∷ y ∷ ys else y ∷ inserted x ys)
    by true e = (e, h)
    by false e = behind y x ys (may_precede_back x y e) h

rising_rises : (xs : List (List ℕ)) → IsRising (rising xs)
rising_rises [] = tt
rising_rises (x ∷ xs) = rises_in x (rising xs) (rising_rises xs)

not_less : (r s : Ordering) → r ≡ ordering_reverse s → not (is_gt r) ≡ true → is_lt s ≡ false
not_less r Less e h = absurd (true≢false (sym h ∙ ap (λ t. not (is_gt t)) e))
not_less r Equal e h = refl
not_less r Greater e h = refl

by_place : (xs : List (List ℕ)) → IsRising xs → (k : ℕ) (d : List ℕ) → suc k < length xs
    → is_lt (slice_cmp nat_cmp (get_or xs (suc k) d) (get_or xs k d)) ≡ false
by_place [] h k d within = absurd (omega arith)
by_place (x ∷ []) h k d within = absurd (omega arith)
by_place (x ∷ (y ∷ ys)) h zero d within =
    not_less (slice_cmp nat_cmp x y) (slice_cmp nat_cmp y x) (nat_list_cmp_total.antisymm x y) h.0
by_place (x ∷ (y ∷ ys)) h (suc k) d within = by_place (y ∷ ys) h.1 k d (omega arith)

sorted_rising : (xs : List (List ℕ)) → IsSorted (slice_cmp nat_cmp) (rising xs)
sorted_rising xs k d low within =
    subst (λ n. is_lt (slice_cmp nat_cmp (get_or (rising xs) n d) (get_or (rising xs) k d)) ≡ false) (sym (add-one k))
    (by_place (rising xs) (rising_rises xs) k d (omega arith))

same_ties : (x y : List ℕ) → is_same_oid x y ≡ eq_by_cmp (slice_cmp nat_cmp) x y
same_ties x y = sym (is_eq-slice_cmp x y)

strict : (xs : List (List ℕ)) → IsStrictlySortedBy (slice_cmp nat_cmp) (in_order xs)
strict xs = IsStrictlySortedBy-dedup nat_list_cmp_total same_ties (rising xs) (sorted_rising xs)

-- ---- its members

inserted_from : (x : List ℕ) (zs : List (List ℕ)) (y : List ℕ) → Contains (inserted x zs) y → (x ≡ y) ⊎ Contains zs y
inserted_from x [] y at = first_or_later x y [] at
inserted_from x (z ∷ zs) y at =
    either_way (λ ys. Contains ys y → (x ≡ y) ⊎ Contains (z ∷ zs) y) (may_precede x z) (x ∷ z ∷ zs)
    (z ∷ inserted x zs) (λ e h. first_or_later x y (z ∷ zs) h)
    (λ e h. elim (first_or_later z y (inserted x zs) h) [
      | inl same ↦ inr (joined z y zs (inl same))
      | inr later ↦ more (inserted_from x zs y later)
    ]) at
  where
    more : (x ≡ y) ⊎ Contains zs y → (x ≡ y) ⊎ Contains (z ∷ zs) y
    more (inl same) = inl same
    more (inr later) = inr (there z y zs later)

inserted_gets : (x : List ℕ) (zs : List (List ℕ)) (y : List ℕ) → (x ≡ y) ⊎ Contains zs y → Contains (inserted x zs) y
inserted_gets x [] y at = joined x y [] at
inserted_gets x (z ∷ zs) y at =
    either_way (λ ys. Contains ys y) (may_precede x z) (x ∷ z ∷ zs) (z ∷ inserted x zs) (λ e. joined x y (z ∷ zs) at)
    (λ e. joined z y (inserted x zs) (by (inserted_gets x zs y) at))
  where
    by : ((x ≡ y) ⊎ Contains zs y → Contains (inserted x zs) y) → (x ≡ y) ⊎ Contains (z ∷ zs) y
        → (z ≡ y) ⊎ Contains (inserted x zs) y
    by rest (inl same) = inr (rest (inl same))
    by rest (inr later) =
        elim (first_or_later z y zs later) [
          | inl first ↦ inl first
          | inr further ↦ inr (rest (inr further))
        ]

rising_from : (xs : List (List ℕ)) (y : List ℕ) → Contains (rising xs) y → Contains xs y
rising_from [] y at = at
rising_from (x ∷ xs) y at =
    elim (inserted_from x (rising xs) y at) [
      | inl same ↦ joined x y xs (inl same)
      | inr later ↦ joined x y xs (inr (rising_from xs y later))
    ]

rising_gets : (xs : List (List ℕ)) (y : List ℕ) → Contains xs y → Contains (rising xs) y
rising_gets [] y at = at
rising_gets (x ∷ xs) y at =
    elim (first_or_later x y xs at) [
      | inl same ↦ inserted_gets x (rising xs) y (inl same)
      | inr later ↦ inserted_gets x (rising xs) y (inr (rising_gets xs y later))
    ]

pub order_from : (xs : List (List ℕ)) (y : List ℕ) → Contains (in_order xs) y → Contains xs y
order_from xs y at = rising_from xs y (Contains-from_dedup is_same_oid (rising xs) y at)

pub order_gets : (xs : List (List ℕ)) (y : List ℕ) → Contains xs y → Contains (in_order xs) y
order_gets xs y at =
    Contains-dedup nat_list_eq_equiv (λ a b e. (bytes_eq-Decides a b).0 e) (rising xs) y (rising_gets xs y at)

-- ---- two lists of the same members

same_bools : (b c : Bool) → (IsTrue b → IsTrue c) → (IsTrue c → IsTrue b) → b ≡ c
same_bools true true to back = refl
same_bools true false to back = sym (to refl)
same_bools false true to back = back refl
same_bools false false to back = refl

as_set : List (List ℕ) → BTreeSet (List ℕ)
as_set xs = record { keys = in_order xs }

pub same_order : (xs ys : List (List ℕ)) → ((y : List ℕ) → Contains xs y → Contains ys y)
    → ((y : List ℕ) → Contains ys y → Contains xs y) → in_order xs ≡ in_order ys
unfolding as_set
same_order xs ys to back =
    btree_set_from_contains nat_list_cmp_total (as_set xs) (as_set ys) (strict xs) (strict ys)
    (λ q. same_bools (sets.contains (slice_cmp nat_cmp) (as_set xs) q) (sets.contains (slice_cmp nat_cmp) (as_set ys) q)
    (λ h. (btree_set_contains_iff nat_list_cmp_total exact_bytes (as_set ys) q).1
    (order_gets ys q (to q (order_from xs q
    ((btree_set_contains_iff nat_list_cmp_total exact_bytes (as_set xs) q).0 h)))))
    (λ h. (btree_set_contains_iff nat_list_cmp_total exact_bytes (as_set xs) q).1
    (order_gets xs q (back q (order_from ys q
    ((btree_set_contains_iff nat_list_cmp_total exact_bytes (as_set ys) q).0 h))))))
    exact_bytes
