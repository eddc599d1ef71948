-- Laws of the order in which the members of a SET OF are written: X.690, section 11.6. A list and its permutation have
-- the same rising order, and a sorted list is its own.
use Rattle.std.proofs.Common.{◌≡◌, ℕ, zero, suc, ◌+◌, ◌<◌, Bool, true, false, cond, not, List, [], ◌∷◌, length, get_or}
use Rattle.std.proofs.Common.{set, swap, IsPermutation, IsSorted, nat_cmp, is_lt, is_gt, Ordering, Less, Equal, Greater}
use Rattle.std.proofs.Common.{refl, sym, ap, ◌∙◌, subst, ⊎_elim, true≢false, arith, add-one, length-set}
use Rattle.std.proofs.Common.{get_or-set_same, get_or-set_other}
use Rattle.std.specs.Cmp.Lexicographic.{slice_cmp}
use Rattle.std.specs.FinMap.{nat_cmp-IsAntisymmetric, slice_cmp-IsAntisymmetric}
use Rattle.std.specs.Ordering.{ordering_reverse}
use Rattle.std.proofs.lemmas.Bool.{cases_eq, false_from_ne_true}
use Rattle.std.proofs.lemmas.Cmp.{nat_list_cmp_total, tied_itself, upto}
use Rattle.std.proofs.lemmas.List.Edits.{swap_is}
use Rattle.std.proofs.lemmas.List.Sorted.{IsPermutation-keeps}
use Rattle.term_values.specs.Rearranged.{may_precede, inserted, rising}

-- ---- the order is total, transitive and antisymmetric

not_after : (r s : Ordering) → r ≡ ordering_reverse s → not (is_gt r) ≡ false → not (is_gt s) ≡ true
not_after r Less e h = refl
not_after r Equal e h = refl
not_after r Greater e h = absurd (true≢false (sym (ap (λ t. not (is_gt t)) e) ∙ h))

tied : (r s : Ordering) → r ≡ ordering_reverse s → not (is_gt r) ≡ true → not (is_gt s) ≡ true → r ≡ Equal
tied r Less e h k = absurd (true≢false (sym h ∙ ap (λ t. not (is_gt t)) e))
tied r Equal e h k = e
tied r Greater e h k = absurd (true≢false (sym k))

pub not_before : (r s : Ordering) → r ≡ ordering_reverse s → is_lt s ≡ false → not (is_gt r) ≡ true
not_before r Less e h = absurd (true≢false h)
not_before r Equal e h = ap (λ t. not (is_gt t)) e
not_before r Greater e h = ap (λ t. not (is_gt t)) e

pub unless : (b : Bool) → not b ≡ true → b ≡ false
unless true h = sym h
unless false h = refl

pub may_precede_itself : (x : List ℕ) → may_precede x x ≡ true
may_precede_itself x = ap (λ t. not (is_gt t)) (tied_itself nat_list_cmp_total x)

pub may_precede_back : (x y : List ℕ) → may_precede x y ≡ false → may_precede y x ≡ true
may_precede_back x y = not_after (slice_cmp nat_cmp x y) (slice_cmp nat_cmp y x) (nat_list_cmp_total.antisymm x y)

pub may_precede_both : (x y : List ℕ) → may_precede x y ≡ true → may_precede y x ≡ true → x ≡ y
may_precede_both x y h k = slice_cmp-IsAntisymmetric nat_cmp-IsAntisymmetric x y (tied (slice_cmp nat_cmp x y)
    (slice_cmp nat_cmp y x) (nat_list_cmp_total.antisymm x y) h k)

pub may_precede_through : (x y z : List ℕ) → may_precede x y ≡ true → may_precede y z ≡ true → may_precede x z ≡ true
may_precede_through x y z h k = ap not (upto nat_list_cmp_total x y z (unless (is_gt (slice_cmp nat_cmp x y)) h)
    (unless (is_gt (slice_cmp nat_cmp y z)) k))

comes_later : (x y z : List ℕ) → may_precede x z ≡ true → may_precede y z ≡ false → may_precede y x ≡ false
comes_later x y z h k = false_from_ne_true (may_precede y x) (λ e. true≢false (sym (may_precede_through y x z e h) ∙ k))

-- ---- two members may be inserted in either order

both_in_front : (b c : Bool) (x y : List ℕ) (zs : List (List ℕ)) → (b ≡ true → c ≡ true → x ≡ y) → (b ≡ false
    → c ≡ true)
    → cond b (x ∷ y ∷ zs) (y ∷ x ∷ zs) ≡ cond c (y ∷ x ∷ zs) (x ∷ y ∷ zs)
both_in_front true true x y zs same other = let e : x ≡ y = same refl refl in λ i. e i ∷ sym e i ∷ zs
both_in_front true false x y zs same other = refl
both_in_front false true x y zs same other = refl
both_in_front false false x y zs same other = absurd (true≢false (sym (other refl)))

one_in_front : (x y z : List ℕ) (zs : List (List ℕ)) → may_precede x z ≡ true → may_precede y z ≡ false
    → inserted x (z ∷ inserted y zs) ≡ inserted y (x ∷ z ∷ zs)
one_in_front x y z zs p q =
    let n = comes_later x y z p q in
    (λ i. cond (p i) (x ∷ z ∷ inserted y zs) (z ∷ inserted x (inserted y zs)))
    ∙ sym (λ i. cond (n i) (y ∷ x ∷ z ∷ zs) (x ∷ cond (q i) (y ∷ z ∷ zs) (z ∷ inserted y zs)))

inserted_both : (b c : Bool) (x y z : List ℕ) (zs : List (List ℕ)) → may_precede x z ≡ b → may_precede y z ≡ c
    → inserted x (inserted y zs) ≡ inserted y (inserted x zs)
    → inserted x (cond c (y ∷ z ∷ zs) (z ∷ inserted y zs)) ≡ inserted y (cond b (x ∷ z ∷ zs) (z ∷ inserted x zs))
inserted_both true true x y z zs p q later =
    (λ i. cond (may_precede x y) (x ∷ y ∷ z ∷ zs) (y ∷ cond (p i) (x ∷ z ∷ zs) (z ∷ inserted x zs)))
    ∙ both_in_front (may_precede x y) (may_precede y x) x y (z ∷ zs) (may_precede_both x y) (may_precede_back x y)
    ∙ sym (λ i. cond (may_precede y x) (y ∷ x ∷ z ∷ zs) (x ∷ cond (q i) (y ∷ z ∷ zs) (z ∷ inserted y zs)))
inserted_both true false x y z zs p q later = one_in_front x y z zs p q
inserted_both false true x y z zs p q later = sym (one_in_front y x z zs q p)
inserted_both false false x y z zs p q later =
    (λ i. cond (p i) (x ∷ z ∷ inserted y zs) (z ∷ later i))
    ∙ sym (λ i. cond (q i) (y ∷ z ∷ inserted x zs) (z ∷ inserted y (inserted x zs)))

pub inserted_swap : (x y : List ℕ) (zs : List (List ℕ)) → inserted x (inserted y zs) ≡ inserted y (inserted x zs)
inserted_swap x y [] = both_in_front (may_precede x y) (may_precede y x) x y [] (may_precede_both x y)
    (may_precede_back x y)
inserted_swap x y (z ∷ zs) = inserted_both (may_precede x z) (may_precede y z) x y z zs refl refl (inserted_swap x y zs)

-- ---- what was inserted can be taken out again

abbrev erased : List ℕ → List (List ℕ) → List (List ℕ)
erased x [] = []
erased x (z ∷ zs) = cond (may_precede x z) zs (z ∷ erased x zs)

erased_either : (b : Bool) (x z : List ℕ) (zs : List (List ℕ)) → may_precede x z ≡ b → erased x (inserted x zs) ≡ zs
    → erased x (cond b (x ∷ z ∷ zs) (z ∷ inserted x zs)) ≡ z ∷ zs
erased_either true x z zs p later = λ i. cond (may_precede_itself x i) (z ∷ zs) (x ∷ erased x (z ∷ zs))
erased_either false x z zs p later = λ i. cond (p i) (inserted x zs) (z ∷ later i)

erased_inserted : (x : List ℕ) (zs : List (List ℕ)) → erased x (inserted x zs) ≡ zs
erased_inserted x [] = λ i. cond (may_precede_itself x i) [] (x ∷ [])
erased_inserted x (z ∷ zs) = erased_either (may_precede x z) x z zs refl (erased_inserted x zs)

inserted_cancel : (x : List ℕ) (us vs : List (List ℕ)) → inserted x us ≡ inserted x vs → us ≡ vs
inserted_cancel x us vs e = sym (erased_inserted x us) ∙ ap (erased x) e ∙ erased_inserted x vs

-- ---- a list and its permutation have the same rising order

rising_set : (xs : List (List ℕ)) (i : ℕ) (v : List ℕ) → i < length xs
    → inserted (get_or xs i []) (rising (set xs i v)) ≡ inserted v (rising xs)
rising_set [] i v h = absurd (omega arith)
rising_set (z ∷ zs) zero v h = inserted_swap z v (rising zs)
rising_set (z ∷ zs) (suc i) v h =
    inserted_swap (get_or zs i []) z (rising (set zs i v)) ∙ ap (inserted z) (rising_set zs i v (omega arith))
    ∙ inserted_swap z v (rising zs)

rising_swap : (xs : List (List ℕ)) (i j : ℕ) → i < length xs → j < length xs → rising (swap xs i j) ≡ rising xs
rising_swap xs i j p q =
    let a : List ℕ = get_or xs i [] in
    let b : List ℕ = get_or xs j [] in
    let w : List (List ℕ) = set xs i b in
    let long : length w ≡ length xs = length-set xs i b in
    let read : get_or w j [] ≡ b = ⊎_elim (λ e. ap (λ n. get_or w n []) e
    ∙ get_or-set_same xs i b [] p) (λ n. get_or-set_other xs i j b [] n) (cases_eq j i) in
    ap rising (sym (swap_is xs i j [] p q))
    ∙ inserted_cancel b (rising (set w j a)) (rising xs) (ap (λ t. inserted t (rising (set w j a))) (sym read)
    ∙ rising_set w j a (omega arith) ∙ rising_set xs i b p)

pub rising_permuted : (xs ys : List (List ℕ)) → IsPermutation xs ys → rising ys ≡ rising xs
rising_permuted xs ys = IsPermutation-keeps xs (λ l. rising l
    ≡ rising xs) refl (λ l i j p q h. rising_swap l i j p q ∙ h) ys

-- ---- a sorted list is its own rising order

rising_in_order : (ys : List (List ℕ)) → ((k : ℕ) → suc k < length ys
    → may_precede (get_or ys k []) (get_or ys (suc k) []) ≡ true) → rising ys ≡ ys
rising_in_order [] h = refl
rising_in_order (y ∷ []) h = refl
rising_in_order (y ∷ z ∷ zs) h =
    ap (inserted y) (rising_in_order (z ∷ zs) (λ k p. h (suc k) (omega arith)))
    ∙ (λ i. cond (h 0 (omega arith) i) (y ∷ z ∷ zs) (z ∷ inserted y zs))

pub rising_sorted : (ys : List (List ℕ)) → IsSorted (slice_cmp nat_cmp) ys → rising ys ≡ ys
rising_sorted ys up = rising_in_order ys (λ k p.
    let x : List ℕ = get_or ys k [] in
    let y : List ℕ = get_or ys (k + 1) [] in
    subst (λ n. may_precede x (get_or ys n []) ≡ true) (add-one k) (not_before (slice_cmp nat_cmp x y)
    (slice_cmp nat_cmp y x) (nat_list_cmp_total.antisymm x y) (up k [] (omega arith) (omega arith))))

-- what `sort` makes of the members is their rising order
pub rising_is_sorted : (xs ys : List (List ℕ)) → IsPermutation xs ys → IsSorted (slice_cmp nat_cmp) ys → ys ≡ rising xs
rising_is_sorted xs ys moved up = sym (rising_sorted ys up) ∙ rising_permuted xs ys moved
