-- SketchLaws: a tree has one number, and a number is that of one tree.
use Rattle.std.proofs.Common.{◌≡◌, ◌≤◌, ◌++◌, ◌∷◌, [], ◌∙◌, ℕ, ℤ, pos, negsuc, suc, zero, List, Bool, true, false, Option, None, Some, append_assoc, arith, ap, length, refl, sym, true≢false}
use Rattle.std.proofs.Math.Path.{subst}
use Rattle.std.proofs.lemmas.Option.{slice_get_within}
use Rattle.std.specs.List.{slice_get}
use Rattle.term_values.specs.Sketch.{Sketch}
use Rattle.term_values.specs.Sketch.Sketch.{Leaf, Join}
use Rattle.key_numbers.specs.KeyNumbers.{IsSketchNumber, leaf_code, pairs_code, signed_code}
use Rattle.key_numbers.specs.KeyNumbers.IsSketchNumber.{leaf, join}
use Rattle.key_numbers.specs.NumberedLists.{AreOnce, Grows, IsList, Row}
use Rattle.key_numbers.proofs.ListLaws.{list_grows, one_list, one_number}

-- ---- codes tell what they are of

abbrev head_of : List ℕ → ℕ
head_of [] = 0
head_of (x ∷ xs) = x

abbrev rest_of : List ℕ → List ℕ
rest_of [] = []
rest_of (x ∷ xs) = xs

abbrev one_less : ℕ → ℕ
one_less zero = 0
one_less (suc n) = n

zero_one : ◌≡◌ {A = ℕ} 0 1 → ⊥
zero_one h = omega (arith, h)

signed_apart : (a b : ℤ) (xs ys : List ℕ) → signed_code a ++ xs ≡ signed_code b ++ ys → (a ≡ b) × (xs ≡ ys)
signed_apart (pos n) (pos m) xs ys h = (ap (λ l. pos (head_of (rest_of l))) h, ap (λ l. rest_of (rest_of l)) h)
signed_apart (pos n) (negsuc m) xs ys h = absurd (zero_one (ap head_of h))
signed_apart (negsuc n) (pos m) xs ys h = absurd (zero_one (sym (ap head_of h)))
signed_apart (negsuc n) (negsuc m) xs ys h =
    (ap (λ l. negsuc (one_less (head_of (rest_of l)))) h, ap (λ l. rest_of (rest_of l)) h)

nil_cons : (x : ℕ) (xs : List ℕ) → [] ≡ x ∷ xs → ⊥
nil_cons x xs h = absurd (cc)

nil_pair : (a b : ℤ) (ys : List ℕ) → [] ≡ (signed_code a ++ signed_code b) ++ ys → ⊥
nil_pair (pos n) b ys h = nil_cons _ _ h
nil_pair (negsuc n) b ys h = nil_cons _ _ h

pairs_apart : (ps qs : List (ℤ × ℤ)) → pairs_code ps ≡ pairs_code qs → ps ≡ qs
pairs_apart [] [] h = refl
pairs_apart [] (q ∷ qs) h = absurd (nil_pair q.0 q.1 (pairs_code qs) h)
pairs_apart (p ∷ ps) [] h = absurd (nil_pair p.0 p.1 (pairs_code ps) (sym h))
pairs_apart (p ∷ ps) (q ∷ qs) h =
    let first = signed_apart p.0 q.0 (signed_code p.1 ++ pairs_code ps) (signed_code q.1 ++ pairs_code qs)
    (sym (append_assoc (signed_code p.0) (signed_code p.1) (pairs_code ps)) ∙
    (h ∙ append_assoc (signed_code q.0) (signed_code q.1) (pairs_code qs))) in
    let second = signed_apart p.1 q.1 (pairs_code ps) (pairs_code qs) first.1 in
    let others = pairs_apart ps qs second.1 in λ i. (first.0 i, second.0 i) ∷ others i

append_apart : (xs ys us vs : List ℕ) → length xs ≡ length ys → xs ++ us ≡ ys ++ vs → (xs ≡ ys) × (us ≡ vs)
append_apart [] [] us vs n h = (refl, h)
append_apart [] (y ∷ ys) us vs n h = absurd (omega (arith, n))
append_apart (x ∷ xs) [] us vs n h = absurd (omega (arith, n))
append_apart (x ∷ xs) (y ∷ ys) us vs n h =
    let rest = append_apart xs ys us vs (omega (arith, n)) (ap rest_of h) in
    let front : x ≡ y = ap head_of h in ((λ i. front i ∷ rest.0 i), rest.1)

leaf_apart : (kind its_kind : ℕ) (octets its_octets : List ℕ) (pairs its_pairs : List (ℤ × ℤ)) →
    leaf_code kind octets pairs ≡ leaf_code its_kind its_octets its_pairs →
    Leaf kind octets pairs ≡ Leaf its_kind its_octets its_pairs
leaf_apart kind its_kind octets its_octets pairs its_pairs h =
    let kinds : kind ≡ its_kind = ap head_of h in
    let sizes : length octets ≡ length its_octets = ap (λ l. head_of (rest_of l)) h in
    let parts = append_apart octets its_octets (pairs_code pairs) (pairs_code its_pairs) sizes
    (ap (λ l. rest_of (rest_of l)) h) in
    let same = pairs_apart pairs its_pairs parts.1 in λ i. Leaf (kinds i) (parts.0 i) (same i)

-- ---- trees by their numbers

abbrev code_of : Sketch → List ℕ
code_of (Leaf kind octets pairs) = leaf_code kind octets pairs
code_of (Join kind one other) = []

abbrev is_leaf : Sketch → Bool
is_leaf (Leaf kind octets pairs) = true
is_leaf (Join kind one other) = false

abbrev kind_of : Sketch → ℕ
kind_of (Leaf kind octets pairs) = kind
kind_of (Join kind one other) = kind

abbrev left_of : Sketch → Sketch
left_of (Leaf kind octets pairs) = Leaf 0 [] []
left_of (Join kind one other) = one

abbrev right_of : Sketch → Sketch
right_of (Leaf kind octets pairs) = Leaf 0 [] []
right_of (Join kind one other) = other

pub one_sketch_number : {row : Row} {n m : ℕ} {a b : Sketch} → AreOnce row → IsSketchNumber row a n →
    IsSketchNumber row b m → a ≡ b → n ≡ m
one_sketch_number {row = row} once (leaf {k = k} {list = list} is h) (leaf {k = j} {list = other} its g) e =
    let same = one_number once h g (ap code_of e) in
    ap suc (once k j (1, list, 0) is (subst (λ z. slice_get row j ≡ Some (1, z, 0)) (sym same) its))
one_sketch_number once (leaf is h) (join its g i) e = absurd (true≢false (ap is_leaf e))
one_sketch_number once (join is h i) (leaf its g) e = absurd (true≢false (sym (ap is_leaf e)))
one_sketch_number {row = row} once (join {kind = kind} {k = k} {x = x} {y = y} is h i)
    (join {kind = its_kind} {k = j} {x = u} {y = v} its f g) e =
    let lefts = one_sketch_number once h f (ap left_of e) in
    let rights = one_sketch_number once i g (ap right_of e) in
    let kinds : kind ≡ its_kind = ap kind_of e in
    ap suc (once k j (suc (suc kind), x, y) is (subst (λ p. slice_get row j ≡ Some p)
    (λ i. (suc (suc (sym kinds i)), sym lefts i, sym rights i)) its))

abbrev three_of : Option (ℕ × ℕ × ℕ) → ℕ × ℕ × ℕ
three_of None = (0, 0, 0)
three_of (Some x) = x

-- what stands at one place
same_three : (row : Row) (k j : ℕ) (x y : ℕ × ℕ × ℕ) → suc k ≡ suc j → slice_get row k ≡ Some x →
    slice_get row j ≡ Some y → x ≡ y
same_three row k j x y e h g = ap three_of (sym h ∙ (ap (slice_get row) (omega (arith, e)) ∙ g))

first_part : (x y : ℕ × ℕ × ℕ) → x ≡ y → x.0 ≡ y.0
first_part x y h = ap (λ (z : ℕ × ℕ × ℕ). z.0) h

second_part : (x y : ℕ × ℕ × ℕ) → x ≡ y → x.1 ≡ y.1
second_part x y h = ap (λ (z : ℕ × ℕ × ℕ). z.1) h

third_part : (x y : ℕ × ℕ × ℕ) → x ≡ y → x.2 ≡ y.2
third_part x y h = ap (λ (z : ℕ × ℕ × ℕ). z.2) h

leaf_or_join : (kind : ℕ) → 1 ≡ suc (suc kind) → ⊥
leaf_or_join kind h = omega (arith, h)

same_kind : (a b : ℕ) → suc (suc a) ≡ suc (suc b) → a ≡ b
same_kind a b h = omega (arith, h)

pub one_sketch : {row : Row} {n m : ℕ} {a b : Sketch} → IsSketchNumber row a n → IsSketchNumber row b m → n ≡ m → a ≡ b
one_sketch {row = row}
    (leaf {kind = kind} {k = k} {list = list} {octets = octets} {pairs = pairs} is h)
    (leaf {kind = its_kind} {k = j} {list = other} {octets = its_octets} {pairs = its_pairs} its g) e =
    let same = second_part _ _ (same_three row k j (1, list, 0) (1, other, 0) e is its) in
    leaf_apart kind its_kind octets its_octets pairs its_pairs
    (one_list h (subst (λ z. IsList row z (leaf_code its_kind its_octets its_pairs)) (sym same) g))
one_sketch {row = row} (leaf {k = k} {list = list} is h) (join {kind = kind} {k = j} {x = u} {y = v} its f g) e =
    absurd (leaf_or_join kind (first_part _ _ (same_three row k j (1, list, 0) (suc (suc kind), u, v) e is its)))
one_sketch {row = row} (join {kind = kind} {k = k} {x = x} {y = y} is h i) (leaf {k = j} {list = list} its g) e =
    absurd (leaf_or_join kind
    (sym (first_part _ _ (same_three row k j (suc (suc kind), x, y) (1, list, 0) e is its))))
one_sketch {row = row} (join {kind = kind} {k = k} {x = x} {y = y} is h i)
    (join {kind = its_kind} {k = j} {x = u} {y = v} its f g) e =
    let same = same_three row k j (suc (suc kind), x, y) (suc (suc its_kind), u, v) e is its in
    let kinds = same_kind kind its_kind (first_part _ _ same) in
    let lefts = one_sketch h f (second_part _ _ same) in
    let rights = one_sketch i g (third_part _ _ same) in λ i. Join (kinds i) (lefts i) (rights i)

pub sketch_grows : {before after : Row} {n : ℕ} {x : Sketch} → Grows before after → IsSketchNumber before x n →
    IsSketchNumber after x n
sketch_grows g (leaf {k = k} {list = list} is h) = leaf (g k (1, list, 0) is) (list_grows g h)
sketch_grows g (join {kind = kind} {k = k} {x = x} {y = y} is h i) =
    join (g k (suc (suc kind), x, y) is) (sketch_grows g h) (sketch_grows g i)

-- what has a number stands within the row
pub sketch_within : (row : Row) (n : ℕ) (x : Sketch) → IsSketchNumber row x n → n ≤ length row
sketch_within row n x (leaf {k = k} {list = list} is h) =
    let below = slice_get_within row k (1, list, 0) is in omega (arith, below)
sketch_within row n x (join {kind = kind} {k = k} {x = u} {y = v} is h i) =
    let below = slice_get_within row k (suc (suc kind), u, v) is in omega (arith, below)
