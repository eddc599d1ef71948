-- PlaceLaws: the places of assignments in their modules, by their numbers (X.680, section 13.1).
use Rattle.std.specs.Prelude.{◌≡◌, ◌<◌, ◌+◌, ℕ, zero, suc, List, [], ◌∷◌, ◌++◌, Some, length, map, slice_get}
use Rattle.std.proofs.Common.{ap, arith, sym, take, ◌∙◌}
use Rattle.std.proofs.lemmas.List.{append-nil, append_assoc, map-append}
use Rattle.std.proofs.lemmas.Option.{same_Some}
use Rattle.asn1_syntax.specs.declared.module.Assignment.{Assignment}
use Rattle.asn1_syntax.specs.declared.module.Module.{Module}
use Rattle.asn1_names.specs.AssignmentNumbers.{Numbered, all_numbered, numbered_from}
use Rattle.asn1_names.specs.TermViews.{assignment_term, module_term}
use Rattle.gdmo_linking.specs.Linkers.{place_of}

-- the places of the first assignments of a module, the first of which has the place i
abbrev pub own_places : ℕ → ℕ → List Assignment → List (ℕ × ℕ)
own_places m i xs = map place_of (numbered_from m i (map assignment_term xs))

own_suc : (m i n k : ℕ) (xs : List Assignment) → n < length xs → k ≡ i + n →
    own_places m i (take (suc n) xs) ≡ own_places m i (take n xs) ++ (m, k) ∷ []
own_suc m i n k [] less is = absurd (omega (arith, less))
own_suc m i zero k (x ∷ xs) less is = ap (λ j. (m, j) ∷ []) (omega (arith, is))
own_suc m i (suc n) k (x ∷ xs) less is =
    ap (λ ys. (m, i) ∷ ys) (own_suc m (i + 1) n k xs (omega (arith, less)) (omega (arith, is)))

next : (n : ℕ) → n + 1 ≡ suc n
next n = omega arith

-- one assignment more
pub own_more : (m i n k : ℕ) (xs : List Assignment) → n < length xs → k ≡ i + n →
    own_places m i (take (n + 1) xs) ≡ own_places m i (take n xs) ++ (m, k) ∷ []
own_more m i n k xs less is = ap (λ j. own_places m i (take j xs)) (next n) ∙ own_suc m i n k xs less is

-- the places of the assignments of modules, the first of which has the place m
abbrev pub all_places : ℕ → List Module → List (ℕ × ℕ)
all_places m xs = map place_of (all_numbered m (map module_term xs))

places_append : (xs ys : List Numbered) → map place_of (xs ++ ys) ≡ map place_of xs ++ map place_of ys
places_append xs ys = map-append place_of xs ys

all_suc : (m n k : ℕ) (xs : List Module) (x : Module) → slice_get xs n ≡ Some x → k ≡ m + n →
    all_places m (take (suc n) xs) ≡ all_places m (take n xs) ++ own_places k 0 x.assignments.items
all_suc m n k [] x at is = absurd (cc)
all_suc m zero k (y ∷ xs) x at is =
    places_append (numbered_from m 0 (map assignment_term y.assignments.items)) [] ∙
    append-nil (own_places m 0 y.assignments.items) ∙
    ap (λ j. own_places j 0 y.assignments.items) (omega (arith, is)) ∙
    ap (λ z. own_places k 0 z.assignments.items) (same_Some y x at)
all_suc m (suc n) k (y ∷ xs) x at is =
    let own = numbered_from m 0 (map assignment_term y.assignments.items) in
    let before = all_numbered (m + 1) (map module_term (take n xs)) in
    places_append own (all_numbered (m + 1) (map module_term (take (suc n) xs))) ∙
    ap (λ ys. map place_of own ++ ys) (all_suc (m + 1) n k xs x at (omega (arith, is))) ∙
    sym (append_assoc (map place_of own) (map place_of before) (own_places k 0 x.assignments.items)) ∙
    ap (λ ys. ys ++ own_places k 0 x.assignments.items) (sym (places_append own before))

-- one module more
pub all_more : (m n k : ℕ) (xs : List Module) (x : Module) → slice_get xs n ≡ Some x → k ≡ m + n →
    all_places m (take (n + 1) xs) ≡ all_places m (take n xs) ++ own_places k 0 x.assignments.items
all_more m n k xs x at is = ap (λ j. all_places m (take j xs)) (next n) ∙ all_suc m n k xs x at is
