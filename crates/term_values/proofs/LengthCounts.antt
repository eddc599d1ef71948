-- Sums of lengths that are kept within 64 bits.
use Rattle.std.proofs.Common.{◌≡◌, ℕ, ◌+◌, ◌≤◌, ◌<◌, List, [], ◌∷◌, ◌++◌, length, ap, ◌∙◌, refl, arith, ⊎_elim}
use Rattle.std.proofs.Common.{length-append, Bool, true, false, cond, drop, flat_map}
use Rattle.std.proofs.lemmas.Bool.{cases_lt, lt-ltb, le-ltb}
use Rattle.term_values.specs.Lengths.{counted, octet_count}
use Rattle.std.proofs.lemmas.List.{length-map}
use Rattle.std.specs.Prelude.{pos, negsuc, ◌-◌}
use Rattle.term_values.proofs.NumberLaws.{length-octets}
use Rattle.term_values.specs.Der.{length_octets}
use Rattle.term_values.specs.Rearranged.{joined, inserted, rising, may_precede}
use Rattle.term_values.specs.Oid.{subidentifier}
use Rattle.term_values.specs.Octets.{octets, count_signed, count_unsigned, integer_contents}

-- a header, and contents that may be longer than 64 bits say
pub header_counts : (identifier octets : List ℕ) (a b contents : ℕ) → contents ≡ octet_count octets
    → a ≡ length identifier → b ≡ length (length_octets contents)
    → counted (counted (a + b) + contents) ≡ octet_count (identifier ++ (length_octets (length octets) ++ octets))
header_counts identifier octets a b contents e f g =
    let n = length octets in
    let l = length-append identifier (length_octets n ++ octets) in
    let m = length-append (length_octets n) octets in
    ⊎_elim
    (λ (h : n < 18446744073709551616).
    let same : contents ≡ n = omega arith in
    let k : b ≡ length (length_octets n) = g ∙ ap (λ c. length (length_octets c)) same in
    omega arith)
    (λ (h : 18446744073709551616 ≤ n). omega arith)
    (cases_lt n 18446744073709551616)

-- two stretches
pub both_count : (front back : List ℕ) (a b : ℕ) → a ≡ octet_count front → b ≡ octet_count back
    → counted (a + b) ≡ octet_count (front ++ back)
both_count front back a b e f = let l = length-append front back in omega arith

-- the octets of a length
pub short_length : (n : ℕ) → n < 128 → 1 ≡ length (length_octets n)
unfolding length_octets
short_length n h = rw (lt-ltb n 128 h) refl

pub long_length : (n k : ℕ) → 128 ≤ n → k ≡ count_unsigned n → 1 + k ≡ length (length_octets n)
unfolding length_octets
long_length n k h e =
    let l = length-octets (count_unsigned n) n in
    rw (le-ltb n 128 h) (omega arith)

-- the contents octets of a number
pub positive_count : (n k : ℕ) → k ≡ count_signed n → k ≤ 8 → k ≡ octet_count (integer_contents (pos n))
unfolding integer_contents
positive_count n k e h = let l = length-octets (count_signed n) n in omega arith

pub negative_count : (n k : ℕ) → k ≡ count_signed n → k ≤ 8 → k ≡ octet_count (integer_contents (negsuc n))
unfolding integer_contents
negative_count n k e h =
    let l = length-octets (count_signed n) n in
    let m = length-map (octets (count_signed n) n) (λ octet. 255 - octet) in
    omega arith

-- encodings in rising order are as long as in any other
length_inserted : (x : List ℕ) (ys : List (List ℕ))
    → length (joined (inserted x ys)) ≡ length x + length (joined ys)
length_inserted x [] = length-append x []
length_inserted x (y ∷ ys) = either (may_precede x y) (length_inserted x ys)
  where
    either : (c : Bool) → length (joined (inserted x ys)) ≡ length x + length (joined ys)
        → length (joined (cond c (x ∷ (y ∷ ys)) (y ∷ inserted x ys))) ≡ length x + length (y ++ joined ys)
    either true later = length-append x (y ++ joined ys)
    either false later =
        let e = length-append y (joined (inserted x ys)) in
        let f = length-append y (joined ys) in
        omega arith

pub length_rising : (xs : List (List ℕ)) → length (joined (rising xs)) ≡ length (joined xs)
length_rising [] = refl
length_rising (x ∷ xs) =
    let e = length_inserted x (rising xs) in
    let f = length_rising xs in
    let g = length-append x (joined xs) in
    omega arith

pub rising_counts : (xs : List (List ℕ)) → octet_count (joined (rising xs)) ≡ octet_count (joined xs)
rising_counts xs = ap counted (length_rising xs)

-- one arc more stands in front
pub arc_counts : (xs : List ℕ) (j x front back : ℕ) → drop j xs ≡ x ∷ drop (j + 1) xs
    → front ≡ length (subidentifier x) → front ≤ 5 → back ≡ octet_count (flat_map subidentifier (drop (j + 1) xs))
    → counted (front + back) ≡ octet_count (flat_map subidentifier (drop j xs))
arc_counts xs j x front back e f h b =
    let one : front ≡ octet_count (subidentifier x) = omega arith in
    rw e (both_count (subidentifier x) (flat_map subidentifier (drop (j + 1) xs)) front back one b)
