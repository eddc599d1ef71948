-- Contents octets of identifiers are read as what they were written for: X.690, section 8.19.
use Rattle.std.specs.Prelude.{◌≡◌, ℕ, zero, suc, ◌+◌, ◌-◌, ◌*◌, ◌/◌, ◌%◌, ◌^◌, ◌<◌, ◌≤◌, ◌==◌, ◌&&◌, ◌||◌, List, []}
use Rattle.std.specs.Prelude.{◌∷◌, ◌++◌, Bool, true, false, IsTrue, All, Option, None, Some, nat_lt, nat_le, flat_map}
use Rattle.std.specs.Prelude.{length, if◌then◌else◌, refl}
use Rattle.std.proofs.Common.{arith, ap, ◌∙◌, sym, eqb-true, eq-eqb, leb-true}
use Rattle.std.specs.Prelude.{◌⊎◌}
use Rattle.std.specs.Cmp.Lexicographic.{pointwise}
use Rattle.std.specs.List.{list_all}
use Rattle.std.proofs.Common.{inl, inr, subst, get_or}
use Rattle.std.proofs.lemmas.List.Elements.{All-from_get_or}
use Rattle.std.proofs.lemmas.Bool.{lt-ltb, ltb-true, le-ltb}
use Rattle.term_values.specs.Oid.{groups, subidentifier, numbers_in, oid_contents, oid_in, arcs_of, is_oid, is_arc}
use Rattle.term_values.specs.Oid.{begins}

-- one group: the last one of its number
last_group : (begun octet : ℕ) (rest : List ℕ) → octet < 128
    → numbers_in begun (octet ∷ rest) ≡ (begun * 128 + octet % 128) ∷ numbers_in 0 rest
last_group begun octet rest low = rw (lt-ltb octet 128 low) refl

-- one group: more follow
more_groups : (begun octet : ℕ) (rest : List ℕ) → 128 ≤ octet
    → numbers_in begun (octet ∷ rest) ≡ numbers_in (begun * 128 + octet % 128) rest
more_groups begun octet rest high = rw (le-ltb octet 128 high) refl

-- a group with which the number goes on
next_group : (begun x : ℕ) (rest : List ℕ) → x < 128
    → numbers_in begun ((128 + x) ∷ rest) ≡ numbers_in (begun * 128 + x) rest
next_group begun x rest low =
    let same : begun * 128 + (128 + x) % 128 ≡ begun * 128 + x = omega arith in
    more_groups begun (128 + x) rest (omega arith) ∙ ap (λ k. numbers_in k rest) same

-- the last group of a number
final_group : (begun n whole : ℕ) (rest : List ℕ) → begun * 128 + n % 128 ≡ whole
    → numbers_in begun (n % 128 ∷ rest) ≡ whole ∷ numbers_in 0 rest
final_group begun n whole rest same =
    let once : begun * 128 + n % 128 % 128 ≡ whole = omega arith in
    last_group begun (n % 128) rest (omega arith) ∙ ap (λ k. k ∷ numbers_in 0 rest) once

one_group : (n : ℕ) (rest : List ℕ) → n < 128 → numbers_in 0 (groups 0 n ++ rest) ≡ n ∷ numbers_in 0 rest
one_group n rest small = final_group 0 n n rest (omega arith)

two_groups : (n : ℕ) (rest : List ℕ) → n < 16384 → numbers_in 0 (groups 1 n ++ rest) ≡ n ∷ numbers_in 0 rest
two_groups n rest small =
    next_group 0 (n / 128 % 128) (n % 128 ∷ rest) (omega arith)
    ∙ final_group (0 * 128 + n / 128 % 128) n n rest (omega arith)

three_groups : (n : ℕ) (rest : List ℕ) → n < 2097152 → numbers_in 0 (groups 2 n ++ rest) ≡ n ∷ numbers_in 0 rest
three_groups n rest small =
    next_group 0 (n / 16384 % 128) ((128 + n / 128 % 128) ∷ n % 128 ∷ rest) (omega arith)
    ∙ (next_group (0 * 128 + n / 16384 % 128) (n / 128 % 128) (n % 128 ∷ rest) (omega arith)
    ∙ final_group ((0 * 128 + n / 16384 % 128) * 128 + n / 128 % 128) n n rest (omega arith))

four_groups : (n : ℕ) (rest : List ℕ) → n < 268435456 → numbers_in 0 (groups 3 n ++ rest) ≡ n ∷ numbers_in 0 rest
four_groups n rest small =
    next_group 0 (n / 2097152 % 128) ((128 + n / 16384 % 128) ∷ (128 + n / 128 % 128) ∷ n % 128 ∷ rest) (omega arith)
    ∙ (next_group (0 * 128 + n / 2097152 % 128) (n / 16384 % 128) ((128 + n / 128 % 128) ∷ n % 128 ∷ rest) (omega arith)
    ∙ (next_group ((0 * 128 + n / 2097152 % 128) * 128 + n / 16384 % 128) (n / 128 % 128) (n % 128 ∷ rest) (omega arith)
    ∙ final_group (((0 * 128 + n / 2097152 % 128) * 128 + n / 16384 % 128) * 128 + n / 128 % 128) n n rest
    (omega arith)))

five_groups : (n : ℕ) (rest : List ℕ) → n < 34359738368 → numbers_in 0 (groups 4 n ++ rest) ≡ n ∷ numbers_in 0 rest
five_groups n rest small =
    next_group 0 (n / 268435456 % 128)
    ((128 + n / 2097152 % 128) ∷ (128 + n / 16384 % 128) ∷ (128 + n / 128 % 128) ∷ n % 128 ∷ rest) (omega arith)
    ∙ (next_group (0 * 128 + n / 268435456 % 128) (n / 2097152 % 128)
    ((128 + n / 16384 % 128) ∷ (128 + n / 128 % 128) ∷ n % 128 ∷ rest) (omega arith)
    ∙ (next_group ((0 * 128 + n / 268435456 % 128) * 128 + n / 2097152 % 128) (n / 16384 % 128)
    ((128 + n / 128 % 128) ∷ n % 128 ∷ rest) (omega arith)
    ∙ (next_group (((0 * 128 + n / 268435456 % 128) * 128 + n / 2097152 % 128) * 128 + n / 16384 % 128) (n / 128 % 128)
    (n % 128 ∷ rest) (omega arith)
    ∙ final_group ((((0 * 128 + n / 268435456 % 128) * 128 + n / 2097152 % 128) * 128 + n / 16384 % 128) * 128 + n / 128
    % 128) n n rest (omega arith))))

-- what a choice gives, by how its test went
chosen : {T : Type 0} (P : T → Type 0) (b : Bool) (x y : T) → (b ≡ true → P x) → (b ≡ false → P y)
    → P (if b then x else y)
chosen P true x y holds fails = holds refl
chosen P false x y holds fails = fails refl

-- a subidentifier is read as its number, whatever follows it
pub subidentifier_read : (n : ℕ) (rest : List ℕ) → n < 2 ^ 32
    → numbers_in 0 (subidentifier n ++ rest) ≡ n ∷ numbers_in 0 rest
unfolding subidentifier
subidentifier_read n rest small =
    let Reads : ℕ → Type 0 = λ more. numbers_in 0 (groups more n ++ rest) ≡ n ∷ numbers_in 0 rest in
    chosen Reads (nat_lt n 128) 0 _ (λ t. one_group n rest (ltb-true n 128 t)) (λ _.
    chosen Reads (nat_lt n 16384) 1 _ (λ t. two_groups n rest (ltb-true n 16384 t)) (λ _.
    chosen Reads (nat_lt n 2097152) 2 _ (λ t. three_groups n rest (ltb-true n 2097152 t)) (λ _.
    chosen Reads (nat_lt n 268435456) 3 4 (λ t. four_groups n rest (ltb-true n 268435456 t))
    (λ _. five_groups n rest (omega arith)))))

either : (a b : Bool) → (a || b) ≡ true → (a ≡ true) ⊎ (b ≡ true)
either true b e = inl refl
either false b e = inr e

both : (a b : Bool) → (a && b) ≡ true → (a ≡ true) × (b ≡ true)
both true b e = (refl, e)
both false b e = absurd (cc)

-- how an identifier begins
begun : (first second : ℕ) → begins first second ≡ true → ((first < 2) × (second < 40))
    ⊎ ((first ≡ 2) × (second ≤ 4294967215))
begun first second e =
    elim (either (nat_lt first 2 && nat_lt second 40) (first == 2 && nat_le second 4294967215) e) [
      | inl h ↦ let t = both (nat_lt first 2) (nat_lt second 40) h in inl (ltb-true first 2 t.0, ltb-true second 40 t.1)
      | inr h ↦ let t = both (first == 2) (nat_le second 4294967215) h in
          inr (eqb-true first 2 t.0, leb-true second 4294967215 t.1)
    ]

low : (n : ℕ) (others : List ℕ) → n < 40 → arcs_of (n ∷ others) ≡ 0 ∷ n ∷ others
low n others h = rw (lt-ltb n 40 h) refl

middle : (n : ℕ) (others : List ℕ) → 40 ≤ n → n < 80 → arcs_of (n ∷ others) ≡ 1 ∷ (n - 40) ∷ others
middle n others h k = rw (le-ltb n 40 h, lt-ltb n 80 k) refl

high : (n : ℕ) (others : List ℕ) → 80 ≤ n → arcs_of (n ∷ others) ≡ 2 ∷ (n - 80) ∷ others
high n others h =
    let past : nat_lt n 40 ≡ false = le-ltb n 40 (omega arith) in
    rw (past, le-ltb n 80 h) refl

-- the first number is below 2 ^ 32, and gives the first two arcs
abbrev Gives : ℕ → ℕ → List ℕ → Type 0
Gives first second others =
    (first * 40 + second < 2 ^ 32) × (arcs_of ((first * 40 + second) ∷ others) ≡ first ∷ second ∷ others)

small_first : (first second : ℕ) (others : List ℕ) → first < 2 → second < 40 → Gives first second others
small_first zero second others h k =
    let same : 0 * 40 + second ≡ second = omega arith in
    (omega arith, low (0 * 40 + second) others (omega arith) ∙ ap (λ n. 0 ∷ n ∷ others) same)
small_first (suc zero) second others h k =
    let same : 1 * 40 + second - 40 ≡ second = omega arith in
    (omega arith, middle (1 * 40 + second) others (omega arith) (omega arith) ∙ ap (λ n. 1 ∷ n ∷ others) same)
small_first (suc (suc first)) second others h k = absurd (omega arith)

great_first : (first second : ℕ) (others : List ℕ) → first ≡ 2 → second ≤ 4294967215 → Gives first second others
great_first first second others e k =
    let same : first * 40 + second - 80 ≡ second = omega arith in (
      omega arith,
      high (first * 40 + second) others (omega arith)
          ∙ (ap (λ n. 2 ∷ n ∷ others) same ∙ ap (λ n. n ∷ second ∷ others) (sym e)),
    )

first_number : (first second : ℕ) (others : List ℕ) → ((first < 2) × (second < 40))
    ⊎ ((first ≡ 2) × (second ≤ 4294967215)) → Gives first second others
first_number first second others (inl t) = small_first first second others t.0 t.1
first_number first second others (inr t) = great_first first second others t.0 t.1

numbers_of_all : (others : List ℕ) → list_all is_arc others ≡ true
    → numbers_in 0 (flat_map subidentifier others) ≡ others
numbers_of_all [] e = refl
numbers_of_all (n ∷ others) e =
    let t = both (is_arc n) (list_all is_arc others) e in
    subidentifier_read n (flat_map subidentifier others) (ltb-true n (2 ^ 32) t.0)
    ∙ ap (λ ns. n ∷ ns) (numbers_of_all others t.1)

same_octets : (xs : List ℕ) → pointwise ◌==◌ xs xs ≡ true
same_octets [] = refl
same_octets (x ∷ xs) = rw (eq-eqb x x refl, same_octets xs) refl

octets_same : (xs ys : List ℕ) → pointwise ◌==◌ xs ys ≡ true → xs ≡ ys
octets_same [] [] e = refl
octets_same [] (y ∷ ys) e = absurd (cc)
octets_same (x ∷ xs) [] e = absurd (cc)
octets_same (x ∷ xs) (y ∷ ys) e =
    let t = both (x == y) (pointwise ◌==◌ xs ys) e in
    let head = eqb-true x y t.0 in
    let tail = octets_same xs ys t.1 in
    cc

abbrev tested : List ℕ → List ℕ → Option (List ℕ)
tested contents arcs = if is_oid arcs && (list_all is_arc arcs && pointwise ◌==◌ (oid_contents arcs) contents) then Some
    arcs else None

picked : (contents found arcs : List ℕ) → found ≡ arcs → is_oid arcs ≡ true → list_all is_arc arcs ≡ true
    → oid_contents arcs ≡ contents → tested contents found ≡ Some arcs
picked contents found arcs same e h spelt =
    let written : pointwise ◌==◌ (oid_contents arcs) contents ≡ true =
    ap (λ xs. pointwise ◌==◌ (oid_contents arcs) xs) (sym spelt) ∙ same_octets (oid_contents arcs) in
    ap (tested contents) same ∙ rw (e, h, written) refl

taken_apart : (contents found arcs : List ℕ) → tested contents found ≡ Some arcs → (is_oid arcs ≡ true)
    × (list_all is_arc arcs ≡ true) × (oid_contents arcs ≡ contents)
taken_apart contents found arcs e =
    let Parts : List ℕ → Type 0 = λ xs. (is_oid xs ≡ true) × (list_all is_arc xs ≡ true)
    × (oid_contents xs ≡ contents) in
    let P : Option (List ℕ) → Type 0 = λ answer. answer ≡ Some arcs → Parts arcs in
    chosen P (is_oid found && (list_all is_arc found && pointwise ◌==◌ (oid_contents found) contents)) (Some found) None
    (λ t same.
    let one = both (is_oid found) (list_all is_arc found && pointwise ◌==◌ (oid_contents found) contents) t in
    let two = both (list_all is_arc found) (pointwise ◌==◌ (oid_contents found) contents) one.1 in
    let is : found ≡ arcs = cc in
    subst Parts is (one.0, two.0, octets_same (oid_contents found) contents two.1))
    (λ _ same. absurd (cc)) e

-- what was written for an identifier denotes it
pub oid_read : (arcs : List ℕ) → is_oid arcs ≡ true → list_all is_arc arcs ≡ true
    → oid_in (oid_contents arcs) ≡ Some arcs
unfolding oid_in
oid_read [] e h = absurd (cc)
oid_read (first ∷ []) e h = absurd (cc)
oid_read (first ∷ second ∷ others) e h =
    let begins_so = both (nat_le (length others) 62) (begins first second) e in
    let parts = first_number first second others (begun first second begins_so.1) in
    let rest_fits = both (is_arc second) (list_all is_arc others)
    (both (is_arc first) (is_arc second && list_all is_arc others) h).1 in
    let numbers : numbers_in 0 (oid_contents (first ∷ second ∷ others)) ≡ (first * 40 + second) ∷ others =
    subidentifier_read (first * 40 + second) (flat_map subidentifier others) parts.0
    ∙ ap (λ ns. (first * 40 + second) ∷ ns) (numbers_of_all others rest_fits.1) in
    let read : arcs_of (numbers_in 0 (oid_contents (first ∷ second ∷ others))) ≡ first ∷ second ∷ others =
    ap arcs_of numbers ∙ parts.1 in
    picked (oid_contents (first ∷ second ∷ others)) (arcs_of (numbers_in 0 (oid_contents (first ∷ second ∷ others))))
    (first ∷ second ∷ others) read e h refl

-- octets that denote an identifier are what is written for it
pub oid_spelt : (contents arcs : List ℕ) → oid_in contents ≡ Some arcs → (is_oid arcs ≡ true)
    × (list_all is_arc arcs ≡ true) × (oid_contents arcs ≡ contents)
unfolding oid_in
oid_spelt contents arcs e = taken_apart contents (arcs_of (numbers_in 0 contents)) arcs e

-- numbers below 2 ^ 32 are arcs
pub all_arcs : (xs : List ℕ) → ((k : ℕ) → get_or xs k 0 < 2 ^ 32) → list_all is_arc xs ≡ true
all_arcs [] below = refl
all_arcs (x ∷ xs) below = rw (lt-ltb x (2 ^ 32) (below 0), all_arcs xs (λ k. below (suc k))) refl

-- arcs are numbers below 2 ^ 32
pub arcs_below : (xs : List ℕ) → list_all is_arc xs ≡ true → All (λ x. x < 2 ^ 32) xs
arcs_below xs e = All-from_get_or (λ x. x < 2 ^ 32) xs 0 (λ i h. below xs e i)
  where
    below : (ys : List ℕ) → list_all is_arc ys ≡ true → (i : ℕ) → get_or ys i 0 < 2 ^ 32
    below [] h i = omega arith
    below (y ∷ ys) h zero = ltb-true y (2 ^ 32) (both (is_arc y) (list_all is_arc ys) h).0
    below (y ∷ ys) h (suc i) = below ys (both (is_arc y) (list_all is_arc ys) h).1 i

nothing_or : (answer : Option (List ℕ)) → (answer ≡ None) ⊎ ((arcs : List ℕ) × (answer ≡ Some arcs))
nothing_or None = inl refl
nothing_or (Some arcs) = inr (arcs, refl)

-- octets that are not what is written for an identifier denote none
pub none_denoted : (contents : List ℕ)
    → ((arcs : List ℕ) → IsTrue (is_oid arcs) → All (λ arc. arc < 2 ^ 32) arcs → contents ≡ oid_contents arcs → ⊥)
    → None ≡ oid_in contents
none_denoted contents never =
    elim (nothing_or (oid_in contents)) [
      | inl e ↦ sym e
      | inr found ↦ let parts =
          oid_spelt contents found.0 found.1 in
          absurd (never found.0 parts.0 (arcs_below found.0 parts.1) (sym parts.2))
    ]
