-- The least octets of an INTEGER of 64 bits, read and written: X.690, section 8.3.
use Rattle.std.proofs.Common.{◌≡◌, ℕ, zero, suc, ◌+◌, ◌-◌, ◌*◌, ◌/◌, ◌%◌, ◌^◌, ◌<◌, ◌≤◌, Bool, true, false, not, ◌&&◌}
use Rattle.std.proofs.Common.{◌==◌, nat_lt, nat_le, List, [], ◌∷◌, length, map, take, get_or, All, ℤ, pos, negsuc, ◌-ℤ◌}
use Rattle.std.proofs.Common.{FitsSigned, Fits, w8, to_z, of_z, Some, slice_get, sym, ap, ◌∙◌, refl, inl, inr, ◌⊎◌}
use Rattle.std.proofs.Common.{⊎_elim, arith, add-one, zero-add}
use Rattle.std.specs.Int.{w64}
use Rattle.std.proofs.lemmas.Bool.{lt-ltb, le-ltb, cases_lt, cases_Bool, ltb-true, ltb-false, leb-true, leb-false}
use Rattle.std.proofs.lemmas.Bool.{le-leb, lt-leb, false≢true}
use Rattle.std.proofs.lemmas.Bool.Decides.{nat_tests}
use Rattle.std.proofs.lemmas.Nat.{mul-add-lt}
use Rattle.std.proofs.lemmas.List.{length-map, get_or-map, get_or_default}
use Rattle.std.proofs.lemmas.Option.{slice_get_within, get_or_from_slice_get}
use Rattle.std.proofs.lemmas.Int.{to_z-of_z}
use Rattle.std.proofs.Math.Nat.{pow-le-pow_right, pow-suc}
use Rattle.term_values.specs.Octets.{number, octets, count_signed, integer_contents, integer_in}
use Rattle.term_values.proofs.NumberLaws.{number-below, length-octets, number-take_more, octets-number}
use Rattle.term_values.proofs.NumberLaws.{number-octets_all, tail_of}
use Rattle.term_values.specs.Octets.{are_least, octet_turned, signed_number}

-- the first nine bits do not show that an octet can be left out, for a value that is not negative
record IsLeast (xs : List ℕ) : Type 0 where
  some : 0 < length xs
  few : length xs ≤ 8
  positive : get_or xs 0 0 < 128
  least : 1 < length xs → 128 ≤ get_or xs 0 0 * 256 + get_or xs 1 0

count_is_1 : (n : ℕ) → n < 128 → count_signed n ≡ 1
count_is_1 n h = rw (lt-ltb n 128 h) refl

count_is_2 : (n : ℕ) → 128 ≤ n → n < 32768 → count_signed n ≡ 2
count_is_2 n l h = rw (le-ltb n 128 l, lt-ltb n 32768 h) refl

count_is_3 : (n : ℕ) → 32768 ≤ n → n < 8388608 → count_signed n ≡ 3
count_is_3 n l h = rw (le-ltb n 128 (omega arith), le-ltb n 32768 l, lt-ltb n 8388608 h) refl

count_is_4 : (n : ℕ) → 8388608 ≤ n → n < 2147483648 → count_signed n ≡ 4
count_is_4 n l h = rw (
  le-ltb n 128 (omega arith),
  le-ltb n 32768 (omega arith),
  le-ltb n 8388608 l,
  lt-ltb n 2147483648 h,
) refl

count_is_5 : (n : ℕ) → 2147483648 ≤ n → n < 549755813888 → count_signed n ≡ 5
count_is_5 n l h = rw (
  le-ltb n 128 (omega arith),
  le-ltb n 32768 (omega arith),
  le-ltb n 8388608 (omega arith),
  le-ltb n 2147483648 l,
  lt-ltb n 549755813888 h,
) refl

count_is_6 : (n : ℕ) → 549755813888 ≤ n → n < 140737488355328 → count_signed n ≡ 6
count_is_6 n l h = rw (
  le-ltb n 128 (omega arith),
  le-ltb n 32768 (omega arith),
  le-ltb n 8388608 (omega arith),
  le-ltb n 2147483648 (omega arith),
  le-ltb n 549755813888 l,
  lt-ltb n 140737488355328 h,
) refl

count_is_7 : (n : ℕ) → 140737488355328 ≤ n → n < 36028797018963968 → count_signed n ≡ 7
count_is_7 n l h = rw (
  le-ltb n 128 (omega arith),
  le-ltb n 32768 (omega arith),
  le-ltb n 8388608 (omega arith),
  le-ltb n 2147483648 (omega arith),
  le-ltb n 549755813888 (omega arith),
  le-ltb n 140737488355328 l,
  lt-ltb n 36028797018963968 h,
) refl

count_is_8 : (n : ℕ) → 36028797018963968 ≤ n → count_signed n ≡ 8
count_is_8 n l = rw (
  le-ltb n 128 (omega arith),
  le-ltb n 32768 (omega arith),
  le-ltb n 8388608 (omega arith),
  le-ltb n 2147483648 (omega arith),
  le-ltb n 549755813888 (omega arith),
  le-ltb n 140737488355328 (omega arith),
  le-ltb n 36028797018963968 l,
) refl

-- the octets are as many as the number that they stand for takes
count_of_least : (xs : List ℕ) → All (λ x. x < 256) xs → IsLeast xs → count_signed (number xs) ≡ length xs
count_of_least [] h l = absurd (let some = l.some in omega arith)
count_of_least (a ∷ []) h l = let p = l.positive in count_is_1 (number (a ∷ [])) (omega arith)
count_of_least (a ∷ b ∷ []) h l =
    let p = l.positive in let q = l.least (omega arith) in let b' : b < 256 = h 1 0 (omega arith) in
    count_is_2 (number (a ∷ b ∷ [])) (omega arith) (omega arith)
count_of_least (a ∷ b ∷ c ∷ []) h l =
    let p = l.positive in let q = l.least (omega arith) in let b' : b < 256 = h 1 0 (omega arith) in let c' : c < 256 =
    h 2 0 (omega arith) in
    count_is_3 (number (a ∷ b ∷ c ∷ [])) (omega arith) (omega arith)
count_of_least (a ∷ b ∷ c ∷ d ∷ []) h l =
    let p = l.positive in let q = l.least (omega arith) in let b' : b < 256 = h 1 0 (omega arith) in let c' : c < 256 =
    h 2 0 (omega arith) in let d' : d < 256 = h 3 0 (omega arith) in
    count_is_4 (number (a ∷ b ∷ c ∷ d ∷ [])) (omega arith) (omega arith)
count_of_least (a ∷ b ∷ c ∷ d ∷ e ∷ []) h l =
    let p = l.positive in let q = l.least (omega arith) in let b' : b < 256 = h 1 0 (omega arith) in let c' : c < 256 =
    h 2 0 (omega arith) in let d' : d < 256 = h 3 0 (omega arith) in let e' : e < 256 = h 4 0 (omega arith) in
    count_is_5 (number (a ∷ b ∷ c ∷ d ∷ e ∷ [])) (omega arith) (omega arith)
count_of_least (a ∷ b ∷ c ∷ d ∷ e ∷ f ∷ []) h l =
    let p = l.positive in let q = l.least (omega arith) in let b' : b < 256 = h 1 0 (omega arith) in let c' : c < 256 =
    h 2 0 (omega arith) in let d' : d < 256 = h 3 0 (omega arith) in let e' : e < 256 =
    h 4 0 (omega arith) in let f' : f < 256 = h 5 0 (omega arith) in
    count_is_6 (number (a ∷ b ∷ c ∷ d ∷ e ∷ f ∷ [])) (omega arith) (omega arith)
count_of_least (a ∷ b ∷ c ∷ d ∷ e ∷ f ∷ g ∷ []) h l =
    let p = l.positive in let q = l.least (omega arith) in let b' : b < 256 = h 1 0 (omega arith) in let c' : c < 256 =
    h 2 0 (omega arith) in let d' : d < 256 = h 3 0 (omega arith) in let e' : e < 256 =
    h 4 0 (omega arith) in let f' : f < 256 = h 5 0 (omega arith) in let g' : g < 256 = h 6 0 (omega arith) in
    count_is_7 (number (a ∷ b ∷ c ∷ d ∷ e ∷ f ∷ g ∷ [])) (omega arith) (omega arith)
count_of_least (a ∷ b ∷ c ∷ d ∷ e ∷ f ∷ g ∷ i ∷ []) h l =
    let p = l.positive in let q = l.least (omega arith) in
    count_is_8 (number (a ∷ b ∷ c ∷ d ∷ e ∷ f ∷ g ∷ i ∷ [])) (omega arith)
count_of_least (a ∷ b ∷ c ∷ d ∷ e ∷ f ∷ g ∷ i ∷ j ∷ others) h l = absurd (let few = l.few in omega arith)

least_octets : (xs : List ℕ) → All (λ x. x < 256) xs → IsLeast xs → octets (count_signed (number xs)) (number xs) ≡ xs
least_octets xs h l = ap (λ k. octets k (number xs)) (count_of_least xs h l) ∙ octets-number xs h

pub turned_below : (negative : Bool) (x : ℕ) → x < 256 → octet_turned negative x < 256
turned_below true x h = omega arith
turned_below false x h = h

pub turned_all : (negative : Bool) (xs : List ℕ) → All (λ x. x < 256) xs → (k d : ℕ)
    → k < length (map (octet_turned negative) xs) → get_or (map (octet_turned negative) xs) k d < 256
turned_all negative [] h k d i = absurd (omega arith)
turned_all negative (x ∷ xs) h zero d i = turned_below negative x (h 0 x (omega arith))
turned_all negative (x ∷ xs) h (suc k) d i = turned_all negative xs (tail_of x xs h) k d (omega arith)

-- eight octets are 64 bits
pub eight_octets : (i : ℕ) → i < 8 → 256 ^ i ≤ 72057594037927936
eight_octets i h = let e : 256 ^ i ≤ 256 ^ 7 =
    pow-le-pow_right {n = 256} (omega arith) {i = i} {j = 7} (omega arith) in e

pub turned_more : (negative : Bool) (xs : List ℕ) (i x : ℕ) → i < length xs → x ≡ octet_turned negative (get_or xs i 0)
    → number (take (i + 1) (map (octet_turned negative) xs)) ≡ number
    (take i (map (octet_turned negative) xs)) * 256 + x
turned_more negative xs i x h e =
    let fits : i < length (map (octet_turned negative) xs) = rw (length-map xs (octet_turned negative)) h in
    number-take_more (map (octet_turned negative) xs) i fits
    ∙ ap (λ y. number (take i (map (octet_turned negative) xs)) * 256 + y)
    (get_or-map (octet_turned negative) xs i 0 0 h ∙ sym e)

pub power_more : (i value x : ℕ) → value < 256 ^ i → x < 256 → value * 256 + x < 256 ^ (i + 1)
power_more i value x h l = let e : 256 ^ suc i ≡ 256 ^ i * 256 = pow-suc 256 i in rw (add-one i, e) (omega arith)

turned_twice : (xs : List ℕ) → All (λ x. x < 256) xs → map (octet_turned true) (map (octet_turned true) xs) ≡ xs
turned_twice [] h = refl
turned_twice (x ∷ xs) h =
    let top : x < 256 = h 0 x (omega arith) in
    let first : 255 - (255 - x) ≡ x = omega arith in
    let rest = turned_twice xs (tail_of x xs h) in
    cc

least_from : (a b : ℕ) → b < 256 → (not (a == 0 && nat_lt b 128) && not (a == 255 && nat_le 128 b)) ≡ true → a < 128
    → 128 ≤ a * 256 + b
least_from a b l e h = grind (arith, nat_tests)

least_from_turned : (a b : ℕ) → a < 256 → b < 256
    → (not (a == 0 && nat_lt b 128) && not (a == 255 && nat_le 128 b)) ≡ true → 128 ≤ a
    → 128 ≤ (255 - a) * 256 + (255 - b)
least_from_turned a b k l e h = grind (arith, nat_tests)

least_to : (a b : ℕ) → a < 128 → 128 ≤ a * 256 + b
    → (not (a == 0 && nat_lt b 128) && not (a == 255 && nat_le 128 b)) ≡ true
least_to a b h e = grind (arith, nat_tests)

least_to_turned : (a b : ℕ) → a < 128 → b < 256 → 128 ≤ a * 256 + b
    → (not ((255 - a) == 0 && nat_lt (255 - b) 128) && not ((255 - a) == 255 && nat_le 128 (255 - b))) ≡ true
least_to_turned a b h i e = grind (arith, nat_tests)

-- octets whose number the first nine bits keep in size
record Begins (xs : List ℕ) : Type 0 where
  first : ℕ
  positive : first < 128
  shape : (xs ≡ first ∷ [])
      ⊎ ((second : ℕ) × (others : List ℕ) × (xs ≡ first ∷ second ∷ others) × (second < 256)
      × (128 ≤ first * 256 + second))

begins_at : (k n a b : ℕ) (others : List ℕ) → count_signed n ≡ k → octets k n ≡ a ∷ b ∷ others → a < 128 → b < 256
    → 128 ≤ a * 256 + b → Begins (octets (count_signed n) n)
begins_at k n a b others e f g h i =
    record { first = a; positive = g; shape = inr (b, others, ap (λ j. octets j n) e ∙ f, h, i) }

begins : (n : ℕ) → n < 9223372036854775808 → Begins (octets (count_signed n) n) × (count_signed n ≤ 8)
begins n top =
    ⊎_elim
    (λ (h : n < 128). let e = count_is_1 n h in
    (record { first = n / 1 % 256; positive = omega arith; shape = inl (ap (λ j. octets j n) e) }, omega arith))
    (λ (l : 128 ≤ n). ⊎_elim
    (λ (h : n < 32768). let e = count_is_2 n l h in
    (begins_at 2 n (n / 256 % 256) (n / 1 % 256) _ e refl (omega arith) (omega arith) (omega arith), omega arith))
    (λ (l : 32768 ≤ n). ⊎_elim
    (λ (h : n < 8388608). let e = count_is_3 n l h in
    (begins_at 3 n (n / 65536 % 256) (n / 256 % 256) _ e refl (omega arith) (omega arith) (omega arith), omega arith))
    (λ (l : 8388608 ≤ n). ⊎_elim
    (λ (h : n < 2147483648). let e = count_is_4 n l h in (
      begins_at 4 n (n / 16777216 % 256) (n / 65536 % 256) _ e refl (omega arith) (omega arith) (omega arith),
      omega arith,
    ))
    (λ (l : 2147483648 ≤ n). ⊎_elim
    (λ (h : n < 549755813888). let e = count_is_5 n l h in (
      begins_at 5 n (n / 4294967296 % 256) (n / 16777216 % 256) _ e refl (omega arith) (omega arith) (omega arith),
      omega arith,
    ))
    (λ (l : 549755813888 ≤ n). ⊎_elim
    (λ (h : n < 140737488355328). let e = count_is_6 n l h in (
      begins_at 6 n (n / 1099511627776 % 256) (n / 4294967296 % 256) _ e refl (omega arith) (omega arith) (omega arith),
      omega arith,
    ))
    (λ (l : 140737488355328 ≤ n). ⊎_elim
    (λ (h : n < 36028797018963968). let e = count_is_7 n l h in (
      begins_at 7 n (n / 281474976710656 % 256) (n / 1099511627776 % 256) _ e refl (omega arith) (omega arith)
          (omega arith),
      omega arith,
    ))
    (λ (l : 36028797018963968 ≤ n). let e = count_is_8 n l in (
      begins_at 8 n (n / 72057594037927936 % 256) (n / 281474976710656 % 256) _ e refl (omega arith) (omega arith)
          (omega arith),
      omega arith,
    ))
    (cases_lt n 36028797018963968))
    (cases_lt n 140737488355328))
    (cases_lt n 549755813888))
    (cases_lt n 2147483648))
    (cases_lt n 8388608))
    (cases_lt n 32768))
    (cases_lt n 128)

least_positive : (xs : List ℕ) → All (λ x. x < 256) xs → length xs ≤ 8 → are_least xs ≡ true
    → get_or xs 0 0 < 128 → IsLeast xs
least_positive [] h l e p = absurd (false≢true e)
least_positive (a ∷ []) h l e p =
    record { some = omega arith; few = l; positive = p; least = λ m. absurd (omega arith) }
least_positive (a ∷ b ∷ others) h l e p =
    record { some = omega arith; few = l; positive = p; least = λ _. least_from a b (h 1 0 (omega arith)) e p }

least_negative : (xs : List ℕ) → All (λ x. x < 256) xs → length xs ≤ 8 → are_least xs ≡ true → 128 ≤ get_or xs 0 0
    → IsLeast (map (octet_turned true) xs)
least_negative [] h l e p = absurd (false≢true e)
least_negative (a ∷ []) h l e p =
    record { some = omega arith; few = omega arith; positive = omega arith; least = λ m. absurd (omega arith) }
least_negative (a ∷ b ∷ others) h l e p =
    let few : length (map (octet_turned true) (a ∷ b ∷ others)) ≤ 8 =
    rw (length-map (a ∷ b ∷ others) (octet_turned true)) l in
    record {
      some = omega arith;
      few = few;
      positive = omega arith;
      least =
          λ _. least_from_turned a b (h 0 0 (omega arith)) (h 1 0 (omega arith)) e p;
    }

-- the value of least octets has those contents octets
pub contents_of_value : (xs : List ℕ) → All (λ x. x < 256) xs → length xs ≤ 8 → are_least xs ≡ true
    → integer_contents (signed_number xs) ≡ xs
unfolding integer_contents
contents_of_value [] h l e = absurd (false≢true e)
contents_of_value (a ∷ others) h l e =
    ⊎_elim
    (λ (t : nat_lt a 128 ≡ true). rw t
    (least_octets (a ∷ others) h (least_positive (a ∷ others) h l e (ltb-true a 128 t))))
    (λ (f : nat_lt a 128 ≡ false).
    let ys = map (octet_turned true) (a ∷ others) in
    let all = turned_all true (a ∷ others) h in
    let same = least_octets ys all (least_negative (a ∷ others) h l e (ltb-false a 128 f)) in
    rw f (ap (λ zs. map (octet_turned true) zs) same ∙ turned_twice (a ∷ others) h))
    (cases_Bool (nat_lt a 128))

least_shape : (xs : List ℕ) → Begins xs → are_least xs ≡ true
least_shape xs b =
    ⊎_elim
    (λ (e : xs ≡ b.first ∷ []). ap are_least e)
    (λ (s : (second : ℕ) × (others : List ℕ) × (xs ≡ b.first ∷ second ∷ others) × (second < 256)
    × (128 ≤ b.first * 256 + second)). ap are_least s.2 ∙ least_to b.first s.0 b.positive s.4)
    b.shape

least_shape_turned : (xs : List ℕ) → Begins xs → are_least (map (octet_turned true) xs) ≡ true
least_shape_turned xs b =
    ⊎_elim
    (λ (e : xs ≡ b.first ∷ []). ap (λ ys. are_least (map (octet_turned true) ys)) e)
    (λ (s : (second : ℕ) × (others : List ℕ) × (xs ≡ b.first ∷ second ∷ others) × (second < 256)
    × (128 ≤ b.first * 256 + second)). ap (λ ys. are_least (map (octet_turned true) ys)) s.2
    ∙ least_to_turned b.first s.0 b.positive s.3 s.4)
    b.shape

-- the contents octets of a value of 64 bits are least, and at most eight
pub contents_least : (v : ℤ) → FitsSigned w64 v → (are_least (integer_contents v) ≡ true)
    × (length (integer_contents v) ≤ 8)
unfolding integer_contents
contents_least (pos n) fits =
    let b = begins n fits.sfits in
    (least_shape (octets (count_signed n) n) b.0, rw (length-octets (count_signed n) n) b.1)
contents_least (negsuc n) fits =
    let b = begins n fits.sfits in (
      least_shape_turned (octets (count_signed n) n) b.0,
      rw (length-map (octets (count_signed n) n) (octet_turned true), length-octets (count_signed n) n) b.1,
    )

-- the number of least octets, without the sign, is below 2 ^ 63
pub number_below_sign : (negative : Bool) (xs : List ℕ) → All (λ x. x < 256) xs → length xs ≤ 8
    → octet_turned negative (get_or xs 0 0) < 128 → 0 < length xs
    → number (map (octet_turned negative) xs) < 9223372036854775808
number_below_sign negative [] h l p q = absurd (omega arith)
number_below_sign negative (a ∷ others) h l p q =
    let ys = map (octet_turned negative) others in
    let long : length ys ≡ length others = length-map others (octet_turned negative) in
    let below : number ys < 256 ^ length ys = number-below ys (turned_all negative others (tail_of a others h)) in
    let few : length ys < 8 = omega arith in
    let top = eight_octets (length ys) few in
    let row : octet_turned negative a * 256 ^ length ys + number ys < 256 ^ length ys * 128 =
    mul-add-lt (octet_turned negative a) (256 ^ length ys) (number ys) 128 p below in
    omega arith

-- the elements of a slice of octets
pub octets_fit : (xs : List ℕ) → ((i : ℕ) → Fits w8 (get_or xs i 0)) → All (λ x. x < 256) xs
octets_fit xs f = λ k d h. let e = f k in rw (get_or_default xs k d 0 h) (omega arith)

integer_of_negative : (xs : List ℕ) → 0 < length xs → 128 ≤ get_or xs 0 0
    → signed_number xs ≡ negsuc (number (map (octet_turned true) xs))
integer_of_negative [] h l = absurd (omega arith)
integer_of_negative (a ∷ others) h l = rw (le-ltb a 128 l) refl

integer_of_positive : (xs : List ℕ) → 0 < length xs → get_or xs 0 0 < 128 → signed_number xs ≡ pos (number xs)
integer_of_positive [] h l = absurd (omega arith)
integer_of_positive (a ∷ others) h l = rw (lt-ltb a 128 l) refl

turned_not : (xs : List ℕ) → map (octet_turned false) xs ≡ xs
turned_not [] = refl
turned_not (x ∷ xs) = ap (λ ys. x ∷ ys) (turned_not xs)

sign_turned : (first head : ℕ) → head ≡ first → head < 256 → octet_turned (nat_le 128 first) head < 128
sign_turned first head e h =
    ⊎_elim
    (λ (t : nat_le 128 first ≡ true). let b = leb-true 128 first t in rw t (omega arith))
    (λ (f : nat_le 128 first ≡ false). let b = leb-false 128 first f in rw f (omega arith))
    (cases_Bool (nat_le 128 first))

-- the value that was read, by the sign
pub record IsValue (xs : List ℕ) (first r : ℕ) : Type 0 where
  pub small : r < 9223372036854775808
  pub negative : 128 ≤ first → xs ≡ integer_contents (negsuc r)
  pub positive : first < 128 → xs ≡ integer_contents (pos r)
  pub below : 128 ≤ first → signed_number xs ≡ negsuc r
  pub above : first < 128 → signed_number xs ≡ pos r

pub value_read : (xs : List ℕ) (first r : ℕ) → All (λ x. x < 256) xs → length xs ≤ 8 → are_least xs ≡ true
    → Some first ≡ slice_get xs 0 → r ≡ number (map (octet_turned (nat_le 128 first)) xs) → IsValue xs first r
value_read xs first r h l e f g =
    let some : 0 < length xs = slice_get_within xs 0 first (sym f) in
    let head : get_or xs 0 0 ≡ first = get_or_from_slice_get xs 0 first 0 (sym f) in
    let sign_first : octet_turned (nat_le 128 first) (get_or xs 0 0) < 128 =
    sign_turned first (get_or xs 0 0) head (h 0 0 some) in
    let back = contents_of_value xs h l e in
    let below_zero : 128 ≤ first → signed_number xs ≡ negsuc r = λ b.
    let t = le-leb 128 first b in
    integer_of_negative xs some (omega arith)
    ∙ ap negsuc (ap (λ n. number (map (octet_turned n) xs)) (sym t) ∙ sym g) in
    let not_below : first < 128 → signed_number xs ≡ pos r = λ b.
    let t = lt-leb 128 first b in
    integer_of_positive xs some (omega arith)
    ∙ ap pos (ap number (sym (turned_not xs)) ∙ (ap (λ n. number (map (octet_turned n) xs)) (sym t) ∙ sym g)) in
    record {
      small = rw g (number_below_sign (nat_le 128 first) xs h l sign_first some);
      negative = λ b. sym back ∙ ap integer_contents (below_zero b);
      positive = λ b. sym back ∙ ap integer_contents (not_below b);
      below = below_zero;
      above = not_below;
    }

minus_one : (r : ℕ) → negsuc 0 -ℤ pos r ≡ negsuc r
minus_one zero = refl
minus_one (suc r) = ap (λ k. negsuc (suc k)) (zero-add r)

pub positive_word : (r : ℕ) → r < 9223372036854775808 → to_z w64 r ≡ pos r
positive_word r h = to_z-of_z w64 (pos r) (record { sfits = h })

pub negative_word : (r : ℕ) → r < 9223372036854775808 → to_z w64 (of_z w64 (negsuc 0 -ℤ to_z w64 r)) ≡ negsuc r
negative_word r h = ap (λ z. to_z w64 (of_z w64 (negsuc 0 -ℤ z))) (positive_word r h)
    ∙ (ap (λ z. to_z w64 (of_z w64 z)) (minus_one r) ∙ to_z-of_z w64 (negsuc r) (record { sfits = h }))

-- ---- a number of 64 bits is read from its contents octets

octets_below : (count n k d : ℕ) → k < length (octets count n) → get_or (octets count n) k d < 256
octets_below zero n k d h = absurd (omega arith)
octets_below (suc count) n zero d h = omega arith
octets_below (suc count) n (suc k) d h = octets_below count n k d (omega arith)

signed_holds : (n : ℕ) → n < 9223372036854775808 → n < 256 ^ count_signed n
signed_holds n top =
    ⊎_elim
    (λ (h : n < 128). rw (count_is_1 n h) (omega arith))
    (λ (l : 128 ≤ n). ⊎_elim
    (λ (h : n < 32768). rw (count_is_2 n l h) (omega arith))
    (λ (l : 32768 ≤ n). ⊎_elim
    (λ (h : n < 8388608). rw (count_is_3 n l h) (omega arith))
    (λ (l : 8388608 ≤ n). ⊎_elim
    (λ (h : n < 2147483648). rw (count_is_4 n l h) (omega arith))
    (λ (l : 2147483648 ≤ n). ⊎_elim
    (λ (h : n < 549755813888). rw (count_is_5 n l h) (omega arith))
    (λ (l : 549755813888 ≤ n). ⊎_elim
    (λ (h : n < 140737488355328). rw (count_is_6 n l h) (omega arith))
    (λ (l : 140737488355328 ≤ n). ⊎_elim
    (λ (h : n < 36028797018963968). rw (count_is_7 n l h) (omega arith))
    (λ (l : 36028797018963968 ≤ n). rw (count_is_8 n l) (omega arith))
    (cases_lt n 36028797018963968))
    (cases_lt n 140737488355328))
    (cases_lt n 549755813888))
    (cases_lt n 2147483648))
    (cases_lt n 8388608))
    (cases_lt n 32768))
    (cases_lt n 128)

first_is : (xs : List ℕ) (b : Begins xs) → (0 < length xs) × (get_or xs 0 0 ≡ b.first)
first_is xs b =
    ⊎_elim
    (λ (e : xs ≡ b.first ∷ []). let l = ap length e in (omega arith, ap (λ ys. get_or ys 0 0) e))
    (λ (s : (second : ℕ) × (others : List ℕ) × (xs ≡ b.first ∷ second ∷ others) × (second < 256)
    × (128 ≤ b.first * 256 + second)).
    let l = ap length s.2 in (omega arith, ap (λ ys. get_or ys 0 0) s.2))
    b.shape

pub value_of_contents : (v : ℤ) → FitsSigned w64 v → signed_number (integer_contents v) ≡ v
unfolding integer_contents
value_of_contents (pos n) fits =
    let xs = octets (count_signed n) n in
    let b = (begins n fits.sfits).0 in
    let f = first_is xs b in
    let low = b.positive in
    let e = f.1 in
    integer_of_positive xs f.0 (omega arith) ∙ ap pos (number-octets_all (count_signed n) n (signed_holds n fits.sfits))
value_of_contents (negsuc n) fits =
    let xs = octets (count_signed n) n in
    let ys = map (octet_turned true) xs in
    let b = (begins n fits.sfits).0 in
    let f = first_is xs b in
    let low = b.positive in
    let l : length ys ≡ length xs = length-map xs (octet_turned true) in
    let head : get_or ys 0 0 ≡ 255 - get_or xs 0 0 = get_or-map (octet_turned true) xs 0 0 0 f.0 in
    let e = f.1 in
    let some = f.0 in
    integer_of_negative ys (omega arith) (omega arith)
    ∙ ap (λ zs. negsuc (number zs)) (turned_twice xs (octets_below (count_signed n) n))
    ∙ ap negsuc (number-octets_all (count_signed n) n (signed_holds n fits.sfits))

-- what is written for a number of 64 bits denotes it
pub whole_read : (v : ℤ) → FitsSigned w64 v → integer_in (integer_contents v) ≡ Some v
unfolding integer_in
whole_read v fits =
    let l = contents_least v fits in
    rw (le-leb (length (integer_contents v)) 8 l.1, l.0) (ap Some (value_of_contents v fits))
