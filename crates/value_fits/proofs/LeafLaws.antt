-- Tests of values that hold no others say what `Fits` says: X.680, sections 17 to 24, 32, 41 and 46.
use Rattle.std.proofs.Common.{◌≡◌, ℕ, zero, suc, ◌+◌, ◌-◌, ◌*◌, ◌/◌, ◌%◌, ◌^◌, ◌<◌, true, false, List, [], ◌∷◌}
use Rattle.std.proofs.Common.{length, get_or, refl, ap, sym, arith, ◌==◌, ◌||◌, nat_lt, inl, inr, ℤ, pos, negsuc}
use Rattle.std.proofs.Common.{FitsSigned}
use Rattle.std.proofs.lemmas.Bool.{and_parts, and_from, eqb-true, eq-eqb, ltb-true, lt-ltb, or_cases, or_left, or_right}
use Rattle.std.proofs.Math.Nat.{div-mul-le_self}
use Rattle.std.specs.Int.{w64}
use Rattle.term_values.specs.Strings.{AreBits, cleared}
use Rattle.term_values.specs.LeafTests.{is_cleared, are_bits, is_whole}

-- an octet with its last bits cleared is an octet
cleared_octet : (octet unit : ℕ) → octet < 256 → octet / unit * unit % 256 ≡ octet / unit * unit
cleared_octet octet unit h = let l = div-mul-le_self octet unit in omega arith

last_from : (octets : List ℕ) (i unused : ℕ) → i + 1 ≡ length octets → get_or octets i 0 < 256
    → (get_or octets i 0 / 2 ^ unused * 2 ^ unused % 256 == get_or octets i 0) ≡ is_cleared octets unused
last_from [] i unused h small = absurd (omega arith)
last_from (x ∷ []) zero unused h small = ap (λ n. n == x) (cleared_octet x (2 ^ unused) small)
last_from (x ∷ []) (suc i) unused h small = absurd (omega arith)
last_from (x ∷ (y ∷ ys)) zero unused h small = absurd (omega arith)
last_from (x ∷ (y ∷ ys)) (suc i) unused h small = last_from (y ∷ ys) i unused (omega arith) small

-- the last octet alone has unused bits
pub last_cleared : (octets : List ℕ) (unused : ℕ) → 0 < length octets → get_or octets (length octets - 1) 0 < 256
    → (get_or octets (length octets - 1) 0 / 2 ^ unused * 2 ^ unused % 256 == get_or octets (length octets - 1) 0)
    ≡ is_cleared octets unused
last_cleared octets unused h small = last_from octets (length octets - 1) unused (omega arith) small

-- ---- whole numbers

pub whole_if : (n : ℤ) → is_whole n ≡ true → FitsSigned w64 n
whole_if (pos n) e = record { sfits = ltb-true n 9223372036854775808 e }
whole_if (negsuc n) e = record { sfits = ltb-true n 9223372036854775808 e }

pub whole_is : (n : ℤ) → FitsSigned w64 n → is_whole n ≡ true
whole_is (pos n) f = lt-ltb n 9223372036854775808 f.sfits
whole_is (negsuc n) f = lt-ltb n 9223372036854775808 f.sfits

-- ---- bits

cleared_if : (octets : List ℕ) (unused : ℕ) → is_cleared octets unused ≡ true → octets ≡ cleared unused octets
cleared_if [] unused e = refl
cleared_if (x ∷ []) unused e = ap (λ y. y ∷ []) (sym (eqb-true (x / 2 ^ unused * 2 ^ unused) x e))
cleared_if (x ∷ (y ∷ ys)) unused e = ap (λ zs. x ∷ zs) (cleared_if (y ∷ ys) unused e)

cleared_is : (octets : List ℕ) (unused : ℕ) → octets ≡ cleared unused octets → is_cleared octets unused ≡ true
cleared_is [] unused e = refl
cleared_is (x ∷ []) unused e =
    let same : x / 2 ^ unused * 2 ^ unused ≡ x = cc in
    eq-eqb (x / 2 ^ unused * 2 ^ unused) x same
cleared_is (x ∷ (y ∷ ys)) unused e =
    let same : y ∷ ys ≡ cleared unused (y ∷ ys) = cc in
    cleared_is (y ∷ ys) unused same

none_unused : (octets : List ℕ) (unused : ℕ) → (unused == 0 || nat_lt 0 (length octets)) ≡ true → octets ≡ []
    → unused ≡ 0
none_unused octets unused e none =
    elim (or_cases (unused == 0) (nat_lt 0 (length octets)) e) [
      | inl same ↦ eqb-true unused 0 same
      | inr some ↦ absurd (let l = ltb-true 0 (length octets) some in let k = ap length none in omega arith)
    ]

some_or_none : (octets : List ℕ) (unused : ℕ) → ((octets ≡ []) → unused ≡ 0)
    → (unused == 0 || nat_lt 0 (length octets)) ≡ true
some_or_none [] unused h = or_left (unused == 0) false (eq-eqb unused 0 (h refl))
some_or_none (x ∷ xs) unused h =
    or_right (unused == 0) (nat_lt 0 (length (x ∷ xs))) (lt-ltb 0 (length (x ∷ xs)) (omega arith))

pub bits_if : (octets : List ℕ) (unused : ℕ) → are_bits octets unused ≡ true → AreBits octets unused
bits_if octets unused e =
    let p = and_parts (nat_lt unused 8) _ e in
    let q = and_parts (unused == 0 || nat_lt 0 (length octets)) _ p.1 in
    (ltb-true unused 8 p.0, none_unused octets unused q.0, cleared_if octets unused q.1)

pub bits_are : (octets : List ℕ) (unused : ℕ) → AreBits octets unused → are_bits octets unused ≡ true
bits_are octets unused b =
    and_from (nat_lt unused 8) _ (lt-ltb unused 8 b.0)
    (and_from (unused == 0 || nat_lt 0 (length octets)) _ (some_or_none octets unused b.1)
    (cleared_is octets unused b.2))
