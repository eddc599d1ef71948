-- Steps of reading identifier and length octets: X.690, sections 8.1.2 and 8.1.3.
use Rattle.std.proofs.Common.{◌≡◌, ℕ, ◌+◌, ◌^◌, ◌<◌, ◌≤◌, List, length, take, Option, Some, None, min, sym, ◌∙◌, refl}
use Rattle.std.proofs.Common.{⊎_elim, arith}
use Rattle.std.proofs.lemmas.Bool.{cases_lt, lt-ltb, le-ltb}
use Rattle.std.proofs.lemmas.List.{take_all}
use Rattle.std.proofs.Math.Nat.{pow-le-pow_right}
use Rattle.term_values.specs.BerReading.{is_past}

-- an octet before eight others or more counts more than a number of 64 bits holds
pub unit_capped : (others : ℕ) → 8 ≤ others → 18446744073709551615 ≡ min (256 ^ others) 18446744073709551615
unit_capped others h = let l : 256 ^ 8 ≤ 256 ^ others = pow-le-pow_right (omega arith) h in omega arith

-- the octets of a length that are there
pub take_there : (count : ℕ) (xs : List ℕ) → take (min (length xs) count) xs ≡ take count xs
take_there count xs =
    ⊎_elim
    (λ (h : length xs < count). let e : min (length xs) count ≡ length xs = omega arith in
    rw e (take_all (length xs) xs (omega arith) ∙ sym (take_all count xs (omega arith))))
    (λ (h : count ≤ length xs). let e : min (length xs) count ≡ count = omega arith in rw e refl)
    (cases_lt (length xs) count)

-- a need that is cut at 2 ^ 64 - 1 is past what is there exactly where the whole need is
pub past_capped : (behind : Option ℕ) (octets : List ℕ) (needed : ℕ) → length octets < 9223372036854775808 →
    ((missing : ℕ) → behind ≡ Some missing → missing < 4294967296) →
    is_past behind octets (min needed 18446744073709551615) ≡ is_past behind octets needed
past_capped None octets needed h small = refl
past_capped (Some missing) octets needed h small =
    let few = small missing refl in
    ⊎_elim
    (λ (l : length octets + missing < needed).
    rw (
      lt-ltb (length octets + missing) needed l,
      lt-ltb (length octets + missing)
          (min needed 18446744073709551615) (omega arith),
    ) refl)
    (λ (l : needed ≤ length octets + missing).
    rw (
      le-ltb (length octets + missing) needed l,
      le-ltb (length octets + missing)
          (min needed 18446744073709551615) (omega arith),
    ) refl)
    (cases_lt (length octets + missing) needed)
