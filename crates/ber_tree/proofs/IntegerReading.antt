-- What the contents octets of an INTEGER denote, by the tests that are made of them.
use Rattle.std.proofs.Common.{◌≡◌, ℕ, ◌<◌, ◌≤◌, ◌&&◌, List, length, true, false, refl, ap, sym}
use Rattle.std.specs.Prelude.{ℤ, Some, None, nat_le, if◌then◌else◌}
use Rattle.std.proofs.lemmas.Bool.{le-leb, lt-leb}
use Rattle.term_values.specs.Octets.{integer_in, are_least, signed_number}

-- more than eight octets denote nothing
pub too_many : (xs : List ℕ) → 8 < length xs → None ≡ integer_in xs
unfolding integer_in
too_many xs long = rw (lt-leb (length xs) 8 long) refl

-- octets that are not the least denote nothing
pub not_least : (xs : List ℕ) → are_least xs ≡ false → None ≡ integer_in xs
unfolding integer_in
not_least xs padded =
    elim (nat_le (length xs) 8) as (λ b. None ≡ (if b && are_least xs then Some (signed_number xs) else None))
    [ true ↦ rw padded refl | false ↦ refl ]

-- the least octets, of which there are at most eight, denote their number
pub denoted : (xs : List ℕ) (value : ℤ) → length xs ≤ 8 → are_least xs ≡ true → signed_number xs ≡ value
    → Some value ≡ integer_in xs
unfolding integer_in
denoted xs value few least same = rw (le-leb (length xs) 8 few, least) (ap Some (sym same))
