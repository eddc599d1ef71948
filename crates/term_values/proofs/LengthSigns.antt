-- How many octets a signed number of 64 bits takes, by its sign.
use Rattle.std.proofs.Common.{◌≡◌, ℕ, zero, suc, ◌≤◌, true, false, ℤ, pos, negsuc, ◌+ℤ◌, ◌-ℤ◌, nat_abs, int_lt}
use Rattle.std.proofs.Common.{FitsSigned, to_z, of_z, ap, sym, ◌∙◌, arith}
use Rattle.std.specs.Int.{w64}
use Rattle.std.proofs.lemmas.Int.{to_z-of_z, ints}
use Rattle.term_values.specs.Lengths.{octet_count}
use Rattle.term_values.proofs.LengthCounts.{positive_count, negative_count}
use Rattle.term_values.specs.Octets.{count_signed, integer_contents}

plus_one : (m : ℕ) → negsuc (suc m) +ℤ pos 1 ≡ negsuc m
plus_one m = omega (arith, ints)

turned : (m : ℕ) → pos 0 -ℤ negsuc m ≡ pos (suc m)
turned m = omega (arith, ints)

pub negative : (v : ℤ) (k : ℕ) → FitsSigned w64 v → int_lt (to_z w64 (of_z w64 v)) (pos 0) ≡ true
    → k ≡ count_signed (nat_abs (to_z w64 (of_z w64 (pos 0 -ℤ to_z w64 (of_z w64 (to_z w64 (of_z w64 v) +ℤ pos 1))))))
    → k ≤ 8 → k ≡ octet_count (integer_contents v)
negative (pos n) k fits l e h =
    let m : int_lt (pos n) (pos 0) ≡ true = sym (ap (λ z. int_lt z (pos 0)) (to_z-of_z w64 (pos n) fits)) ∙ l in
    absurd (omega (arith, ints))
negative (negsuc zero) k fits l e h = negative_count zero k e h
negative (negsuc (suc m)) k fits l e h =
    let f : FitsSigned w64 (negsuc m) = record { sfits = let t = fits.sfits in omega arith } in
    let g : FitsSigned w64 (pos (suc m)) = record { sfits = let t = fits.sfits in omega arith } in
    let number : nat_abs (to_z w64 (of_z w64 (pos 0 -ℤ to_z w64 (of_z w64 (to_z w64 (of_z w64 (negsuc (suc m)))
    +ℤ pos 1))))) ≡ suc m =
    ap (λ z. nat_abs (to_z w64 (of_z w64 (pos 0 -ℤ to_z w64 (of_z w64 (z +ℤ pos 1))))))
    (to_z-of_z w64 (negsuc (suc m)) fits)
    ∙ ap (λ z. nat_abs (to_z w64 (of_z w64 (pos 0 -ℤ to_z w64 (of_z w64 z))))) (plus_one m)
    ∙ ap (λ z. nat_abs (to_z w64 (of_z w64 (pos 0 -ℤ z)))) (to_z-of_z w64 (negsuc m) f)
    ∙ ap (λ z. nat_abs (to_z w64 (of_z w64 z))) (turned m)
    ∙ ap nat_abs (to_z-of_z w64 (pos (suc m)) g) in
    negative_count (suc m) k (e ∙ ap count_signed number) h

pub not_negative : (v : ℤ) (k : ℕ) → FitsSigned w64 v → int_lt (to_z w64 (of_z w64 v)) (pos 0) ≡ false
    → k ≡ count_signed (nat_abs (to_z w64 (of_z w64 v))) → k ≤ 8 → k ≡ octet_count (integer_contents v)
not_negative (pos n) k fits l e h =
    positive_count n k (e ∙ ap (λ z. count_signed (nat_abs z)) (to_z-of_z w64 (pos n) fits)) h
not_negative (negsuc n) k fits l e h =
    let m : int_lt (negsuc n) (pos 0) ≡ false = sym (ap (λ z. int_lt z (pos 0)) (to_z-of_z w64 (negsuc n) fits)) ∙ l in
    absurd (omega (arith, ints))
