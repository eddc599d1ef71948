-- The four octets of a length, as they are written.
use Rattle.std.proofs.Common.{◌≡◌, ℕ, zero, suc, ◌/◌, ◌%◌, ◌^◌, ◌<◌, get_or, arith, [], ◌∷◌, length, All, sym, ap, ◌∙◌}
use Rattle.std.proofs.Math.Nat.{div-one}
use Rattle.byteorder.specs.Endian.{big_bytes}
use Rattle.term_values.specs.Octets.{number, octets}
use Rattle.term_values.proofs.NumberLaws.{length-octets, number-octets, octets-number}

below_at : (count n k d : ℕ) → k < length (octets count n) → get_or (octets count n) k d < 256
below_at zero n k d h = absurd (omega (arith, h))
below_at (suc count) n zero d h = omega arith
below_at (suc count) n (suc k) d h = below_at count n k d (omega (arith, h))

octets_below : (count n : ℕ) → All (λ x. x < 256) (octets count n)
octets_below count n = λ k d h. below_at count n k d h

big_is : (n : ℕ) → big_bytes 4 n ≡ octets 4 n
big_is n = ap (λ m. (n / 256 ^ 3 % 256) ∷ ((n / 256 ^ 2 % 256) ∷ ((n / 256 ^ 1 % 256) ∷ ((m % 256) ∷ []))))
    (sym (div-one n))

same_octets : (n : ℕ) → octets 4 (n % 256 ^ 4) ≡ octets 4 n
same_octets n =
    ap (octets 4) (sym (number-octets 4 n)) ∙ (ap (λ k. octets k (number (octets 4 n))) (sym (length-octets 4 n))
    ∙ octets-number (octets 4 n) (octets_below 4 n))

pub length_is : (size : ℕ) → big_bytes 4 (size % 4294967296) ≡ octets 4 size
length_is size = big_is (size % 4294967296) ∙ same_octets size
