-- The contents of what is written under the tag of a SEQUENCE are read back.
use Rattle.std.proofs.Common.{◌≡◌, ℕ, ◌+◌, ◌-◌, Bool, true, false, List, [], ◌∷◌, ◌++◌, drop, length, refl, sym}
use Rattle.std.proofs.Common.{ap, ◌∙◌}
use Rattle.std.proofs.Common.{arith, rules, if◌then◌else◌}
use Rattle.std.proofs.Math.Seq.{drop-append_seam}
use Rattle.std.specs.Prelude.{nat_lt}
use Rattle.term_values.specs.Der.{identifier_octets, length_octets}
use Rattle.term_values.specs.Octets.{count_unsigned, octets}
use Rattle.term_values.proofs.NumberLaws.{length-octets}
use Rattle.operation_model.specs.LinkedReplies.{behind_length}
use Rattle.operation_laws.specs.LinkedContents.{ContentsAreRead}

-- behind a long length stands the rest
long_rest : (count n : ℕ) (contents : List ℕ) → nat_lt (128 + count) 128 ≡ false
    → behind_length ((128 + count) ∷ (octets count n ++ contents)) ≡ contents
long_rest count n contents h =
    rw h (ap (λ k. drop k (octets count n ++ contents)) (same count ∙ sym (length-octets count n))
    ∙ drop-append_seam (octets count n) contents)
  where
    same : (k : ℕ) → 128 + k - 128 ≡ k
    same k = omega arith

long_is : (count : ℕ) → nat_lt (128 + count) 128 ≡ false
long_is count = search rules

length_rest : (n : ℕ) (contents : List ℕ) → behind_length (length_octets n ++ contents) ≡ contents
unfolding length_octets
length_rest n contents = by (nat_lt n 128) refl
  where
    by : (b : Bool) → nat_lt n 128 ≡ b
        → behind_length ((if b then n ∷ [] else ((128 + count_unsigned n) ∷ octets (count_unsigned n) n)) ++ contents)
        ≡ contents
    by true h = rw h refl
    by false h = long_rest (count_unsigned n) n contents (long_is (count_unsigned n))

pub contents_are_read : ContentsAreRead
unfolding identifier_octets
contents_are_read = λ contents. length_rest (length contents) contents
