-- Bits in octets, and bits that are set.
use Rattle.std.proofs.Common.{◌≡◌, ◌≤◌, ◌<◌, ◌+◌, ◌-◌, ℕ, zero, suc, Bool, true, false, List, [], ◌∷◌, ◌++◌, length}
use Rattle.std.proofs.Common.{take, drop, set, min, arith, refl, ap, sym, ◌∙◌, append_assoc, take_all, length-drop}
use Rattle.std.proofs.Math.ListN.{drop_of_length-le}
use Rattle.std.proofs.Math.Seq.{drop-nil}
use Rattle.std.proofs.lemmas.Bool.Decides.{nat_tests}
use Rattle.std.specs.Prelude.{nat_le}
use Rattle.asn1_leaf_values.specs.Bits.{packed, weighed, hexadecimal_bits, binary_bits, digit_bits, digit_number}
use Rattle.asn1_leaf_values.specs.LeafTexts.{with_bit}

-- one octet more
pub packed_step : (xs : List Bool) → 0 < length xs
    → packed xs ≡ weighed 128 (take 8 xs) ∷ packed (drop 8 xs)
packed_step [] h = absurd (omega arith)
packed_step (a ∷ []) h = refl
packed_step (a ∷ (b ∷ [])) h = refl
packed_step (a ∷ (b ∷ (c ∷ []))) h = refl
packed_step (a ∷ (b ∷ (c ∷ (d ∷ [])))) h = refl
packed_step (a ∷ (b ∷ (c ∷ (d ∷ (e ∷ []))))) h = refl
packed_step (a ∷ (b ∷ (c ∷ (d ∷ (e ∷ (f ∷ [])))))) h = refl
packed_step (a ∷ (b ∷ (c ∷ (d ∷ (e ∷ (f ∷ (g ∷ []))))))) h = refl
packed_step (a ∷ (b ∷ (c ∷ (d ∷ (e ∷ (f ∷ (g ∷ (i ∷ rest)))))))) h = refl

-- a bit 0 behind the last one changes nothing where a later one is set
pub with_bit_behind : (n : ℕ) (bits : List Bool) → length bits ≤ n → with_bit n (bits ++ false ∷ []) ≡ with_bit n bits
with_bit_behind zero [] h = refl
with_bit_behind zero (bit ∷ bits) h = absurd (omega arith)
with_bit_behind (suc n) [] h = refl
with_bit_behind (suc n) (bit ∷ bits) h = ap (λ bs. bit ∷ bs) (with_bit_behind n bits (omega arith))

pub with_bit_there : (n : ℕ) (bits : List Bool) → n < length bits → with_bit n bits ≡ set bits n true
with_bit_there zero [] h = absurd (omega arith)
with_bit_there zero (bit ∷ bits) h = refl
with_bit_there (suc n) [] h = absurd (omega arith)
with_bit_there (suc n) (bit ∷ bits) h = ap (λ bs. bit ∷ bs) (with_bit_there n bits (omega arith))

drop_past : (xs : List Bool) (i : ℕ) → drop 8 (drop i xs) ≡ drop (i + 8) xs
drop_past xs zero = refl
drop_past [] (suc i) = sym (drop-nil (suc i + 8))
drop_past (x ∷ xs) (suc i) =
    let next : suc (i + 8) ≡ suc i + 8 = omega arith in
    drop_past xs i ∙ ap (λ k. drop k (x ∷ xs)) next

take_few : (xs : List Bool) (n k : ℕ) → length xs ≤ n → length xs ≤ k → take n xs ≡ take k xs
take_few xs n k h g = take_all n xs h ∙ sym (take_all k xs g)

-- the octet and what is left behind it
octet_packed : (rest later : List Bool) (before : List ℕ) (count : ℕ) → 0 < length rest
    → take count rest ≡ take 8 rest → later ≡ drop 8 rest
    → before ++ packed rest ≡ (before ++ weighed 128 (take count rest) ∷ []) ++ packed later
octet_packed rest later before count some same next =
    ap (λ xs. before ++ xs) (packed_step rest some)
    ∙ rw (same, next) (sym (append_assoc before (weighed 128 (take 8 rest) ∷ []) (packed (drop 8 rest))))

by_count : (b : Bool) (bits : List Bool) (before : List ℕ) (at end : ℕ) → nat_le (at + 8) (length bits) ≡ b
    → at < length bits → end ≡ min (length bits) (at + 8)
    → before ++ packed (drop at bits) ≡ (before ++ weighed 128 (take (end - at) (drop at bits)) ∷ [])
    ++ packed (drop end bits)
by_count true bits before at end t h e =
    let full : at + 8 ≤ length bits = grind (arith, nat_tests) in
    let many : end - at ≡ 8 = omega arith in
    let stop : end ≡ at + 8 = omega arith in
    let some : 0 < length (drop at bits) = rw (length-drop at bits) (omega arith) in
    octet_packed (drop at bits) (drop end bits) before (end - at) some (ap (λ k. take k (drop at bits)) many)
    (ap (λ k. drop k bits) stop ∙ sym (drop_past bits at))
by_count false bits before at end t h e =
    let short : length bits < at + 8 = grind (arith, nat_tests) in
    let stop : end ≡ length bits = omega arith in
    let long : length (drop at bits) ≡ length bits - at = length-drop at bits in
    let some : 0 < length (drop at bits) = omega arith in
    octet_packed (drop at bits) (drop end bits) before (end - at) some
    (take_few (drop at bits) (end - at) 8 (omega arith) (omega arith))
    (drop_of_length-le bits (omega arith) ∙ sym (drop_past bits at ∙ drop_of_length-le bits (omega arith)))

-- as many bits as one octet holds, or all that are left
pub pack_step : (bits : List Bool) (before : List ℕ) (at end octet : ℕ) (after : List ℕ) → at < length bits
    → end ≡ min (length bits) (at + 8) → octet ≡ weighed 128 (take (end - at) (drop at bits))
    → after ≡ before ++ octet ∷ []
    → before ++ packed (drop at bits) ≡ after ++ packed (drop end bits)
pack_step bits before at end octet after h e o a =
    by_count (nat_le (at + 8) (length bits)) bits before at end refl h e
    ∙ ap (λ n. (before ++ n ∷ []) ++ packed (drop end bits)) (sym o) ∙ ap (λ xs. xs ++ packed (drop end bits)) (sym a)
