-- The first faults of docs/PROFILE.md, section 3, and of octets of X.690, computed from the reading.
use Rattle.std.specs.Prelude.{◌≡◌, ℕ, zero, suc, List, [], ◌∷◌, length, Some, None, Ok, Err, Result, refl, false}
use Rattle.term_values.specs.declared.ber_kind.BerKind.TheVariants.{Truncated, TooDeep, BadTag, BadLength, NoEnd}
use Rattle.std.proofs.Common.{arith, inl}
use Rattle.term_values.specs.Ber.{most_depth, IsIdentifier}
use Rattle.term_values.specs.FirstFault.{IsFirstFault, OwnFault}
use Rattle.term_values.specs.BerReading.{Fault, reading, tree_in, front_of, length_at, identifier_of}
use Rattle.term_values.specs.Tree.{TreeValue}
use Rattle.term_values.specs.Tree.TreeValue.{Primitive, Constructed}
use Rattle.term_values.specs.Tree.TreeValues.{Nothing, Then}

abbrev read : List ℕ → Result (TreeValue × List ℕ) Fault
read bytes = reading most_depth None (length bytes) bytes

-- 30 80 so many times
abbrev nested : ℕ → List ℕ → List ℕ
nested zero octets = octets
nested (suc n) octets = 0x30 ∷ 0x80 ∷ nested n octets

-- contents octets aren't there
short : read (0x02 ∷ 0x05 ∷ []) ≡ Err (2, Truncated)
unfolding front_of length_at identifier_of
short = refl

-- no bytes at all
empty : read ([]) ≡ Err (0, Truncated)
unfolding front_of length_at identifier_of
empty = refl

-- the 33rd of constructed values inside one another
too_deep : read (nested 33 ([])) ≡ Err (64, TooDeep)
unfolding front_of length_at identifier_of
too_deep = refl

-- an end of contents that isn't 0000
broken_end : read (0x30 ∷ 0x80 ∷ 0x00 ∷ 0x01 ∷ []) ≡ Err (2, BadLength)
unfolding front_of length_at identifier_of
broken_end = refl

-- the second octet of an end isn't there
half_end : read (0x30 ∷ 0x80 ∷ 0x00 ∷ []) ≡ Err (3, Truncated)
unfolding front_of length_at identifier_of
half_end = refl

-- nor is it before the definite value ends
half_end_in_definite : read (0x30 ∷ 0x03 ∷ 0x30 ∷ 0x80 ∷ 0x00 ∷ []) ≡ Err (4, BadLength)
unfolding front_of length_at identifier_of
half_end_in_definite = refl

-- an indefinite value, and nothing behind its length
no_end : read (0x30 ∷ 0x80 ∷ []) ≡ Err (0, NoEnd)
unfolding front_of length_at identifier_of
no_end = refl

-- of two indefinite values the inner one has no next part
no_end_behind_a_value : read (0x30 ∷ 0x80 ∷ 0x05 ∷ 0x00 ∷ 0x30 ∷ 0x80 ∷ 0x05 ∷ 0x00 ∷ []) ≡ Err (4, NoEnd)
unfolding front_of length_at identifier_of
no_end_behind_a_value = refl

-- the definite value round it ends in place of its end
no_end_in_definite : read (0x30 ∷ 0x02 ∷ 0x30 ∷ 0x80 ∷ 0xFF ∷ []) ≡ Err (2, NoEnd)
unfolding front_of length_at identifier_of
no_end_in_definite = refl

-- an end of contents in a definite value
end_in_definite : read (0x30 ∷ 0x02 ∷ 0x00 ∷ 0x00 ∷ []) ≡ Err (2, BadTag)
unfolding front_of length_at identifier_of
end_in_definite = refl

-- a number below 31 in the high form
low_number : read (0x1F ∷ 0x1E ∷ 0x00 ∷ []) ≡ Err (0, BadTag)
unfolding front_of length_at identifier_of
low_number = refl

-- a first further octet 80
padded_number : read (0x1F ∷ 0x80 ∷ []) ≡ Err (0, BadTag)
unfolding front_of length_at identifier_of
padded_number = refl

-- 2 ^ 32 in the high form
number_past : read (0x1F ∷ 0x90 ∷ 0x80 ∷ 0x80 ∷ 0x80 ∷ 0x00 ∷ []) ≡ Err (0, BadTag)
unfolding front_of length_at identifier_of
number_past = refl

-- the number is not past 2 ^ 32 - 1 yet
number_past_so_far : read (0x1F ∷ 0x90 ∷ 0x80 ∷ 0x80 ∷ 0x80 ∷ []) ≡ Err (5, Truncated)
unfolding front_of length_at identifier_of
number_past_so_far = refl

-- a length that points past the definite value round it
past_the_definite_end : read (0x30 ∷ 0x05 ∷ 0x04 ∷ 0x09 ∷ []) ≡ Err (2, BadLength)
unfolding front_of length_at identifier_of
past_the_definite_end = refl

-- the contents octet isn't there
past_the_bytes : read (0x30 ∷ 0x05 ∷ 0x04 ∷ 0x01 ∷ []) ≡ Err (4, Truncated)
unfolding front_of length_at identifier_of
past_the_bytes = refl

-- the definite value ends in place of the length octet
no_length_in_definite : read (0x30 ∷ 0x01 ∷ 0x04 ∷ 0x00 ∷ []) ≡ Err (2, BadLength)
unfolding front_of length_at identifier_of
no_length_in_definite = refl

-- and the bytes end there too
cut_length : read (0x30 ∷ 0x01 ∷ 0x04 ∷ []) ≡ Err (2, BadLength)
unfolding front_of length_at identifier_of
cut_length = refl

-- a length octet that is announced past the definite value's end
length_octets_past : read (0x30 ∷ 0x02 ∷ 0x04 ∷ 0x81 ∷ 0x00 ∷ []) ≡ Err (2, BadLength)
unfolding front_of length_at identifier_of
length_octets_past = refl

-- 256 octets at least, and one is left
length_certain : read (0x30 ∷ 0x05 ∷ 0x04 ∷ 0x82 ∷ 0x01 ∷ []) ≡ Err (2, BadLength)
unfolding front_of length_at identifier_of
length_certain = refl

-- the length may still be 1
length_not_certain : read (0x30 ∷ 0x05 ∷ 0x04 ∷ 0x82 ∷ 0x00 ∷ []) ≡ Err (5, Truncated)
unfolding front_of length_at identifier_of
length_not_certain = refl

-- the definite value has one octet more than the bytes
unfilled : read (0x30 ∷ 0x05 ∷ 0x05 ∷ 0x00 ∷ 0x05 ∷ 0x00 ∷ []) ≡ Err (6, Truncated)
unfolding front_of length_at identifier_of
unfilled = refl

-- a length octet FF
reserved_length : read (0x05 ∷ 0xFF ∷ []) ≡ Err (0, BadLength)
unfolding front_of length_at identifier_of
reserved_length = refl

-- a primitive value of indefinite length
no_indefinite : read (0x04 ∷ 0x80 ∷ []) ≡ Err (0, BadLength)
unfolding front_of length_at identifier_of
no_indefinite = refl

-- 2 ^ 32 octets
length_past : read (0x05 ∷ 0x85 ∷ 0x01 ∷ 0x00 ∷ 0x00 ∷ 0x00 ∷ 0x00 ∷ []) ≡ Err (0, BadLength)
unfolding front_of length_at identifier_of
length_past = refl

-- the tag universal 0 in the constructed form
constructed_zero : read (0x20 ∷ 0x00 ∷ []) ≡ Err (0, BadTag)
unfolding front_of length_at identifier_of
constructed_zero = refl

-- which is no end of contents either
constructed_zero_for_an_end : read (0x30 ∷ 0x80 ∷ 0x20 ∷ 0x00 ∷ []) ≡ Err (2, BadTag)
unfolding front_of length_at identifier_of
constructed_zero_for_an_end = refl

-- an end of contents round which there is nothing
end_alone : read (0x00 ∷ 0x00 ∷ []) ≡ Err (0, BadTag)
unfolding front_of length_at identifier_of
end_alone = refl

-- before the tag universal 0
deep_before_bad : read (nested 32 (0x20 ∷ [])) ≡ Err (64, TooDeep)
unfolding front_of length_at identifier_of
deep_before_bad = refl

-- segments of an OCTET STRING in an indefinite value: X.690, section 8.7
segments : tree_in (0x24 ∷ 0x80 ∷ 0x04 ∷ 0x01 ∷ 0xAB ∷ 0x04 ∷ 0x01 ∷ 0xCD ∷ 0x00 ∷ 0x00 ∷ []) ≡ Some
    (Constructed (record { class = 0; number = 4 })
    (Then (Primitive (record { class = 0; number = 4 }) (0xAB ∷ []))
    (Then (Primitive (record { class = 0; number = 4 }) (0xCD ∷ [])) Nothing)))
unfolding front_of length_at identifier_of
segments = refl

-- a length of more octets than it needs
long_length : tree_in (0x02 ∷ 0x81 ∷ 0x02 ∷ 0x00 ∷ 0x80 ∷ []) ≡ Some
    (Primitive (record { class = 0; number = 2 }) (0x00 ∷ 0x80 ∷ []))
unfolding front_of length_at identifier_of
long_length = refl

-- tags in the high form: the least number and the greatest
high_31 : tree_in (0x1F ∷ 0x1F ∷ 0x00 ∷ []) ≡ Some (Primitive (record { class = 0; number = 31 }) [])
unfolding front_of length_at identifier_of
high_31 = refl

high_most : tree_in (0x9F ∷ 0x8F ∷ 0xFF ∷ 0xFF ∷ 0xFF ∷ 0x7F ∷ 0x00 ∷ []) ≡ Some
    (Primitive (record { class = 2; number = 4294967295 }) [])
unfolding front_of length_at identifier_of
high_most = refl

-- what follows the value is left
value_and_rest : read (0x31 ∷ 0x02 ∷ 0x05 ∷ 0x00 ∷ 0xFF ∷ []) ≡ Ok (
  Constructed (record { class = 0; number = 17 }) (Then (Primitive (record { class = 0; number = 5 }) []) Nothing),
  0xFF ∷ [],
)
unfolding front_of length_at identifier_of
value_and_rest = refl

-- an end of contents behind a value in a definite value, and the constructed form of universal 0 in an indefinite one
end_behind_a_value : read (0x30 ∷ 0x03 ∷ 0x80 ∷ 0x00 ∷ 0x00 ∷ []) ≡ Err (4, BadTag)
unfolding front_of length_at identifier_of
end_behind_a_value = refl

constructed_zero_inside : read (0xA0 ∷ 0x80 ∷ 0x20 ∷ []) ≡ Err (2, BadTag)
unfolding front_of length_at identifier_of
constructed_zero_inside = refl

-- a definite value ends in place of an octet of a tag
cut_tag : read (0x30 ∷ 0x01 ∷ 0x1F ∷ 0x1F ∷ 0x00 ∷ []) ≡ Err (2, BadLength)
unfolding front_of length_at identifier_of
cut_tag = refl

-- The first of these by the relation itself: a tag and a length stand there, and no contents octets.
fault_of_short : IsFirstFault (0x02 ∷ 0x05 ∷ []) 2 Truncated
fault_of_short =
    let is : IsIdentifier false (record { class = 0; number = 2 }) (0x02 ∷ []) =
    record { class = omega arith; used = omega arith; spelt = inl (omega arith, refl) } in
    inl (
      OwnFault.of_contents (record { class = 0; number = 2 }) 5 (0x02 ∷ []) (0x05 ∷ []) [] refl is
          (inl (omega arith, refl, refl)) (λ p. p) (omega arith) refl,
      refl,
    )
