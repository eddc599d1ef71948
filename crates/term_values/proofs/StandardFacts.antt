-- Examples of X.690, computed from the definitions.
use Rattle.std.specs.Prelude.{◌≡◌, [], ◌∷◌, pos, negsuc, Some, None, refl}
use Rattle.term_values.specs.Octets.{integer_contents, integer_in}
use Rattle.term_values.specs.Oid.{oid_contents, subidentifier, oid_in}
use Rattle.term_values.specs.Der.{written, identifier_octets, length_octets}
use Rattle.term_values.specs.BerReading.{tree_in, front_of, length_at, identifier_of}
use Rattle.std.proofs.Common.{arith}
use Rattle.term_values.specs.Writable.{IsWritable}
use Rattle.term_values.specs.Tree.TreeValue.{Primitive, Constructed}
use Rattle.term_values.specs.Tree.TreeValues.{Nothing, Then}

-- 2.999.3 is written 88 37 03: X.690, section 8.19.5
example_oid : oid_contents (2 ∷ 999 ∷ 3 ∷ []) ≡ 0x88 ∷ 0x37 ∷ 0x03 ∷ []
unfolding subidentifier
example_oid = refl

-- 128 takes two octets, for its first bit is the sign; -129 is FF 7F
example_128 : integer_contents (pos 128) ≡ 0x00 ∷ 0x80 ∷ []
unfolding integer_contents
example_128 = refl

example_minus_129 : integer_contents (negsuc 128) ≡ 0xFF ∷ 0x7F ∷ []
unfolding integer_contents
example_minus_129 = refl

-- a length of 201 octets is 81 C9: X.690, section 8.1.3.5
example_length : length_octets 201 ≡ 0x81 ∷ 0xC9 ∷ []
unfolding length_octets
example_length = refl

-- the INTEGER 128 within a SEQUENCE, written in the short form and read in the long form too
example_written : written
    (Constructed (record { class = 0; number = 16 })
    (Then (Primitive (record { class = 0; number = 2 }) (0 ∷ 0x80 ∷ [])) Nothing)) ≡ 0x30 ∷ 0x04 ∷ 0x02 ∷ 0x02
    ∷ 0x00 ∷ 0x80 ∷ []
unfolding identifier_octets length_octets
example_written = refl

example_read : tree_in (0x02 ∷ 0x81 ∷ 0x02 ∷ 0x00 ∷ 0x80 ∷ []) ≡ Some
    (Primitive (record { class = 0; number = 2 }) (0 ∷ 0x80 ∷ []))
unfolding front_of length_at identifier_of
example_read = refl

-- two octets were announced, and none come
example_truncated : tree_in (0x02 ∷ 0x02 ∷ []) ≡ None
unfolding front_of length_at identifier_of
example_truncated = refl

example_oid_read : oid_in (0x88 ∷ 0x37 ∷ 0x03 ∷ []) ≡ Some (2 ∷ 999 ∷ 3 ∷ [])
unfolding oid_in subidentifier
example_oid_read = refl

-- a leading 80 is not as few octets as hold the number
example_oid_padded : oid_in (0x88 ∷ 0x37 ∷ 0x80 ∷ 0x03 ∷ []) ≡ None
unfolding oid_in subidentifier
example_oid_padded = refl

example_integer_read : integer_in (0xFF ∷ 0x7F ∷ []) ≡ Some (negsuc 128)
unfolding integer_in
example_integer_read = refl

example_integer_padded : integer_in (0x00 ∷ 0x01 ∷ []) ≡ None
unfolding integer_in
example_integer_padded = refl

-- that tree is read back as it is written
example_writable : IsWritable 1
    (Constructed (record { class = 0; number = 16 })
    (Then (Primitive (record { class = 0; number = 2 }) (0 ∷ 0x80 ∷ [])) Nothing))
unfolding identifier_octets length_octets
example_writable = (
  record { class = omega arith; small = omega arith; used = omega arith },
  omega arith,
  ((record { class = omega arith; small = omega arith; used = omega arith }, omega arith), tt),
)
