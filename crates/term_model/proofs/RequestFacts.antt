-- Examples of the parts of APDUs and of APDUs that the agent sends, computed: X.229, section 9; X.711,
-- section 7.4; docs/PROFILE.md, section 4.
use Rattle.std.proofs.Common.{inl}
use Rattle.std.specs.Prelude.{◌≡◌, ℕ, pos, List, [], ◌∷◌, None, Some, refl}
use Rattle.term_values.specs.BerReading.{front_of, identifier_of, length_at}
use Rattle.term_values.specs.Der.{identifier_octets, length_octets}
use Rattle.term_values.specs.Octets.{integer_contents, integer_in}
use Rattle.term_values.specs.Oid.{oid_in, subidentifier}
use Rattle.term_values.specs.Tag.{universal}
use Rattle.term_values.specs.Tree.{TreeValue}
use Rattle.term_values.specs.Tree.TreeValue.{Constructed, Primitive}
use Rattle.term_values.specs.Tree.TreeValues.{Nothing, Then}
use Rattle.term_model.specs.ApduReading.{id_under}
use Rattle.term_model.specs.GetRequest.{instance_octets}
use Rattle.term_model.specs.Parts.{contents_under, inside_under, integer_under, oid_under, one_under, two_under}
use Rattle.term_model.specs.RemoteOperation.{empty_result_apdu, error_apdu, frame, linked_apdu, reject_apdu}
use Rattle.term_model.specs.RemoteOperation.{result_apdu}
use Rattle.term_model.proofs.ExampleNetwork.{element_oid, id_oid}

-- SEQUENCE { INTEGER 5, OBJECT IDENTIFIER 2.999.3.1 }
abbrev five : TreeValue
five = Primitive (universal 2) (5 ∷ [])

abbrev class : TreeValue
class = Primitive (universal 6) (0x88 ∷ 0x37 ∷ 3 ∷ 1 ∷ [])

abbrev pair : TreeValue
pair = Constructed (universal 16) (Then five (Then class Nothing))

-- what stands under a tag, and nothing where another one stands
inside_example : inside_under (universal 16) pair ≡ Some (Then five (Then class Nothing))
inside_example = refl

other_tag : inside_under (universal 17) pair ≡ None
other_tag = refl

contents_example : contents_under (universal 2) five ≡ Some (5 ∷ [])
contents_example = refl

two_example : two_under (universal 16) pair ≡ Some (five, class)
two_example = refl

not_one : one_under (universal 16) pair ≡ None
not_one = refl

integer_example : integer_under (universal 2) five ≡ Some (pos 5)
unfolding integer_in
integer_example = refl

oid_example : oid_under (universal 6) class ≡ Some element_oid
unfolding oid_in subidentifier
oid_example = refl

-- an invoke id has at most 32 bits: 2^31 - 1, and one more
greatest_id : id_under (universal 2) (Primitive (universal 2) (0x7F ∷ 0xFF ∷ 0xFF ∷ 0xFF ∷ [])) ≡ Some (pos 2147483647)
unfolding integer_in
greatest_id = refl

id_too_great : id_under (universal 2) (Primitive (universal 2) (0 ∷ 0x80 ∷ 0 ∷ 0 ∷ 0 ∷ [])) ≡ None
unfolding integer_in
id_too_great = refl

-- the instance elementId = 5, an RDNSequence of one part
instance_example : instance_octets (record { attribute = id_oid; value = 0x02 ∷ 0x01 ∷ 0x05 ∷ [] } ∷ [])
    ≡ 0xA4 ∷ 0x0D ∷ 0x31 ∷ 0x0B ∷ 0x30 ∷ 0x09 ∷ 0x06 ∷ 0x04 ∷ 0x88 ∷ 0x37 ∷ 0x07 ∷ 0x01 ∷ 0x02 ∷ 0x01 ∷ 0x05 ∷ []
unfolding subidentifier identifier_octets length_octets
instance_example = refl

-- the frames of APDUs, with invoke id 1: a result without a value, one of m-Get, a linked reply with the own invoke id 2,
-- an error 1 without a parameter, and rejects with and without an invoke id
frame_example : frame (empty_result_apdu (pos 1)) ≡ 0 ∷ 0 ∷ 0 ∷ 5 ∷ 0xA2 ∷ 0x03 ∷ 0x02 ∷ 0x01 ∷ 0x01 ∷ []
unfolding identifier_octets length_octets integer_contents
frame_example = refl

result_example : result_apdu (pos 1) (pos 3) (0x05 ∷ 0x00 ∷ [])
    ≡ 0xA2 ∷ 0x0A ∷ 0x02 ∷ 0x01 ∷ 0x01 ∷ 0x30 ∷ 0x05 ∷ 0x02 ∷ 0x01 ∷ 0x03 ∷ 0x05 ∷ 0x00 ∷ []
unfolding identifier_octets length_octets integer_contents
result_example = refl

linked_example : linked_apdu (pos 2) (pos 1) 1 (0x05 ∷ 0x00 ∷ [])
    ≡ 0xA1 ∷ 0x0D ∷ 0x02 ∷ 0x01 ∷ 0x02 ∷ 0x80 ∷ 0x01 ∷ 0x01 ∷ 0x02 ∷ 0x01 ∷ 0x02 ∷ 0xA1 ∷ 0x02 ∷ 0x05 ∷ 0x00 ∷ []
unfolding identifier_octets length_octets integer_contents
linked_example = refl

error_example : error_apdu (pos 1) (pos 1) [] ≡ 0xA3 ∷ 0x06 ∷ 0x02 ∷ 0x01 ∷ 0x01 ∷ 0x02 ∷ 0x01 ∷ 0x01 ∷ []
unfolding identifier_octets length_octets integer_contents
error_example = refl

reject_example : reject_apdu (Some (pos 1)) 1 (pos 2) ≡ 0xA4 ∷ 0x06 ∷ 0x02 ∷ 0x01 ∷ 0x01 ∷ 0x81 ∷ 0x01 ∷ 0x02 ∷ []
unfolding identifier_octets length_octets integer_contents
reject_example = refl

general_reject : reject_apdu None 0 (pos 0) ≡ 0xA4 ∷ 0x05 ∷ 0x05 ∷ 0x00 ∷ 0x80 ∷ 0x01 ∷ 0x00 ∷ []
unfolding identifier_octets length_octets integer_contents
general_reject = refl
