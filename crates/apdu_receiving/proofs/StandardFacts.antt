-- Examples of what APDUs bring, computed under any schema: X.229, sections 8 and 9.
use Rattle.std.specs.Prelude.{◌≡◌, ℕ, pos, List, [], ◌∷◌, None, Some, refl}
use Rattle.term_values.specs.BerReading.{front_of, length_at, identifier_of}
use Rattle.term_values.specs.Octets.{integer_in}
use Rattle.term_model.specs.declared.schema.Set.{Set}
use Rattle.term_model.specs.Arriving.{Arriving}
use Rattle.term_model.specs.Arriving.Arriving.{Rejected, Cancels, NoEffect}
use Rattle.agent_model.specs.Receiving.{received_where}
use Rattle.apdu_receiving.specs.Arrivals.{is_listed}

-- the invoke id 7 is in use
abbrev brings : Set → List ℕ → Arriving → Type 0
brings schema apdu arriving = received_where schema (is_listed (pos 7 ∷ [])) apdu ≡ arriving

-- the octets aren't one value: a length is missing, or is longer than what follows, and octets follow the value
no_length : (schema : Set) → brings schema (0xA1 ∷ []) (Rejected None 0 (pos 2))
unfolding front_of length_at identifier_of
no_length schema = refl

no_contents : (schema : Set) → brings schema (0xA1 ∷ 0x01 ∷ 0x02 ∷ []) (Rejected None 0 (pos 2))
unfolding front_of length_at identifier_of
no_contents schema = refl

more_octets : (schema : Set)
    → brings schema (0xA1 ∷ 0x03 ∷ 0x02 ∷ 0x01 ∷ 0x01 ∷ 0x00 ∷ []) (Rejected None 0 (pos 2))
unfolding front_of length_at identifier_of
more_octets schema = refl

-- the tag isn't that of an APDU, or the value is primitive
another_tag : (schema : Set) → brings schema (0x30 ∷ 0x00 ∷ []) (Rejected None 0 (pos 0))
unfolding front_of length_at identifier_of
another_tag schema = refl

primitive : (schema : Set) → brings schema (0x81 ∷ 0x00 ∷ []) (Rejected None 0 (pos 0))
unfolding front_of length_at identifier_of
primitive schema = refl

-- fields are missing, of another tag, or past their range
no_fields : (schema : Set) → brings schema (0xA1 ∷ 0x00 ∷ []) (Rejected None 0 (pos 1))
unfolding front_of length_at identifier_of
no_fields schema = refl

another_field : (schema : Set) → brings schema (0xA1 ∷ 0x02 ∷ 0x05 ∷ 0x00 ∷ []) (Rejected None 0 (pos 1))
unfolding front_of length_at identifier_of
another_field schema = refl

long_id : (schema : Set) → brings schema
    (0xA1 ∷ 0x0A ∷ 0x02 ∷ 0x05 ∷ 0x00 ∷ 0x80 ∷ 0x00 ∷ 0x00 ∷ 0x00 ∷ 0x02 ∷ 0x01 ∷ 0x03 ∷ [])
    (Rejected None 0 (pos 1))
unfolding front_of length_at identifier_of integer_in
long_id schema = refl

-- Invokes: of no operation, of m-Linked-Reply, under an id that is in use, and of m-Get without an argument
abbrev invoke : ℕ → ℕ → List ℕ
invoke id op = 0xA1 ∷ 0x06 ∷ 0x02 ∷ 0x01 ∷ id ∷ 0x02 ∷ 0x01 ∷ op ∷ []

no_operation : (schema : Set) → brings schema (invoke 0x01 0x63) (Rejected (Some (pos 1)) 1 (pos 1))
unfolding front_of length_at identifier_of integer_in
no_operation schema = refl

linked_reply : (schema : Set) → brings schema (invoke 0x01 0x02) (Rejected (Some (pos 1)) 1 (pos 1))
unfolding front_of length_at identifier_of integer_in
linked_reply schema = refl

id_in_use : (schema : Set) → brings schema (invoke 0x07 0x03) (Rejected (Some (pos 7)) 1 (pos 0))
unfolding front_of length_at identifier_of integer_in
id_in_use schema = refl

no_argument : (schema : Set) → brings schema (invoke 0x01 0x03) (Rejected (Some (pos 1)) 1 (pos 2))
unfolding front_of length_at identifier_of integer_in
no_argument schema = refl

-- m-Cancel-Get 8 of the operation 7
cancel : (schema : Set) → brings schema
    (0xA1 ∷ 0x09 ∷ 0x02 ∷ 0x01 ∷ 0x08 ∷ 0x02 ∷ 0x01 ∷ 0x0A ∷ 0x02 ∷ 0x01 ∷ 0x07 ∷ []) (Cancels (pos 8) (pos 7))
unfolding front_of length_at identifier_of integer_in
cancel schema = refl

-- a Result of the manager's
result : (schema : Set) → brings schema (0xA2 ∷ 0x03 ∷ 0x02 ∷ 0x01 ∷ 0x01 ∷ []) NoEffect
unfolding front_of length_at identifier_of integer_in
result schema = refl
