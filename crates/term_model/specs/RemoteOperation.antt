-- Remote operations in frames: X.229, section 9. A frame is four octets of length and an APDU.
use Rattle.std.specs.Prelude.{ℕ, ℤ, pos, negsuc, List, [], ◌++◌, Bool, true, false, ◌^◌, nat_lt, length}
use Rattle.std.specs.Prelude.{Option, None, Some}
use Rattle.term_values.specs.declared.tag.Tag.{Tag}
use Rattle.term_values.specs.Der.{encoded}
use Rattle.term_values.specs.Octets.{octets, integer_contents}
use Rattle.term_values.specs.Tag.{context, universal}

-- the tags of the APDUs
abbrev pub invoke_tag : Tag
invoke_tag = context 1

abbrev pub result_tag : Tag
result_tag = context 2

abbrev pub error_tag : Tag
error_tag = context 3

-- an APDU in its frame
abbrev pub frame : List ℕ → List ℕ
frame apdu = octets 4 (length apdu) ++ apdu

abbrev pub integer : ℤ → List ℕ
integer n = encoded false (universal 2) (integer_contents n)

-- the tag of a linked id in an Invoke, and the number of the operation m-Linked-Reply
abbrev pub linked_id : Tag
linked_id = context 0

abbrev pub m_linked_reply : ℤ
m_linked_reply = pos 2

abbrev pub reject_tag : Tag
reject_tag = context 4

-- RORS: the invoke id, the operation and the result
abbrev pub result_apdu : ℤ → ℤ → List ℕ → List ℕ
result_apdu invoke operation result =
    encoded true result_tag (integer invoke ++ encoded true (universal 16) (integer operation ++ result))

-- RORS with the invoke id alone
abbrev pub empty_result_apdu : ℤ → List ℕ
empty_result_apdu invoke = encoded true result_tag (integer invoke)

-- ROIV of a linked reply: the agent's own invoke id, the invoke id to which it is linked, and what stands under the tag
-- of LinkedReply with this number
abbrev pub linked_apdu : ℤ → ℤ → ℕ → List ℕ → List ℕ
linked_apdu own invoke number contents =
    encoded true invoke_tag
    (integer own
    ++ (encoded false linked_id (integer_contents invoke)
    ++ (integer m_linked_reply ++ encoded true (context number) contents)))

-- the invoke id of a RORJ, NULL where there is none
abbrev pub rejected_id : Option ℤ → List ℕ
rejected_id None = encoded false (universal 5) []
rejected_id (Some invoke) = integer invoke

-- RORJ: the invoke id, and the problem under the tag of its kind: 0 general, 1 of an invoke, 2 of a result, 3 of an
-- error
abbrev pub reject_apdu : Option ℤ → ℕ → ℤ → List ℕ
reject_apdu invoke kind problem =
    encoded true reject_tag (rejected_id invoke ++ encoded false (context kind) (integer_contents problem))

-- ROER: the invoke id, the error and its parameter
abbrev pub error_apdu : ℤ → ℤ → List ℕ → List ℕ
error_apdu invoke error parameter = encoded true error_tag (integer invoke ++ (integer error ++ parameter))

abbrev pub is_within_32_bits : ℤ → Bool
is_within_32_bits (pos n) = nat_lt n (2 ^ 31)
is_within_32_bits (negsuc n) = nat_lt n (2 ^ 31)
