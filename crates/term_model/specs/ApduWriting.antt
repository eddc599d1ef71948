-- The one written form of an APDU of remote operations: X.229, section 9; X.690, section 10.
use Rattle.std.specs.Prelude.{ℕ, ℤ, pos, List, [], ◌++◌, Option, None, Some, true, false}
use Rattle.term_values.specs.Der.{encoded, written}
use Rattle.term_values.specs.Octets.{integer_contents}
use Rattle.term_values.specs.Tag.{context}
use Rattle.term_values.specs.Tree.{TreeValue}
use Rattle.term_model.specs.RemoteOperation.{empty_result_apdu, error_apdu, integer, invoke_tag, linked_id, reject_apdu}
use Rattle.term_model.specs.RemoteOperation.{result_apdu}
use Rattle.term_model.specs.declared.apdu.Apdu.{Apdu}
use Rattle.term_model.specs.declared.apdu.Apdu.TheVariants as apdus

-- a linked id, where there is one
abbrev pub linked_octets : Option ℤ → List ℕ
linked_octets None = []
linked_octets (Some id) = encoded false linked_id (integer_contents id)

-- what is of any type, where it is there
abbrev pub any_octets : Option TreeValue → List ℕ
any_octets None = []
any_octets (Some tree) = written tree

-- ROIV: the invoke id, the id to which it is linked, the operation and its argument
abbrev pub invoke_apdu : ℤ → Option ℤ → ℤ → List ℕ → List ℕ
invoke_apdu id linked op argument =
    encoded true invoke_tag (integer id ++ (linked_octets linked ++ (integer op ++ argument)))

-- a result has an operation and a value, or neither
abbrev pub result_octets : ℤ → Option ℤ → Option TreeValue → List ℕ
result_octets id (Some op) (Some value) = result_apdu id op (written value)
result_octets id (Some op) None = empty_result_apdu id
result_octets id None value = empty_result_apdu id

abbrev pub apdu_octets : Apdu → List ℕ
apdu_octets (apdus.Invoke id linked op argument) = invoke_apdu id linked op (any_octets argument)
apdu_octets (apdus.Result id op value) = result_octets id op value
apdu_octets (apdus.Error id error parameter) = error_apdu id error (any_octets parameter)
apdu_octets (apdus.Reject id class problem) = reject_apdu id class problem
