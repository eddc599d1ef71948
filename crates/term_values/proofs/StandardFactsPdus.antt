-- The PDUs of remote operations and of CMIP: their tags are clear, and examples of docs/PROFILE.md are read and
-- written.
use Rattle.std.specs.Prelude.{◌≡◌, ℕ, List, [], ◌∷◌, Bool, true, false, pos, Some, Option, option_and_then, refl}
use Rattle.term_values.specs.BerReading.{tree_in, front_of, length_at, identifier_of}
use Rattle.term_values.specs.CmipTypes.{filter_choice, filter_item, object_instance, action_or_event_type_id}
use Rattle.term_values.specs.Decoding.{value_in}
use Rattle.term_values.specs.Der.{identifier_octets, length_octets}
use Rattle.term_values.specs.FilterTrees.{is_filter}
use Rattle.term_values.specs.Octets.{integer_contents, integer_in}
use Rattle.term_values.specs.Oid.{subidentifier, oid_in}
use Rattle.term_values.specs.PduSyntaxes.{bind, bind_answer, invoke, return_result, return_error, reject, get_argument}
use Rattle.term_values.specs.PduSyntaxes.{set_argument, action_argument, delete_argument, create_argument}
use Rattle.term_values.specs.PduSyntaxes.{report_argument}
use Rattle.term_values.specs.ResultSyntaxes.{linked_reply}
use Rattle.term_values.specs.Soundness.{has_clear_tags}
use Rattle.term_values.specs.Syntaxes.{TypeSyntax}
use Rattle.term_values.specs.Tree.{TreeValue}
use Rattle.term_values.specs.Typed.{TypedValue}
use Rattle.term_values.specs.Typed.TypedValue.{Int, Identifier, Parts, Many, Pick, Raw}
use Rattle.term_values.specs.Typed.TypedValues.{Nothing}
use Rattle.term_values.specs.Typed.TypedSlots.{NoSlots, Filled, Empty}
use Rattle.term_values.specs.Written.{der}

bind_clear : has_clear_tags bind ≡ true
bind_clear = refl

bind_answer_clear : has_clear_tags bind_answer ≡ true
bind_answer_clear = refl

invoke_clear : has_clear_tags invoke ≡ true
invoke_clear = refl

return_result_clear : has_clear_tags return_result ≡ true
return_result_clear = refl

return_error_clear : has_clear_tags return_error ≡ true
return_error_clear = refl

reject_clear : has_clear_tags reject ≡ true
reject_clear = refl

get_clear : has_clear_tags get_argument ≡ true
get_clear = refl

set_clear : has_clear_tags set_argument ≡ true
set_clear = refl

action_clear : has_clear_tags action_argument ≡ true
action_clear = refl

delete_clear : has_clear_tags delete_argument ≡ true
delete_clear = refl

create_clear : has_clear_tags create_argument ≡ true
create_clear = refl

report_clear : has_clear_tags report_argument ≡ true
report_clear = refl

filter_clear : has_clear_tags filter_choice ≡ true
filter_clear = refl

item_clear : has_clear_tags filter_item ≡ true
item_clear = refl

linked_reply_clear : has_clear_tags linked_reply ≡ true
linked_reply_clear = refl

type_id_clear : has_clear_tags action_or_event_type_id ≡ true
type_id_clear = refl

-- the value that octets denote
abbrev value_at : TypeSyntax → List ℕ → Option TypedValue
value_at syntax octets = option_and_then (value_in syntax) (tree_in octets)

-- the application title 2.999.11.1
abbrev title : TypedValue
title = Parts (Filled (Identifier (2 ∷ 999 ∷ 11 ∷ 1 ∷ [])) NoSlots)

abbrev bind_octets : List ℕ
bind_octets = 0x30 ∷ 0x06 ∷ 0x06 ∷ 0x04 ∷ 0x88 ∷ 0x37 ∷ 0x0B ∷ 0x01 ∷ []

bind_read : value_at bind bind_octets ≡ Some title
unfolding front_of length_at identifier_of oid_in subidentifier
bind_read = refl

bind_written : der bind title ≡ bind_octets
unfolding identifier_octets length_octets subidentifier
bind_written = refl

-- accepted, as association 1
answer_written : der bind_answer (Parts (Filled (Int (pos 0)) (Filled (Int (pos 1)) NoSlots)))
    ≡ 0x30 ∷ 0x06 ∷ 0x0A ∷ 0x01 ∷ 0x00 ∷ 0x02 ∷ 0x01 ∷ 0x01 ∷ []
unfolding identifier_octets length_octets integer_contents
answer_written = refl

-- the root, whose name is empty
abbrev root : TypedValue
root = Pick 2 (Many Nothing)

root_read : value_at object_instance (0xA4 ∷ 0x00 ∷ []) ≡ Some root
unfolding front_of length_at identifier_of identifier_octets length_octets
root_read = refl

-- a Get of the root as an object of class 2.999.3.1
abbrev get_octets : List ℕ
get_octets = 0x30 ∷ 0x08 ∷ 0x80 ∷ 0x04 ∷ 0x88 ∷ 0x37 ∷ 0x03 ∷ 0x01 ∷ 0xA4 ∷ 0x00 ∷ []

abbrev get : TypedValue
get =
    Parts (Filled (Pick 0 (Identifier (2 ∷ 999 ∷ 3 ∷ 1 ∷ []))) (Filled root
    (Empty (Empty (Empty (Empty (Empty NoSlots)))))))

get_read : value_at get_argument get_octets ≡ Some get
unfolding front_of length_at identifier_of oid_in subidentifier identifier_octets length_octets
get_read = refl

get_written : der get_argument get ≡ get_octets
unfolding identifier_octets length_octets subidentifier
get_written = refl

-- and the invoke that brings it, with id 1 and operation 3
invoke_read : value_at invoke (0xA1 ∷ 0x10 ∷ 0x02 ∷ 0x01 ∷ 0x01 ∷ 0x02 ∷ 0x01 ∷ 0x03 ∷ get_octets)
    ≡ Some (Parts (Filled (Int (pos 1)) (Empty (Filled (Int (pos 3)) (Filled (Raw get_octets) NoSlots)))))
unfolding front_of length_at identifier_of integer_in identifier_octets length_octets
invoke_read = refl

-- `and {}` is a CMISFilter, and the universal tag of a SET OF is none
and_filter : value_at filter_choice (0xA9 ∷ 0x00 ∷ []) ≡ Some (Pick 1 (Many Nothing))
unfolding front_of length_at identifier_of identifier_octets length_octets
and_filter = refl

abbrev filter_at : List ℕ → Option Bool
filter_at octets = option_and_then (λ (tree : TreeValue). Some (is_filter tree)) (tree_in octets)

and_is_filter : filter_at (0xA9 ∷ 0x00 ∷ []) ≡ Some true
unfolding front_of length_at identifier_of
and_is_filter = refl

set_is_none : filter_at (0x31 ∷ 0x00 ∷ []) ≡ Some false
unfolding front_of length_at identifier_of
set_is_none = refl

-- not (item (present (2.999.3.1)))
not_present : filter_at (0xAB ∷ 0x0A ∷ 0xA8 ∷ 0x08 ∷ 0xA4 ∷ 0x06 ∷ 0x80 ∷ 0x04 ∷ 0x88 ∷ 0x37 ∷ 0x03 ∷ 0x01 ∷ [])
    ≡ Some true
unfolding front_of length_at identifier_of oid_in subidentifier
not_present = refl

-- item (equality (local 5, 1)), whose value may be of any syntax
equality : filter_at (0xA8 ∷ 0x08 ∷ 0xA0 ∷ 0x06 ∷ 0x81 ∷ 0x01 ∷ 0x05 ∷ 0x02 ∷ 0x01 ∷ 0x01 ∷ []) ≡ Some true
unfolding front_of length_at identifier_of oid_in integer_in
equality = refl
