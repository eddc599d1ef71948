-- The definitions at examples of the standard and of docs/PROFILE.md.
use Rattle.std.specs.Prelude.{◌≡◌, [], ◌∷◌, true, false, pos, refl}
use Rattle.term_values.specs.CmipTypes.{filter_choice}
use Rattle.term_values.specs.Lengths.{octet_count}
use Rattle.term_values.specs.Octets.{integer_contents}
use Rattle.term_values.specs.Der.{identifier_octets, length_octets}
use Rattle.term_values.specs.PduSyntaxes.{bind, bind_answer, invoke, return_result, return_error, reject, get_argument}
use Rattle.term_values.specs.PduSyntaxes.{set_argument, action_argument, delete_argument, create_argument}
use Rattle.term_values.specs.PduSyntaxes.{report_argument}
use Rattle.term_values.specs.ResultSyntaxes.{linked_reply}
use Rattle.term_values.specs.Syntaxes.TypeSyntax.{Integer, Tagged, SequenceOf}
use Rattle.term_values.specs.Tree.TreeValue.{Primitive, Constructed}
use Rattle.term_values.specs.Tree.TreeValues.{Nothing, Then}
use Rattle.term_values.specs.Typed.TypedValue.{Int, Many}
use Rattle.term_values.specs.Typed.TypedValues.{Nothing as NoValues, Then as AndValues}
use Rattle.term_values.specs.UniversalTags.{integer, sequence, universal}
use Rattle.term_values.specs.Written.{der}
use Rattle.typed_laws.specs.Nesting.{nesting}
use Rattle.typed_laws.specs.SyntaxTags.{has_tags}

-- each PDU can be written
bind_tags : has_tags bind ≡ true
bind_tags = refl

bind_answer_tags : has_tags bind_answer ≡ true
bind_answer_tags = refl

invoke_tags : has_tags invoke ≡ true
invoke_tags = refl

return_result_tags : has_tags return_result ≡ true
return_result_tags = refl

return_error_tags : has_tags return_error ≡ true
return_error_tags = refl

reject_tags : has_tags reject ≡ true
reject_tags = refl

get_tags : has_tags get_argument ≡ true
get_tags = refl

set_tags : has_tags set_argument ≡ true
set_tags = refl

action_tags : has_tags action_argument ≡ true
action_tags = refl

delete_tags : has_tags delete_argument ≡ true
delete_tags = refl

create_tags : has_tags create_argument ≡ true
create_tags = refl

report_tags : has_tags report_argument ≡ true
report_tags = refl

filter_tags : has_tags filter_choice ≡ true
filter_tags = refl

linked_reply_tags : has_tags linked_reply ≡ true
linked_reply_tags = refl

-- [UNIVERSAL 0] INTEGER can't be: its octet is that of the end of contents
end_of_contents : has_tags (Tagged (universal 0) false (Integer [] [])) ≡ false
end_of_contents = refl

-- 30 05 30 03 02 01 05: an INTEGER in a SEQUENCE in a SEQUENCE
two_deep :
    nesting (Constructed sequence (Then (Constructed sequence (Then (Primitive integer (5 ∷ [])) Nothing)) Nothing)) ≡ 2
two_deep = refl

-- 30 03 02 01 05 has five octets
five_octets : octet_count (der (SequenceOf (Integer [] []) []) (Many (AndValues (Int (pos 5)) NoValues))) ≡ 5
unfolding integer_contents identifier_octets length_octets
five_octets = refl
