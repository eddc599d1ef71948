-- Results, linked replies and the parameters of errors, as syntaxes: X.711, section 7; docs/PROFILE.md.
use Rattle.std.specs.Prelude.{ℕ, ◌==◌, ◌||◌, codes, Option, None, Some, if◌then◌else◌}
use Rattle.term_values.specs.Syntaxes.{TypeSyntax, TypeParts}
use Rattle.term_values.specs.Syntaxes.TypeSyntax.{NullType, ObjectIdentifier, Sequence, Choice, Any, Filter}
use Rattle.term_values.specs.Syntaxes.TypeParts.{NoParts}
use Rattle.term_values.specs.CmipTypes.{one, at_most_one, unnamed, implicit, explicit, number, any_enumerated, set_of}
use Rattle.term_values.specs.CmipTypes.{object_parts, object_class, object_instance, attribute_id, attribute}
use Rattle.term_values.specs.CmipTypes.{current_time}
use Rattle.term_values.specs.CmipTypes.{action_type_id, event_type_id, action_or_event_type_id, scope, base}

-- the components with which a result begins, and what follows by the operation
abbrev pub result_parts : TypeParts → TypeParts
result_parts rest = object_parts (one (codes "currentTime") current_time rest)

-- of Get, Set and Create
abbrev pub attributes_result : TypeSyntax
attributes_result =
    Sequence (result_parts (one (codes "attributeList") (implicit 6 (set_of attribute)) NoParts))

abbrev pub action_reply : TypeSyntax
action_reply =
    Sequence (one (codes "actionType") action_type_id (one (codes "actionReplyInfo") (explicit 4 Any) NoParts))

abbrev pub action_result : TypeSyntax
action_result = Sequence (result_parts (at_most_one (codes "actionReply") (implicit 6 action_reply) NoParts))

-- of Delete and Report
abbrev pub plain_result : TypeSyntax
plain_result = Sequence (result_parts NoParts)

abbrev pub get_error : TypeSyntax
get_error = Sequence (one (codes "status") any_enumerated (one unnamed attribute_id NoParts))

abbrev pub set_error : TypeSyntax
set_error =
    Sequence (one (codes "status") any_enumerated (one (codes "operator") (implicit 2 number)
    (one unnamed attribute_id NoParts)))

-- an error or an attribute
abbrev pub outcome : TypeSyntax → TypeSyntax
outcome error = Choice (one (codes "error") (implicit 0 error) (one (codes "attribute") (implicit 1 attribute) NoParts))

abbrev pub get_list_error : TypeSyntax
get_list_error =
    Sequence (result_parts (one (codes "getInfoList") (implicit 6 (set_of (outcome get_error))) NoParts))

abbrev pub set_list_error : TypeSyntax
set_list_error =
    Sequence (result_parts (one (codes "setInfoList") (implicit 6 (set_of (outcome set_error))) NoParts))

abbrev pub action_error_information : TypeSyntax
action_error_information = Sequence (one (codes "status") any_enumerated (one unnamed action_type_id NoParts))

abbrev pub action_error : TypeSyntax
action_error = Sequence (result_parts (one (codes "actionErrorInfo") (explicit 6 action_error_information) NoParts))

abbrev pub delete_error : TypeSyntax
delete_error = Sequence (result_parts (one (codes "deleteErrorInfo") (explicit 6 any_enumerated) NoParts))

abbrev pub failure_reason : TypeSyntax
failure_reason = Sequence (one unnamed ObjectIdentifier (one unnamed NullType NoParts))

abbrev pub processing_failure : TypeSyntax
processing_failure = Sequence (object_parts (one (codes "specificErrorInfo") (explicit 5 failure_reason) NoParts))

abbrev pub linked_reply : TypeSyntax
linked_reply =
    Choice (one (codes "getResult") (implicit 0 attributes_result)
    (one (codes "getListError") (implicit 1 get_list_error) (one (codes "setResult") (implicit 2 attributes_result)
    (one (codes "setListError") (implicit 3 set_list_error) (one (codes "actionResult") (implicit 4 action_result)
    (one (codes "processingFailure") (implicit 5 processing_failure)
    (one (codes "deleteResult") (implicit 6 plain_result) (one (codes "actionError") (implicit 7 action_error)
    (one (codes "deleteError") (implicit 8 delete_error) NoParts)))))))))

-- the result of a confirmed operation, by its number: 1 report, 3 get, 5 set, 7 action, 8 create, 9 delete
abbrev pub result_of : ℕ → Option TypeSyntax
result_of operation =
    if operation == 3 || operation == 5 || operation == 8 then Some attributes_result
    else (if operation == 7 then Some action_result
    else (if operation == 1 || operation == 9 then Some plain_result else None))

-- the parameter of the error of this number; errors that are not listed have none
abbrev pub error_parameter : ℕ → Option TypeSyntax
error_parameter error =
    if error == 0 then Some object_class
    else (if error == 1 || error == 11 || error == 12 || error == 17 then Some object_instance
    else (if error == 3 then Some any_enumerated else (if error == 4 then Some Filter
    else (if error == 5 then Some attribute_id else (if error == 6 then Some attribute
    else (if error == 7 then Some get_list_error else (if error == 8 then Some set_list_error
    else (if error == 9 || error == 14 || error == 15 then Some action_or_event_type_id
    else (if error == 10 then Some processing_failure else (if error == 13 then Some event_type_id
    else (if error == 16 then Some scope else (if error == 18 then Some (set_of attribute_id)
    else (if error == 19 then Some base else (if error == 22 then Some number else None))))))))))))))
