-- BIND and its answer, the four APDUs of remote operations and the arguments of the operations, as syntaxes: X.229,
-- section 9; X.711, section 7; docs/PROFILE.md.
use Rattle.std.specs.Prelude.{pos, negsuc, [], ◌∷◌, codes}
use Rattle.term_values.specs.Syntaxes.{TypeSyntax, TypeParts}
use Rattle.term_values.specs.Syntaxes.TypeSyntax.{Integer, Enumerated, NullType, ObjectIdentifier, GeneralizedTime}
use Rattle.term_values.specs.Syntaxes.TypeSyntax.{Sequence}
use Rattle.term_values.specs.Syntaxes.TypeSyntax.{Choice, Any, Filter}
use Rattle.term_values.specs.Syntaxes.TypeParts.{NoParts}
use Rattle.term_values.specs.CmipTypes.{one, at_most_one, unnamed, implicit, explicit, number, set_of, sequence_of}
use Rattle.term_values.specs.CmipTypes.{object_parts, object_class, object_instance, attribute_id, attribute}
use Rattle.term_values.specs.CmipTypes.{action_type_id, event_type_id, scope}

abbrev pub bind : TypeSyntax
bind = Sequence (one (codes "title") ObjectIdentifier NoParts)

abbrev pub bind_outcome : TypeSyntax
bind_outcome =
    Enumerated ((codes "accepted", pos 0) ∷ ((codes "titleInUse", pos 1)
    ∷ ((codes "badBind", pos 2) ∷ ((codes "tooMany", pos 3) ∷ []))))

abbrev pub bind_answer : TypeSyntax
bind_answer = Sequence (one unnamed bind_outcome (one (codes "association") number NoParts))

-- ids are within 32 bits
abbrev pub invoke_id : TypeSyntax
invoke_id = Integer [] ((negsuc 2147483647, pos 2147483647) ∷ [])

abbrev pub invoke : TypeSyntax
invoke =
    implicit 1 (Sequence (one (codes "id") invoke_id (at_most_one (codes "linked") (implicit 0 invoke_id)
    (one (codes "op") number (at_most_one (codes "argument") Any NoParts)))))

abbrev pub operation_result : TypeSyntax
operation_result = Sequence (one (codes "op") number (one (codes "result") Any NoParts))

abbrev pub return_result : TypeSyntax
return_result = implicit 2 (Sequence (one (codes "id") invoke_id (at_most_one unnamed operation_result NoParts)))

abbrev pub return_error : TypeSyntax
return_error =
    implicit 3 (Sequence (one (codes "id") invoke_id (one (codes "error") number
    (at_most_one (codes "parameter") Any NoParts))))

abbrev pub problem : TypeSyntax
problem =
    Choice (one (codes "general") (implicit 0 number) (one (codes "invoke") (implicit 1 number)
    (one (codes "returnResult") (implicit 2 number) (one (codes "returnError") (implicit 3 number) NoParts))))

-- no id is known where it is NULL
abbrev pub reject : TypeSyntax
reject =
    implicit 4 (Sequence (one (codes "id") (Choice (one unnamed invoke_id (one unnamed NullType NoParts)))
    (one (codes "problem") problem NoParts)))

-- the components of an argument with a scope, and those that follow. The synchronization, [6] ENUMERATED, may be any
-- number of 64 bits; under its implicit tag it is spelled as an INTEGER.
abbrev pub scoped_parts : TypeParts → TypeParts
scoped_parts rest =
    object_parts (at_most_one (codes "accessControl") (explicit 5 Any)
    (at_most_one (codes "synchronization") (implicit 6 number) (at_most_one (codes "scope") (explicit 7 scope)
    (at_most_one (codes "filter") Filter rest))))

abbrev pub get_argument : TypeSyntax
get_argument =
    Sequence (scoped_parts (at_most_one (codes "attributeIdList") (implicit 12 (set_of attribute_id)) NoParts))

abbrev pub modification : TypeSyntax
modification =
    Sequence (at_most_one (codes "operator") (implicit 2 number) (one (codes "attributeId") attribute_id
    (at_most_one (codes "attributeValue") Any NoParts)))

-- The modifications of a Set and the attributes of a Create are acted on in the order in which they came. Each is a SET
-- OF, and under its implicit tag it is spelled as the SEQUENCE OF that it is read as, which keeps the order.
abbrev pub set_argument : TypeSyntax
set_argument =
    Sequence (scoped_parts (one (codes "modificationList") (implicit 12 (sequence_of modification)) NoParts))

abbrev pub action_information : TypeSyntax
action_information =
    Sequence (one (codes "actionType") action_type_id (at_most_one (codes "actionInfoArg") (explicit 4 Any) NoParts))

abbrev pub action_argument : TypeSyntax
action_argument = Sequence (scoped_parts (one (codes "actionInfo") (implicit 12 action_information) NoParts))

abbrev pub delete_argument : TypeSyntax
delete_argument = Sequence (scoped_parts NoParts)

abbrev pub create_place : TypeSyntax
create_place =
    Choice (one unnamed object_instance (one (codes "superior") (explicit 8 object_instance) NoParts))

abbrev pub create_argument : TypeSyntax
create_argument =
    Sequence (one (codes "objectClass") object_class (at_most_one unnamed create_place
    (at_most_one (codes "accessControl") (explicit 5 Any)
    (at_most_one (codes "reference") (explicit 6 object_instance)
    (at_most_one (codes "attributeList") (implicit 7 (sequence_of attribute)) NoParts)))))

abbrev pub report_argument : TypeSyntax
report_argument =
    Sequence (object_parts (at_most_one (codes "eventTime") (implicit 5 GeneralizedTime)
    (one (codes "eventType") event_type_id (at_most_one (codes "eventInfo") (explicit 8 Any) NoParts))))

-- the invoke id of the Get to cancel
abbrev pub cancel_argument : TypeSyntax
cancel_argument = number
