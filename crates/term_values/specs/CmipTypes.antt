-- The types that CMIP's PDUs share: X.711, section 7.5, with the profile of docs/PROFILE.md.
use Rattle.std.specs.Prelude.{ℕ, List, [], true, false, None, codes}
use Rattle.term_values.specs.Syntaxes.{TypeSyntax, TypeParts}
use Rattle.term_values.specs.Syntaxes.TypeSyntax.{Integer, OctetString, ObjectIdentifier, GeneralizedTime, Sequence}
use Rattle.term_values.specs.Syntaxes.TypeSyntax.{SequenceOf, SetOf, Choice, Tagged, Any, Filter}
use Rattle.term_values.specs.Syntaxes.TypeParts.{NoParts, Part}
use Rattle.term_values.specs.Tag.{context}
use Rattle.term_values.specs.UniversalTags.{enumerated}

-- a component or an alternative
abbrev pub one : List ℕ → TypeSyntax → TypeParts → TypeParts
one name syntax rest = Part name syntax false None rest

-- an OPTIONAL component
abbrev pub at_most_one : List ℕ → TypeSyntax → TypeParts → TypeParts
at_most_one name syntax rest = Part name syntax true None rest

-- what has no name
abbrev pub unnamed : List ℕ
unnamed = []

abbrev pub implicit : ℕ → TypeSyntax → TypeSyntax
implicit number of = Tagged (context number) false of

abbrev pub explicit : ℕ → TypeSyntax → TypeSyntax
explicit number of = Tagged (context number) true of

-- a whole number of 64 bits
abbrev pub number : TypeSyntax
number = Integer [] []

-- ENUMERATED, of which any number of 64 bits is read: it is spelled as an INTEGER but for its tag
abbrev pub any_enumerated : TypeSyntax
any_enumerated = Tagged enumerated false number

abbrev pub set_of : TypeSyntax → TypeSyntax
set_of member = SetOf member []

abbrev pub sequence_of : TypeSyntax → TypeSyntax
sequence_of member = SequenceOf member []

-- an identifier in globalForm or localForm, with two tags of its own
abbrev pub identifier : ℕ → ℕ → TypeSyntax
identifier global local =
    Choice (one (codes "globalForm") (implicit global ObjectIdentifier)
    (one (codes "localForm") (implicit local number) NoParts))

abbrev pub object_class : TypeSyntax
object_class = identifier 0 1

abbrev pub attribute_id : TypeSyntax
attribute_id = identifier 0 1

abbrev pub action_type_id : TypeSyntax
action_type_id = identifier 2 3

abbrev pub event_type_id : TypeSyntax
event_type_id = identifier 6 7

-- ActionTypeId or EventTypeId
abbrev pub action_or_event_type_id : TypeSyntax
action_or_event_type_id =
    Choice (one (codes "actionType") action_type_id (one (codes "eventType") event_type_id NoParts))

-- the assertion of one attribute's value, which an RDN is a set of
abbrev pub attribute_value_assertion : TypeSyntax
attribute_value_assertion = Sequence (one unnamed ObjectIdentifier (one unnamed Any NoParts))

abbrev pub rdn_sequence : TypeSyntax
rdn_sequence = sequence_of (set_of attribute_value_assertion)

abbrev pub object_instance : TypeSyntax
object_instance =
    Choice (one (codes "distinguishedName") (implicit 2 rdn_sequence)
    (one (codes "nonSpecificForm") (implicit 3 (OctetString []))
    (one (codes "localDistinguishedName") (implicit 4 rdn_sequence) NoParts)))

abbrev pub attribute : TypeSyntax
attribute = Sequence (one (codes "attributeId") attribute_id (one (codes "attributeValue") Any NoParts))

-- a piece of a substrings item
abbrev pub piece : TypeSyntax
piece = Sequence (one unnamed attribute_id (one unnamed Any NoParts))

abbrev pub substrings : TypeSyntax
substrings =
    sequence_of (Choice (one (codes "initial") (implicit 0 piece)
    (one (codes "any") (implicit 1 piece) (one (codes "final") (implicit 2 piece) NoParts))))

abbrev pub filter_item : TypeSyntax
filter_item =
    Choice (one (codes "equality") (implicit 0 attribute) (one (codes "substrings") (implicit 1 substrings)
    (one (codes "greaterOrEqual") (implicit 2 attribute) (one (codes "lessOrEqual") (implicit 3 attribute)
    (one (codes "present") (explicit 4 attribute_id) (one (codes "subsetOf") (implicit 5 attribute)
    (one (codes "supersetOf") (implicit 6 attribute)
    (one (codes "nonNullSetIntersection") (implicit 7 attribute) NoParts))))))))

-- CMISFilter by its alternatives
abbrev pub filter_choice : TypeSyntax
filter_choice =
    Choice (one (codes "item") (explicit 8 filter_item) (one (codes "and") (implicit 9 (set_of Filter))
    (one (codes "or") (implicit 10 (set_of Filter)) (one (codes "not") (explicit 11 Filter) NoParts))))

-- 0 baseObject, 1 firstLevelOnly, 2 wholeSubtree
abbrev pub scope : TypeSyntax
scope =
    Choice (one unnamed number (one (codes "individualLevels") (implicit 1 number)
    (one (codes "baseToNthLevel") (implicit 2 number) NoParts)))

-- class and instance, the components with which arguments and results begin
abbrev pub object_parts : TypeParts → TypeParts
object_parts rest = one (codes "objectClass") object_class (one (codes "objectInstance") object_instance rest)

abbrev pub base : TypeSyntax
base = Sequence (object_parts NoParts)

abbrev pub current_time : TypeSyntax
current_time = implicit 5 GeneralizedTime
