-- The information of the notifications that the agent itself emits, as a value of the type that a notification has for
-- it: X.721, types ObjectInfo, AttributeValueChangeInfo, StateChangeInfo and AlarmInfo; docs/PROFILE.md, section 21. A
-- type is of such a shape where it is a SEQUENCE or a SET, under any tags, with the components of the shape, the first
-- of each name, and all others may be left out; these are left out, or hold their DEFAULT.
use Rattle.std.specs.Prelude.{ℕ, ℤ, pos, List, [], ◌∷◌, Bool, true, false, ◌&&◌, ◌||◌, not, Option, None, Some}
use Rattle.std.specs.Prelude.{codes, filter, find, is_some, map, option_and_then, if◌then◌else◌}
use Rattle.std.specs.Option.{option_map, option_map_or}
use Rattle.term_values.specs.CmipTypes.{attribute_id}
use Rattle.term_values.specs.Decoding.{left_out}
use Rattle.term_values.specs.FitTest.{value_fits}
use Rattle.term_values.specs.MatchingKinds.{beneath_tags}
use Rattle.term_values.specs.SameSyntax.{same_syntax}
use Rattle.term_values.specs.SameValue.{same_octets}
use Rattle.term_values.specs.Syntaxes.{Named, TypeSyntax, TypeParts}
use Rattle.term_values.specs.Syntaxes.TypeParts.{NoParts, Part}
use Rattle.term_values.specs.Syntaxes.TypeSyntax.{Any, Enumerated, Sequence, SetOf, SetType}
use Rattle.term_values.specs.Typed.{TypedSlots, TypedValue}
use Rattle.term_values.specs.Typed.TypedSlots.{Filled, NoSlots}
use Rattle.term_values.specs.Typed.TypedValue.{Int, Parts, Raw}
use Rattle.term_model.specs.declared.effect.Diff.{Diff}
use Rattle.term_model.specs.ResultValues.{global_value, set_value}

-- OPTIONAL, or with a DEFAULT
abbrev pub may_be_left_out : Bool → Option TypedValue → Bool
may_be_left_out optional default = optional || is_some default

-- A component of a shape: its name, and the value that it has in a type, of which it is told whether it may be left out
-- there. It has none in a type that isn't of the shape.
pub record Component : Type 0 where
  pub name : List ℕ
  pub value : TypeSyntax → Bool → Option TypedValue

abbrev pub is_called : List ℕ → Component → Bool
is_called name component = same_octets component.name name

-- the components of other names
abbrev pub others : List ℕ → List Component → List Component
others name components = filter (λ (component : Component). not (is_called name component)) components

-- where a type's components end, none of the shape is missing
abbrev pub none_missing : List Component → Option TypedSlots
none_missing [] = Some NoSlots
none_missing (component ∷ components) = None

-- a component with a value, and the further ones
abbrev pub filled : Option TypedValue → Option TypedSlots → Option TypedSlots
filled value slots = option_and_then (λ held. option_map (Filled held) slots) value

abbrev pub slots_in : List Component → TypeParts → Option TypedSlots
slots_in components NoParts = none_missing components
slots_in components (Part name syntax optional default rest) =
    option_map_or
    (λ (component : Component).
    filled (component.value syntax (may_be_left_out optional default)) (slots_in (others name components) rest))
    (find (is_called name) components)
    (left_out optional default (slots_in components rest))

abbrev pub value_beneath : List Component → TypeSyntax → Option TypedValue
value_beneath components (Sequence parts) = option_map Parts (slots_in components parts)
value_beneath components (SetType parts) = option_map Parts (slots_in components parts)
value_beneath components _ = None

-- the information with these components, where the type is of their shape
abbrev pub shaped_value : List Component → TypeSyntax → Option TypedValue
shaped_value components syntax = value_beneath components (beneath_tags syntax)

-- sourceIndicator, an ENUMERATED, has the number that is named managementOperation
abbrev pub number_named : List ℕ → Named → Option ℤ
number_named name names =
    option_map (λ (of_name : List ℕ × ℤ). of_name.1)
    (find (λ (of_name : List ℕ × ℤ). same_octets of_name.0 name) names)

abbrev pub indicated : TypeSyntax → Option TypedValue
indicated (Enumerated names) = option_map Int (number_named (codes "managementOperation") names)
indicated _ = None

abbrev pub source_indicator : Component
source_indicator = record {
  name = codes "sourceIndicator";
  value = λ syntax optional. indicated (beneath_tags syntax);
}

-- which may be left out
abbrev pub optional_indicator : Component
optional_indicator = record {
  name = codes "sourceIndicator";
  value = λ syntax optional. if optional then indicated (beneath_tags syntax) else None;
}

-- of objectCreation and objectDeletion
abbrev pub object_components : List Component
object_components = optional_indicator ∷ []

-- SEQUENCE { attributeId, oldAttributeValue ANY OPTIONAL, newAttributeValue ANY }
abbrev pub is_any : TypeSyntax → Bool
is_any Any = true
is_any _ = false

abbrev pub is_identifier_part : List ℕ → TypeSyntax → Bool → Bool
is_identifier_part name syntax optional =
    same_octets name (codes "attributeId") && same_syntax (beneath_tags syntax) attribute_id && not optional

abbrev pub is_old_part : List ℕ → TypeSyntax → Bool → Bool
is_old_part name syntax optional =
    same_octets name (codes "oldAttributeValue") && is_any (beneath_tags syntax) && optional

abbrev pub is_new_part : List ℕ → TypeSyntax → Bool → Bool
is_new_part name syntax optional =
    same_octets name (codes "newAttributeValue") && is_any (beneath_tags syntax) && not optional

abbrev pub are_change_parts : TypeParts → Bool
are_change_parts
    (Part id of_id optional_id default_id
    (Part old of_old optional_old default_old (Part new of_new optional_new default_new NoParts))) =
    is_identifier_part id of_id (may_be_left_out optional_id default_id)
    && is_old_part old of_old (may_be_left_out optional_old default_old)
    && is_new_part new of_new (may_be_left_out optional_new default_new)
are_change_parts _ = false

abbrev pub is_change : TypeSyntax → Bool
is_change (Sequence parts) = are_change_parts parts
is_change _ = false

-- an attribute with its value before and its value now
abbrev pub change_value : Diff → TypedValue
change_value diff =
    Parts (Filled (global_value diff.attribute) (Filled (Raw diff.old) (Filled (Raw diff.new) NoSlots)))

-- a SET OF these, of which no size is stated
abbrev pub changes_in : List Diff → TypeSyntax → Option TypedValue
changes_in diffs (SetOf member []) =
    if is_change (beneath_tags member) then Some (set_value member (map change_value diffs)) else None
changes_in diffs _ = None

-- of attributeValueChange and stateChange, whose definition of the changes has this name
abbrev pub change_components : List ℕ → List Diff → List Component
change_components definition diffs =
    source_indicator
    ∷ record { name = definition; value = λ syntax optional. changes_in diffs (beneath_tags syntax) } ∷ []

-- of processingErrorAlarm: a component that has a number of its type
abbrev pub number_in : ℤ → TypeSyntax → Option TypedValue
number_in number syntax = if value_fits syntax (Int number) then Some (Int number) else None

-- probableCause 1 and perceivedSeverity minor 3
abbrev pub alarm_components : List Component
alarm_components =
    record { name = codes "probableCause"; value = λ syntax optional. number_in (pos 1) syntax }
    ∷ record { name = codes "perceivedSeverity"; value = λ syntax optional. number_in (pos 3) syntax } ∷ []
