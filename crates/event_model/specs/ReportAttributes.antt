-- The attributes of an event report, of which the filters of discriminators and logs are asked: X.734, section 8;
-- docs/PROFILE.md, section 21. They are the class, the instance in its local form, the event type and the time, each
-- where the schema has its attribute with the syntax of X.721, and the fields of AND ATTRIBUTE IDS that are present.
use Rattle.std.specs.Prelude.{ℕ, List, [], ◌∷◌, ◌++◌, Option, None, Some, find}
use Rattle.std.specs.Prelude.{flat_map, if◌then◌else◌}
use Rattle.std.specs.Option.{option_map_or}
use Rattle.term_values.specs.MatchingKinds.{beneath_tags}
use Rattle.term_values.specs.SameValue.{same_octets}
use Rattle.term_values.specs.Syntaxes.{TypeSyntax, TypeParts}
use Rattle.term_values.specs.Syntaxes.TypeParts.{NoParts, Part}
use Rattle.term_values.specs.Syntaxes.TypeSyntax.{Sequence, SetType}
use Rattle.term_values.specs.Typed.{TypedSlots, TypedValue}
use Rattle.term_values.specs.Typed.TypedSlots.{Empty, Filled, NoSlots}
use Rattle.term_values.specs.Typed.TypedValue.{Parts, Time}
use Rattle.term_model.specs.declared.actions.AttributeField.{AttributeField}
use Rattle.term_model.specs.declared.actions.NoteRec.{NoteRec}
use Rattle.term_model.specs.declared.event.Event.{Event}
use Rattle.term_model.specs.declared.object.Attribute.{Attribute}
use Rattle.term_model.specs.declared.schema.AttrRec.{AttrRec}
use Rattle.term_model.specs.declared.schema.Set.{Set}
use Rattle.term_model.specs.Comparing.{is_same_oid}
use Rattle.term_model.specs.CreateValues.{value_of_octets}
use Rattle.term_model.specs.ResultValues.{global_value, local_instance}
use Rattle.event_model.specs.EventAttributes.{attribute_known, class_attribute, instance_attribute, time_attribute}
use Rattle.event_model.specs.EventAttributes.{type_attribute}
use Rattle.event_model.specs.LabelledValues.{by_identifier}

-- an attribute with a value, where the schema has it with this label and syntax
abbrev pub held_as : TypedValue → List ℕ → Attribute
held_as value id = record { id = id; value = value }

abbrev pub held_known : List AttrRec → List ℕ × TypeSyntax → TypedValue → List Attribute
held_known records wanted value =
    option_map_or (λ id. held_as value id ∷ []) (attribute_known records wanted) []

-- the four that each report has
abbrev pub own_attributes : List AttrRec → Event → List Attribute
own_attributes records event =
    held_known records class_attribute (global_value event.class)
    ++ held_known records instance_attribute (local_instance event.name)
    ++ held_known records type_attribute (global_value event.kind)
    ++ held_known records time_attribute (Time event.time)

-- the notification with this identifier
abbrev pub notification_record : List NoteRec → List ℕ → Option NoteRec
notification_record records id = find (λ (note : NoteRec). is_same_oid note.id id) records

-- the value of the first component with this name, where it is present
abbrev pub component_in : List ℕ → TypeParts → TypedSlots → Option TypedValue
component_in name (Part own syntax optional default rest) (Filled value slots) =
    if same_octets own name then Some value else component_in name rest slots
component_in name (Part own syntax optional default rest) (Empty slots) =
    if same_octets own name then None else component_in name rest slots
component_in name (Part own syntax optional default rest) NoSlots = None
component_in name NoParts slots = None

abbrev pub component_of_slots : List ℕ → TypeParts → TypedValue → Option TypedValue
component_of_slots name parts (Parts slots) = component_in name parts slots
component_of_slots name parts _ = None

-- of a SEQUENCE or a SET
abbrev pub component_of : List ℕ → TypeSyntax → TypedValue → Option TypedValue
component_of name (Sequence parts) value = component_of_slots name parts value
component_of name (SetType parts) value = component_of_slots name parts value
component_of name _ value = None

-- a field that is present
abbrev pub field_held : TypeSyntax → TypedValue → AttributeField → List Attribute
field_held syntax value field =
    option_map_or (λ held. held_as held field.attribute ∷ [])
    (component_of field.component (beneath_tags syntax) value) []

abbrev pub fields_of : TypeSyntax → List AttributeField → TypedValue → List Attribute
fields_of syntax fields value = flat_map (field_held syntax value) fields

-- those of the information that stands in these octets
abbrev pub fields_in : NoteRec → Option (List ℕ) → List Attribute
fields_in note None = []
fields_in note (Some octets) =
    option_map_or
    (λ syntax. option_map_or (fields_of syntax note.fields) (value_of_octets syntax octets) [])
    note.information []

abbrev pub field_attributes : List NoteRec → Event → List Attribute
field_attributes records event =
    option_map_or (λ note. fields_in note event.info) (notification_record records event.kind) []

-- Where one attribute would stand twice the first holds, the four before the fields.
abbrev pub report_attributes : Set → Event → List Attribute
report_attributes schema event =
    by_identifier (own_attributes schema.attributes event ++ field_attributes schema.notifications event)
