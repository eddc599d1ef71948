-- Events of an effect's sources, and the attributes of reports, computed: X.721, X.733; X.734, section 8. The octets of
-- the information are written by X.690.
use Rattle.std.specs.Prelude.{◌≡◌, ℕ, pos, None, Some, true, false, List, [], ◌∷◌, ◌++◌, codes, refl}
use Rattle.term_values.specs.BerReading.{front_of, identifier_of, length_at}
use Rattle.term_values.specs.Der.{identifier_octets, length_octets}
use Rattle.term_values.specs.Moment.{date_from, date_in_year, moment_text}
use Rattle.term_values.specs.Octets.{integer_contents, integer_in}
use Rattle.term_values.specs.Oid.{subidentifier}
use Rattle.term_values.specs.Syntaxes.{TypeSyntax}
use Rattle.term_values.specs.Syntaxes.TypeSyntax.{Any, Enumerated, GeneralizedTime, Integer, NullType, Sequence, SetOf}
use Rattle.term_values.specs.Syntaxes.TypeSyntax.{SetType, Tagged}
use Rattle.term_values.specs.Syntaxes.TypeParts.{NoParts, Part}
use Rattle.term_values.specs.Tag.{context}
use Rattle.term_values.specs.Typed.{TypedValue}
use Rattle.term_values.specs.Typed.TypedSlots.{Empty, Filled, NoSlots}
use Rattle.term_values.specs.Typed.TypedValue.{Identifier, Int, Many, Parts, Pick, Raw, Time}
use Rattle.term_values.specs.Typed.TypedValues.{Nothing, Then}
use Rattle.term_model.specs.declared.effect.Diff.{Diff}
use Rattle.term_model.specs.declared.effect.Effect.{Effect}
use Rattle.term_model.specs.declared.effect.Source.{Source}
use Rattle.term_model.specs.declared.effect.What.{What}
use Rattle.term_model.specs.declared.effect.What.TheVariants as what
use Rattle.term_model.specs.declared.event.Event.{Event}
use Rattle.term_model.specs.declared.name.Rdn.{Rdn}
use Rattle.term_model.specs.declared.object.Attribute.{Attribute}
use Rattle.term_model.specs.declared.reply.Reply.TheVariants.{Empty as no_reply}
use Rattle.term_model.specs.declared.schema.Set.{Set}
use Rattle.term_model.proofs.ExampleNetwork.{element_oid, id_oid, load_oid}
use Rattle.event_model.specs.LabelledValues.{by_identifier}
use Rattle.event_model.specs.NotificationShapes.{alarm_components, change_components, object_components, shaped_value}
use Rattle.event_model.specs.ReportAttributes.{report_attributes}
use Rattle.event_model.specs.SourceEvents.{events_of}
use Rattle.event_model.proofs.ExampleEvents.{alarm_info, change, element_part, events, held, id, indicator}
use Rattle.event_model.proofs.ExampleEvents.{notification, notification_id, notifications, object_info, severity}
use Rattle.event_model.proofs.ExampleEvents.{trouble}

-- the text of the time 0, 19700101000000Z
abbrev beginning : List ℕ
beginning = 49 ∷ 57 ∷ 55 ∷ 48 ∷ 48 ∷ 49 ∷ 48 ∷ 49 ∷ 48 ∷ 48 ∷ 48 ∷ 48 ∷ 48 ∷ 48 ∷ 90 ∷ []

abbrev five : List Rdn
five = element_part 5 ∷ []

abbrev of_five : What → Source
of_five told = record { name = five; class = element_oid; what = told }

abbrev with_sources : List Source → Effect
with_sources sources = record { changes = []; reply = no_reply; sources = sources }

abbrev event : List ℕ → List ℕ → Event
event kind info = record { class = element_oid; name = five; kind = kind; time = beginning; info = Some info }

-- ---- the events of an action that changed load from 7 to 9 and administrativeState from 1 to 0, and emitted trouble

abbrev load_diff : Diff
load_diff = record { attribute = load_oid; old = 2 ∷ 1 ∷ 7 ∷ []; new = 2 ∷ 1 ∷ 9 ∷ [] }

abbrev state_diff : Diff
state_diff = record { attribute = id 8; old = 0x0A ∷ 1 ∷ 1 ∷ []; new = 0x0A ∷ 1 ∷ 0 ∷ [] }

-- SEQUENCE { managementOperation, SET OF { SEQUENCE { [0] load, [1] { INTEGER 7 }, [2] { INTEGER 9 } } } }
abbrev load_octets : List ℕ
load_octets =
    0x30 ∷ 0x17 ∷ 0x0A ∷ 0x01 ∷ 0x01 ∷ 0x31 ∷ 0x12 ∷ 0x30 ∷ 0x10 ∷ 0x80 ∷ 0x04 ∷ 0x88 ∷ 0x37 ∷ 0x07 ∷ 0x02
    ∷ 0xA1 ∷ 0x03 ∷ 0x02 ∷ 0x01 ∷ 0x07 ∷ 0xA2 ∷ 0x03 ∷ 0x02 ∷ 0x01 ∷ 0x09 ∷ []

-- SEQUENCE { managementOperation, SET OF { SEQUENCE { [0] administrativeState, [1] { 1 }, [2] { 0 } } } }
abbrev state_octets : List ℕ
state_octets =
    0x30 ∷ 0x18 ∷ 0x0A ∷ 0x01 ∷ 0x01 ∷ 0x31 ∷ 0x13 ∷ 0x30 ∷ 0x11 ∷ 0x80 ∷ 0x05 ∷ 0x88 ∷ 0x37 ∷ 0x09 ∷ 0x07 ∷ 0x08
    ∷ 0xA1 ∷ 0x03 ∷ 0x0A ∷ 0x01 ∷ 0x01 ∷ 0xA2 ∷ 0x03 ∷ 0x0A ∷ 0x01 ∷ 0x00 ∷ []

changes_then_steps : events_of events
    (with_sources (of_five (what.Differs (load_diff ∷ state_diff ∷ []))
    ∷ of_five (what.Emitted trouble (Some (2 ∷ 1 ∷ 3 ∷ []))) ∷ [])) 0
    ≡ event (notification_id 3) load_octets ∷ event (notification_id 4) state_octets
    ∷ event trouble (2 ∷ 1 ∷ 3 ∷ []) ∷ []
unfolding moment_text date_from date_in_year identifier_octets length_octets integer_contents subidentifier
changes_then_steps = refl

-- a change of states alone is told by stateChange alone
states_alone : events_of events (with_sources (of_five (what.Differs (state_diff ∷ [])) ∷ [])) 0
    ≡ event (notification_id 4) state_octets ∷ []
unfolding moment_text date_from date_in_year identifier_octets length_octets integer_contents subidentifier
states_alone = refl

-- where the class hasn't the notification, nothing is told: an element has no objectDeletion
no_deletion : events_of events (with_sources (of_five what.Deleted ∷ [])) 0 ≡ []
unfolding moment_text date_from date_in_year
no_deletion = refl

-- what a manager reported has the time that he named
named_time : events_of events
    (with_sources (of_five (what.Reported trouble (Some (codes "20260730T")) (Some (2 ∷ 1 ∷ 3 ∷ []))) ∷ [])) 0
    ≡ record (event trouble (2 ∷ 1 ∷ 3 ∷ [])) { time = codes "20260730T" } ∷ []
unfolding moment_text date_from date_in_year
named_time = refl

-- ---- shapes

abbrev present : TypedValue → TypedValue
present value = Parts (Filled value NoSlots)

creation_shape : shaped_value object_components object_info ≡ Some (present (Int (pos 1)))
creation_shape = refl

-- a SET under a tag, with a further component that may be left out
further_component : shaped_value object_components
    (Tagged (context 4) true (SetType
    (Part (codes "additional") NullType true None (Part (codes "sourceIndicator") indicator true None NoParts))))
    ≡ Some (Parts (Empty (Filled (Int (pos 1)) NoSlots)))
further_component = refl

-- one that holds its DEFAULT
default_component : shaped_value object_components
    (Sequence (Part (codes "sourceIndicator") indicator true None
    (Part (codes "additional") (Integer [] []) false (Some (Int (pos 6))) NoParts)))
    ≡ Some (Parts (Filled (Int (pos 1)) (Filled (Int (pos 6)) NoSlots)))
default_component = refl

-- no shape: a further component that must be there, no sourceIndicator, one that must be there, one without the name
needed_component : shaped_value object_components
    (Sequence (Part (codes "sourceIndicator") indicator true None
    (Part (codes "additional") NullType false None NoParts)))
    ≡ None
needed_component = refl

no_indicator : shaped_value object_components (Sequence NoParts) ≡ None
no_indicator = refl

needed_indicator :
    shaped_value object_components (Sequence (Part (codes "sourceIndicator") indicator false None NoParts)) ≡ None
needed_indicator = refl

other_indicator : shaped_value object_components
    (Sequence (Part (codes "sourceIndicator") (Enumerated ((codes "unknown", pos 2) ∷ [])) true None NoParts)) ≡ None
other_indicator = refl

-- the number is that of the name
own_number : shaped_value object_components
    (Sequence
    (Part (codes "sourceIndicator") (Enumerated ((codes "managementOperation", pos 7) ∷ [])) true None NoParts))
    ≡ Some (present (Int (pos 7)))
own_number = refl

-- of two components of one name the first one is meant, and the further one may be left out
named_twice : shaped_value object_components
    (Sequence (Part (codes "sourceIndicator") indicator true None
    (Part (codes "sourceIndicator") NullType true None NoParts)))
    ≡ Some (Parts (Filled (Int (pos 1)) (Empty NoSlots)))
named_twice = refl

-- the definition of changes: its SET OF states no size, and its three components stand in this order
abbrev of_changes : TypeSyntax → TypeSyntax
of_changes definition =
    Sequence (Part (codes "sourceIndicator") indicator false None
    (Part (codes "stateChangeDefinition") definition true None NoParts))

changes_shape : shaped_value (change_components (codes "stateChangeDefinition") []) (of_changes (SetOf change []))
    ≡ Some (Parts (Filled (Int (pos 1)) (Filled (Many Nothing) NoSlots)))
changes_shape = refl

sized_changes : shaped_value (change_components (codes "stateChangeDefinition") [])
    (of_changes (SetOf change ((pos 0, pos 9) ∷ []))) ≡ None
sized_changes = refl

other_changes : shaped_value (change_components (codes "stateChangeDefinition") [])
    (of_changes (SetOf (Sequence (Part (codes "newAttributeValue") Any false None NoParts)) [])) ≡ None
other_changes = refl

alarm_shape : shaped_value alarm_components alarm_info
    ≡ Some (Parts (Filled (Int (pos 1)) (Filled (Int (pos 3)) NoSlots)))
alarm_shape = refl

-- 3 is no value of the second component
no_alarm : shaped_value alarm_components
    (Sequence (Part (codes "probableCause") (Integer [] []) false None
    (Part (codes "perceivedSeverity") (Enumerated ((codes "minor", pos 2) ∷ [])) false None NoParts))) ≡ None
no_alarm = refl

-- ---- the attributes of a report

-- SEQUENCE { INTEGER 5, ENUMERATED 1 }
abbrev alarm : Event
alarm = event (notification_id 5) (0x30 ∷ 0x06 ∷ 0x02 ∷ 0x01 ∷ 0x05 ∷ 0x0A ∷ 0x01 ∷ 0x01 ∷ [])

abbrev instance : TypedValue
instance =
    Pick 2 (Many (Then
    (Many (Then (Parts (Filled (Identifier id_oid) (Filled (Raw (2 ∷ 1 ∷ 5 ∷ [])) NoSlots))) Nothing)) Nothing))

abbrev own : List ℕ → List Attribute
own kind =
    held (id 18) (Pick 0 (Identifier element_oid)) ∷ held (id 19) instance ∷ held (id 20) (Pick 0 (Identifier kind))
    ∷ held (id 21) (Time beginning) ∷ []

alarm_attributes : report_attributes events alarm
    ≡ own (notification_id 5) ++ held (id 23) (Int (pos 5)) ∷ held (id 24) (Int (pos 1)) ∷ []
unfolding integer_in identifier_of length_at front_of
alarm_attributes = refl

trouble_attributes : report_attributes events (event trouble (2 ∷ 1 ∷ 3 ∷ [])) ≡ own trouble
unfolding integer_in identifier_of length_at front_of
trouble_attributes = refl

-- A field that is eventTime doesn't take the place of the report's own time, nor a second field that of the first one
-- for its attribute. A field that is left out isn't there.
abbrev timed : Set
timed = record events {
  notifications =
      record
      (notification trouble (codes "trouble")
      (Sequence (Part (codes "when") GeneralizedTime true None (Part (codes "one") (Integer [] []) true None
      (Part (codes "other") (Integer [] []) true None (Part (codes "severity") severity true None NoParts)))))) {
        fields =
            record { component = codes "when"; attribute = id 21 }
            ∷ record { component = codes "one"; attribute = id 23 }
            ∷ record { component = codes "other"; attribute = id 23 }
            ∷ record { component = codes "severity"; attribute = id 24 } ∷ [];
      } ∷ notifications;
}

-- SEQUENCE { GeneralizedTime 2026073012, INTEGER 5, INTEGER 6 }
abbrev timed_octets : List ℕ
timed_octets = (0x30 ∷ 0x12 ∷ 0x18 ∷ 0x0A ∷ []) ++ codes "2026073012" ++ (2 ∷ 1 ∷ 5 ∷ 2 ∷ 1 ∷ 6 ∷ [])

first_holds : report_attributes timed (event trouble timed_octets) ≡ own trouble ++ held (id 23) (Int (pos 5)) ∷ []
unfolding integer_in identifier_of length_at front_of
first_holds = refl

sorted_once : by_identifier (held (id 5) (Int (pos 1)) ∷ held (id 3) (Int (pos 2)) ∷ held (id 5) (Int (pos 3)) ∷ [])
    ≡ held (id 3) (Int (pos 2)) ∷ held (id 5) (Int (pos 1)) ∷ []
sorted_once = refl
