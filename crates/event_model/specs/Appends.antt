-- What an append of an event to a log does: X.735, section 8; docs/PROFILE.md, section 21. It makes a record, which is
-- dropped where it would pass a limit, where its name is there already, where it is larger than the log may be, or
-- where the log halts and is full. Else, where the records would be larger than the log may be, the log wraps, so that
-- the records of least number go, or it halts: then it is full, and says so once. It is told by the log's own objects
-- and by the event.
use Rattle.std.specs.Prelude.{ℕ, ℤ, pos, ◌+◌, List, [], ◌∷◌, ◌++◌, Bool, false, ◌&&◌, ◌||◌, not, Option, None, Some}
use Rattle.std.specs.Prelude.{codes, drop, filter, flat_map, int_lt, is_some, length, map, nat_lt, option_and_then}
use Rattle.std.specs.Prelude.{sum, if◌then◌else◌}
use Rattle.std.specs.List.{starts_with}
use Rattle.std.specs.Option.{option_map_or}
use Rattle.std.specs.Ordering.{int_eq}
use Rattle.term_values.specs.SetMembers.{with_members}
use Rattle.term_values.specs.Syntaxes.{TypeSyntax}
use Rattle.term_values.specs.Typed.{TypedValue}
use Rattle.term_values.specs.Typed.TypedValue.{Int, Many}
use Rattle.term_values.specs.Typed.TypedValues.{Nothing, Then}
use Rattle.term_values.specs.Written.{der}
use Rattle.term_model.specs.declared.actions.NoteRec.{NoteRec}
use Rattle.term_model.specs.declared.effect.Effect.{Effect}
use Rattle.term_model.specs.declared.effect.Source.{Source}
use Rattle.term_model.specs.declared.effect.What.TheVariants.{Emitted}
use Rattle.term_model.specs.declared.event.Event.{Event}
use Rattle.term_model.specs.declared.name.Rdn.{Rdn}
use Rattle.term_model.specs.declared.object.Attribute.{Attribute}
use Rattle.term_model.specs.declared.object.Object.{Object}
use Rattle.term_model.specs.declared.objects.NamedObject.{NamedObject}
use Rattle.term_model.specs.declared.reply.Reply.TheVariants.{Empty}
use Rattle.term_model.specs.declared.schema.AttrRec.{AttrRec}
use Rattle.term_model.specs.declared.schema.Set.{Set}
use Rattle.term_model.specs.BoundClasses.{is_bound_log}
use Rattle.term_model.specs.ClassAttributes.{is_labelled, syntax_of}
use Rattle.term_model.specs.Comparing.{is_same_rdn}
use Rattle.term_model.specs.LogRecords.{counted_log, record_size}
use Rattle.term_model.specs.MatchTests.{have}
use Rattle.term_model.specs.NamedObjects.{object_at}
use Rattle.event_model.specs.EventRecords.{is_within_limits, record_of}
use Rattle.event_model.specs.HeldRecords.{next_number, numbered_records, record_number, whole_number}
use Rattle.event_model.specs.LabelledValues.{labelled_value}
use Rattle.event_model.specs.NotificationShapes.{alarm_components, shaped_value}
use Rattle.event_model.specs.Passing.{has_number}
use Rattle.event_model.specs.SourceEvents.{granted_at, notification_labelled}

-- an append that changes nothing
abbrev pub nothing_done : Effect
nothing_done = record { changes = []; reply = Empty; sources = [] }

-- ---- the log

-- so many octets are more than a maxLogSize that isn't 0
abbrev pub exceed : ℕ → ℤ → Bool
exceed octets most = not (int_eq most (pos 0)) && int_lt most (pos octets)

abbrev pub most_octets : List AttrRec → Object → Option ℤ
most_octets records log = option_and_then whole_number (labelled_value records (codes "maxLogSize") log.attrs)

abbrev pub are_too_many : List AttrRec → Object → ℕ → Bool
are_too_many records log octets = option_map_or (exceed octets) (most_octets records log) false

-- logFullAction is halt 1; else it is wrap
abbrev pub is_halting : List AttrRec → Object → Bool
is_halting records log = has_number records (codes "logFullAction") 1 log

-- logFull 8 is in availabilityStatus
abbrev pub has_full : TypedValue → Bool
has_full (Many statuses) = have statuses (Int (pos 8))
has_full _ = false

abbrev pub is_full : List AttrRec → Object → Bool
is_full records log = option_map_or has_full (labelled_value records (codes "availabilityStatus") log.attrs) false

abbrev pub with_full : List AttrRec → Attribute → Attribute
with_full records held =
    if is_labelled records (codes "availabilityStatus") held.id
    then record held {
      value =
          option_map_or (λ syntax. with_members syntax held.value (Many (Then (Int (pos 8)) Nothing)))
          (syntax_of records held.id) held.value;
    }
    else held

-- ---- a log that halts

-- processingErrorAlarm with probableCause 1 and perceivedSeverity minor 3, where the log's class has it with these
abbrev pub alarm_with : List Rdn → List ℕ → NoteRec → TypeSyntax → List Source
alarm_with name class note syntax =
    option_map_or
    (λ value. record { name = name; class = class; what = Emitted note.id (Some (der syntax value)) } ∷ [])
    (shaped_value alarm_components syntax) []

abbrev pub alarm_by : List Rdn → List ℕ → NoteRec → List Source
alarm_by name class note = option_map_or (alarm_with name class note) note.information []

abbrev pub full_alarm : Set → List Rdn → List ℕ → List Source
full_alarm schema name class =
    option_map_or (alarm_by name class) (notification_labelled schema class (codes "processingErrorAlarm")) []

abbrev pub halted : Set → List Rdn → Object → Effect
halted schema name log = record {
  changes = (name, Some (record log { attrs = map (with_full schema.attributes) log.attrs })) ∷ [];
  reply = Empty;
  sources = full_alarm schema name log.class;
}

-- ---- a log that takes the record

abbrev pub octets_of : Set → List NamedObject → ℕ
octets_of schema records = sum (map (record_size schema) records)

-- the records of least number that go, until those that are left have room beside one of this size
abbrev pub taken_away : Set → Object → ℕ → List NamedObject → List NamedObject
taken_away schema log size [] = []
taken_away schema log size (first ∷ others) =
    if are_too_many schema.attributes log (octets_of schema (first ∷ others) + size)
    then first ∷ taken_away schema log size others
    else []

abbrev pub left_of : Set → Object → ℕ → List NamedObject → List NamedObject
left_of schema log size records = drop (length (taken_away schema log size records)) records

-- a record goes with all objects below it
abbrev pub gone : NamedObject → List Rdn × Option Object
gone entry = (entry.name, None)

abbrev pub gone_with : List NamedObject → NamedObject → List (List Rdn × Option Object)
gone_with objects entry =
    map gone (filter (λ (other : NamedObject). starts_with is_same_rdn other.name entry.name) objects)

-- each name once, the log last: it tells of the records that there are then
abbrev pub put : Set → List NamedObject → List Rdn → Object → List NamedObject → NamedObject → Effect
put schema objects name log records entry = record {
  changes =
      flat_map (gone_with objects) (taken_away schema log (record_size schema entry) records)
      ++ (entry.name, Some entry.object)
      ∷ (name, Some (counted_log schema (left_of schema log (record_size schema entry) records ++ entry ∷ []) log))
      ∷ [];
  reply = Empty;
  sources = [];
}

-- ---- the append

-- the record is dropped
abbrev pub is_dropped : Set → List NamedObject → Object → ℤ → NamedObject → Bool
is_dropped schema objects log number entry =
    not (is_within_limits schema number entry) || is_some (object_at objects entry.name)
    || are_too_many schema.attributes log (record_size schema entry)
    || is_halting schema.attributes log && is_full schema.attributes log

-- the log halts as its records, by rising number, have no room beside it
abbrev pub halts_at : Set → Object → List NamedObject → NamedObject → Bool
halts_at schema log records entry =
    is_halting schema.attributes log
    && are_too_many schema.attributes log (octets_of schema records + record_size schema entry)

abbrev pub appended_record : Set → List NamedObject → List Rdn → Object → List NamedObject → ℤ → NamedObject → Effect
appended_record schema objects name log records number entry =
    if is_dropped schema objects log number entry then nothing_done
    else (if halts_at schema log records entry then halted schema name log
    else put schema objects name log records entry)

abbrev pub numbers_of : Set → List NamedObject → List ℤ
numbers_of schema records = map (record_number schema) records

abbrev pub appended_by : Set → List NamedObject → List Rdn → Object → List NamedObject → Event → ℕ → Effect
appended_by schema objects name log records event time =
    let number = next_number (numbers_of schema records) in
    option_map_or (appended_record schema objects name log records number)
    (record_of schema name log.class number (granted_at time) event) nothing_done

-- nothing is done where the name is not that of a log on which the agent acts
abbrev pub appended_at : Set → List NamedObject → List Rdn → Event → ℕ → Object → Effect
appended_at schema objects name event time log =
    if is_bound_log schema log.class
    then appended_by schema objects name log (numbered_records schema name objects) event time
    else nothing_done

-- the append of an event, granted at a moment, as if there were room for a further object
abbrev pub appended : Set → List NamedObject → List Rdn → Event → ℕ → Effect
appended schema objects name event time =
    option_map_or (appended_at schema objects name event time) (object_at objects name) nothing_done

-- an append whose own record is this event, or that has none; at 100,000 objects nothing is done
abbrev pub append_effect : Set → List NamedObject → List Rdn → Option Event → ℕ → Effect
append_effect schema objects name own time =
    if nat_lt (length objects) 100000
    then option_map_or (λ event. appended schema objects name event time) own nothing_done
    else nothing_done
