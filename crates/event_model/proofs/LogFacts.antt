-- Appends, computed: X.735, section 8. An element {5} reports trouble at the time 0; its record in the log {1} has 178
-- octets: ten attributes with 16, 16, 11, 12, 26, 15, 24, 15, 26 and 14 octets, and 3 of the SET OF.
use Rattle.std.specs.Prelude.{◌≡◌, ℕ, pos, negsuc, None, Option, Some, List, [], ◌∷◌, ◌++◌, refl}
use Rattle.term_values.specs.BerReading.{front_of, identifier_of, length_at}
use Rattle.term_values.specs.Der.{identifier_octets, length_octets}
use Rattle.term_values.specs.Moment.{date_from, date_in_year, moment_text}
use Rattle.term_values.specs.Octets.{integer_contents, integer_in}
use Rattle.term_values.specs.Oid.{subidentifier}
use Rattle.term_values.specs.Typed.{TypedValue}
use Rattle.term_values.specs.Typed.TypedSlots.{Filled, NoSlots}
use Rattle.term_values.specs.Typed.TypedValue.{Identifier, Int, Many, Octets, Parts, Pick, Raw, Time}
use Rattle.term_values.specs.Typed.TypedValues.{Nothing, Then}
use Rattle.term_model.specs.declared.effect.Effect.{Effect}
use Rattle.term_model.specs.declared.effect.What.TheVariants.{Emitted}
use Rattle.term_model.specs.declared.event.Event.{Event}
use Rattle.term_model.specs.declared.name.Rdn.{Rdn}
use Rattle.term_model.specs.declared.object.Object.{Object}
use Rattle.term_model.specs.declared.objects.NamedObject.{NamedObject}
use Rattle.term_model.specs.declared.reply.Reply.TheVariants.{Empty}
use Rattle.term_model.proofs.ExampleNetwork.{element_oid, id_oid}
use Rattle.event_model.specs.Appends.{append_effect, appended, nothing_done}
use Rattle.event_model.specs.HeldRecords.{held_records, next_number}
use Rattle.event_model.specs.SourceEvents.{events_of}
use Rattle.event_model.proofs.ExampleEvents.{binding_id, class_id, element_at, element_part, events, held, id}
use Rattle.event_model.proofs.ExampleEvents.{log_part, log_with, notification_id, root, trouble}

-- the text of the time 0, 19700101000000Z
abbrev beginning : List ℕ
beginning = 49 ∷ 57 ∷ 55 ∷ 48 ∷ 48 ∷ 49 ∷ 48 ∷ 49 ∷ 48 ∷ 48 ∷ 48 ∷ 48 ∷ 48 ∷ 48 ∷ 90 ∷ []

abbrev report : Event
report = record {
  class = element_oid;
  name = element_part 5 ∷ [];
  kind = trouble;
  time = beginning;
  info = Some (2 ∷ 1 ∷ 3 ∷ []);
}

-- { { elementId = 5 } }
abbrev five : TypedValue
five =
    Pick 2 (Many (Then
    (Many (Then (Parts (Filled (Identifier id_oid) (Filled (Raw (2 ∷ 1 ∷ 5 ∷ [])) NoSlots))) Nothing)) Nothing))

-- the record with this number
abbrev entry : ℕ → NamedObject
entry n = record {
  name = log_part ∷ record { attribute = id 7; value = 2 ∷ 1 ∷ n ∷ [] } ∷ [];
  object = record {
    class = class_id 5;
    binding = Some (binding_id 3);
    chosen = [];
    attrs =
        held (id 1) (Identifier (class_id 5)) ∷ held (id 2) (Identifier (binding_id 3)) ∷ held (id 3) (Many Nothing)
        ∷ held (id 7) (Int (pos n)) ∷ held (id 17) (Time beginning)
        ∷ held (id 18) (Pick 0 (Identifier element_oid)) ∷ held (id 19) five
        ∷ held (id 20) (Pick 0 (Identifier trouble)) ∷ held (id 21) (Time beginning)
        ∷ held (id 22) (Octets (2 ∷ 1 ∷ 3 ∷ [])) ∷ [];
  };
}

abbrev log_name : List Rdn
log_name = log_part ∷ []

abbrev left_as : NamedObject → List Rdn × Option Object
left_as left = (left.name, Some left.object)

abbrev doing : List (List Rdn × Option Object) → Effect
doing changes = record { changes = changes; reply = Empty; sources = [] }

-- the objects of the system: the root, the log, and what stands below the log
abbrev with_log : NamedObject → List NamedObject → List NamedObject
with_log log below = root ∷ element_at 5 ∷ log ∷ below

-- ---- a log that halts, and holds as many octets as two records have

first_put : appended events (with_log (log_with 1 356 0 0 []) []) log_name report 0
    ≡ doing (left_as (entry 1) ∷ left_as (log_with 1 356 178 1 []) ∷ [])
unfolding moment_text date_from date_in_year identifier_octets length_octets integer_contents integer_in subidentifier
    identifier_of length_at front_of
first_put = refl

second_put : appended events (with_log (log_with 1 356 178 1 []) (entry 1 ∷ [])) log_name report 0
    ≡ doing (left_as (entry 2) ∷ left_as (log_with 1 356 356 2 []) ∷ [])
unfolding moment_text date_from date_in_year identifier_octets length_octets integer_contents integer_in subidentifier
    identifier_of length_at front_of
second_put = refl

abbrev both : List NamedObject
both = entry 1 ∷ entry 2 ∷ []

-- SEQUENCE { probableCause 1, perceivedSeverity minor 3 }
abbrev alarm_octets : List ℕ
alarm_octets = 0x30 ∷ 0x06 ∷ 0x02 ∷ 0x01 ∷ 0x01 ∷ 0x0A ∷ 0x01 ∷ 0x03 ∷ []

-- the third event is dropped: the log is full, and says so
abbrev full : Effect
full = record {
  changes = left_as (log_with 1 356 356 2 (8 ∷ [])) ∷ [];
  reply = Empty;
  sources =
      record { name = log_name; class = class_id 4; what = Emitted (notification_id 6) (Some alarm_octets) } ∷ [];
}

third_dropped : appended events (with_log (log_with 1 356 356 2 []) both) log_name report 0 ≡ full
unfolding moment_text date_from date_in_year identifier_octets length_octets integer_contents integer_in subidentifier
    identifier_of length_at front_of
third_dropped = refl

one_alarm : events_of events full 0
    ≡ record {
      class = class_id 4;
      name = log_name;
      kind = notification_id 6;
      time = beginning;
      info = Some alarm_octets;
    } ∷ []
unfolding moment_text date_from date_in_year
one_alarm = refl

-- the fourth too, and nothing is said
fourth_dropped : appended events (with_log (log_with 1 356 356 2 (8 ∷ [])) both) log_name report 0 ≡ nothing_done
unfolding moment_text date_from date_in_year identifier_octets length_octets integer_contents integer_in subidentifier
    identifier_of length_at front_of
fourth_dropped = refl

-- with a maxLogSize of one octet less the second event is dropped
second_dropped : appended events (with_log (log_with 1 355 178 1 []) (entry 1 ∷ [])) log_name report 0
    ≡ record full { changes = left_as (log_with 1 355 178 1 (8 ∷ [])) ∷ [] }
unfolding moment_text date_from date_in_year identifier_octets length_octets integer_contents integer_in subidentifier
    identifier_of length_at front_of
second_dropped = refl

-- ---- a log that wraps: the record of least number goes

wraps : appended events (with_log (log_with 0 356 356 2 []) both) log_name report 0
    ≡ doing (((entry 1).name, None) ∷ left_as (entry 3) ∷ left_as (log_with 0 356 356 2 []) ∷ [])
unfolding moment_text date_from date_in_year identifier_octets length_octets integer_contents integer_in subidentifier
    identifier_of length_at front_of
wraps = refl

-- with all objects below it; what the log tells of its records before doesn't matter
abbrev below_entry : NamedObject
below_entry = record (element_at 6) { name = (entry 1).name ++ element_part 6 ∷ [] }

wraps_with_subordinates :
    appended events (with_log (log_with 0 356 5 9 []) (entry 1 ∷ below_entry ∷ entry 2 ∷ [])) log_name report 0
    ≡ doing (((entry 1).name, None) ∷ (below_entry.name, None) ∷ left_as (entry 3)
    ∷ left_as (log_with 0 356 356 2 []) ∷ [])
unfolding moment_text date_from date_in_year identifier_octets length_octets integer_contents integer_in subidentifier
    identifier_of length_at front_of
wraps_with_subordinates = refl

-- a record that is larger than the log may be is dropped, whether it wraps or halts
too_large : appended events (with_log (log_with 0 177 178 1 []) (entry 1 ∷ [])) log_name report 0 ≡ nothing_done
unfolding moment_text date_from date_in_year identifier_octets length_octets integer_contents integer_in subidentifier
    identifier_of length_at front_of
too_large = refl

-- a maxLogSize of 0 is none
no_limit : appended events (with_log (log_with 1 0 178 1 []) (entry 1 ∷ [])) log_name report 0
    ≡ doing (left_as (entry 2) ∷ left_as (log_with 1 0 356 2 []) ∷ [])
unfolding moment_text date_from date_in_year identifier_octets length_octets integer_contents integer_in subidentifier
    identifier_of length_at front_of
no_limit = refl

-- ---- what is no append

no_log : appended events (root ∷ element_at 5 ∷ []) log_name report 0 ≡ nothing_done
no_log = refl

-- the name of an object that is no log
no_bound_log : appended events (root ∷ element_at 5 ∷ []) (element_part 5 ∷ []) report 0 ≡ nothing_done
no_bound_log = refl

no_record : append_effect events (with_log (log_with 1 356 0 0 []) []) log_name None 0 ≡ nothing_done
no_record = refl

-- without the binding no record is made
no_binding : appended (record events { bindings = [] }) (with_log (log_with 1 356 0 0 []) []) log_name report 0
    ≡ nothing_done
unfolding integer_in identifier_of length_at front_of
no_binding = refl

-- ---- numbers

numbers_held : held_records events log_name (with_log (log_with 1 356 356 2 []) both)
    ≡ record { number = pos 1; size = 178 } ∷ record { number = pos 2; size = 178 } ∷ []
unfolding moment_text date_from date_in_year identifier_octets length_octets integer_contents integer_in subidentifier
    identifier_of length_at front_of
numbers_held = refl

first_number : next_number [] ≡ pos 1
first_number = refl

after_greatest : next_number (pos 3 ∷ negsuc 0 ∷ pos 7 ∷ []) ≡ pos 8
after_greatest = refl

after_negative : next_number (negsuc 4 ∷ []) ≡ negsuc 3
after_negative = refl
