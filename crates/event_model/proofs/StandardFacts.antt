-- Discriminators, computed: which associations a report goes to, and how often: X.734, section 8. An element {5}
-- reports trouble; two discriminators send every event to the title of association 1.
use Rattle.std.specs.Prelude.{◌≡◌, ℕ, None, Some, List, [], ◌∷◌, refl}
use Rattle.term_values.specs.BerReading.{front_of, identifier_of, length_at}
use Rattle.term_values.specs.Der.{identifier_octets, length_octets}
use Rattle.term_values.specs.Moment.{date_from, date_in_year, moment_text}
use Rattle.term_values.specs.Octets.{integer_contents, integer_in}
use Rattle.term_values.specs.Oid.{oid_in, subidentifier}
use Rattle.term_values.specs.Typed.{listed}
use Rattle.term_values.specs.Typed.TypedValue.{Identifier, Many, Pick}
use Rattle.term_model.specs.declared.effect.Effect.{Effect}
use Rattle.term_model.specs.declared.effect.Source.{Source}
use Rattle.term_model.specs.declared.effect.What.{What}
use Rattle.term_model.specs.declared.effect.What.TheVariants as what
use Rattle.term_model.specs.declared.event.Event.{Event}
use Rattle.term_model.specs.declared.objects.NamedObject.{NamedObject}
use Rattle.term_model.specs.declared.reply.Reply.TheVariants.{Empty}
use Rattle.term_model.proofs.ExampleNetwork.{element_oid}
use Rattle.event_model.specs.Discriminators.{Target, Titled, event_targets}
use Rattle.event_model.specs.LogSelection.{event_logs}
use Rattle.event_model.specs.SourceEvents.{events_of, granted_at}
use Rattle.event_model.proofs.ExampleEvents.{class_id, discriminator, discriminator_part, discriminator_with}
use Rattle.event_model.proofs.ExampleEvents.{element_at, element_part, events, every_event, log_part, log_with}
use Rattle.event_model.proofs.ExampleEvents.{notification_id, root}
use Rattle.event_model.proofs.ExampleEvents.{title, trouble}

-- ---- associations

abbrev associations : List Titled
associations = (1, title 1) ∷ (2, title 2) ∷ []

-- ---- what happened, and its event

abbrev effect : What → Source
effect told = record { name = element_part 5 ∷ []; class = element_oid; what = told }

abbrev alone : Source → Effect
alone source = record { changes = []; reply = Empty; sources = source ∷ [] }

-- the text of the time 0, 19700101000000Z
abbrev beginning : List ℕ
beginning = 49 ∷ 57 ∷ 55 ∷ 48 ∷ 48 ∷ 49 ∷ 48 ∷ 49 ∷ 48 ∷ 48 ∷ 48 ∷ 48 ∷ 48 ∷ 48 ∷ 90 ∷ []

begins_at : granted_at 0 ≡ beginning
unfolding moment_text date_from date_in_year
begins_at = refl

-- trouble with the information 3, reported by a manager without a time
abbrev report : Event
report = record {
  class = element_oid;
  name = element_part 5 ∷ [];
  kind = trouble;
  time = beginning;
  info = Some (2 ∷ 1 ∷ 3 ∷ []);
}

reported : events_of events (alone (effect (what.Reported trouble None (Some (2 ∷ 1 ∷ 3 ∷ []))))) 0 ≡ report ∷ []
unfolding moment_text date_from date_in_year
reported = refl

-- ---- two discriminators with one destination give two reports to association 1

abbrev objects : List NamedObject
objects = root ∷ element_at 5 ∷ discriminator 1 ∷ discriminator 2 ∷ []

abbrev first_of : ℕ → Target
first_of n = (discriminator_part n ∷ [], 1)

two_reports : event_targets events objects associations report ≡ first_of 1 ∷ first_of 2 ∷ []
unfolding identifier_octets length_octets integer_contents integer_in subidentifier identifier_of length_at front_of
two_reports = refl

-- Association 2 creates a third one. The event of its creation is asked on the objects as they are then: it passes all
-- three, by the order of their names.
abbrev created : Source
created = record { name = discriminator_part 3 ∷ []; class = class_id 3; what = what.Created }

-- SEQUENCE { sourceIndicator managementOperation 1 }
abbrev creation : Event
creation = record {
  class = class_id 3;
  name = discriminator_part 3 ∷ [];
  kind = notification_id 1;
  time = beginning;
  info = Some (0x30 ∷ 0x03 ∷ 0x0A ∷ 0x01 ∷ 0x01 ∷ []);
}

creation_told : events_of events (alone created) 0 ≡ creation ∷ []
unfolding moment_text date_from date_in_year identifier_octets length_octets integer_contents
creation_told = refl

three_reports : event_targets events (root ∷ element_at 5 ∷ discriminator 1 ∷ discriminator 2 ∷ discriminator 3 ∷ [])
    associations creation ≡ first_of 1 ∷ first_of 2 ∷ first_of 3 ∷ []
unfolding identifier_octets length_octets integer_contents integer_in subidentifier identifier_of length_at front_of
three_reports = refl

-- asked as they were before, it would pass two
two_before : event_targets events objects associations creation ≡ first_of 1 ∷ first_of 2 ∷ []
unfolding identifier_octets length_octets integer_contents integer_in subidentifier identifier_of length_at front_of
two_before = refl

-- with the second one locked
one_locked : event_targets events
    (root ∷ element_at 5 ∷ discriminator 1 ∷ discriminator_with 2 0 every_event (Pick 0 (Identifier (title 1)))
    ∷ discriminator 3 ∷ []) associations report ≡ first_of 1 ∷ first_of 3 ∷ []
unfolding identifier_octets length_octets integer_contents integer_in subidentifier identifier_of length_at front_of
one_locked = refl

-- ---- constructs and destinations

-- item: equality of perceivedSeverity and critical 1, which a report of trouble hasn't
abbrev critical : List ℕ
critical =
    0xA8 ∷ 0x0C ∷ 0xA0 ∷ 0x0A ∷ 0x80 ∷ 0x05 ∷ 0x88 ∷ 0x37 ∷ 0x09 ∷ 0x07 ∷ 0x18 ∷ 0x0A ∷ 0x01 ∷ 0x01 ∷ []

abbrev alarm : Event
alarm = record report {
  kind = notification_id 5;
  info = Some (0x30 ∷ 0x06 ∷ 0x02 ∷ 0x01 ∷ 0x05 ∷ 0x0A ∷ 0x01 ∷ 0x01 ∷ []);
}

abbrev of_critical : List NamedObject
of_critical = root ∷ discriminator_with 1 1 critical (Pick 0 (Identifier (title 1))) ∷ []

critical_alarm : event_targets events of_critical associations alarm ≡ first_of 1 ∷ []
unfolding identifier_octets length_octets integer_contents integer_in oid_in subidentifier identifier_of length_at
    front_of
critical_alarm = refl

no_alarm : event_targets events of_critical associations report ≡ []
unfolding identifier_octets length_octets integer_contents integer_in oid_in subidentifier identifier_of length_at
    front_of
no_alarm = refl

-- an item on discriminatorConstruct, which has no rule: the filter is invalid, and passes nothing, not even under not
abbrev invalid : List ℕ
invalid =
    0xAB ∷ 0x0D ∷ 0xA8 ∷ 0x0B ∷ 0xA5 ∷ 0x09 ∷ 0x80 ∷ 0x05 ∷ 0x88 ∷ 0x37 ∷ 0x09 ∷ 0x07 ∷ 0x0B ∷ 0x05 ∷ 0x00 ∷ []

invalid_construct : event_targets events
    (root ∷ discriminator_with 1 1 invalid (Pick 0 (Identifier (title 1))) ∷ []) associations report ≡ []
unfolding identifier_octets length_octets integer_contents integer_in oid_in subidentifier identifier_of length_at
    front_of
invalid_construct = refl

-- multiple : both titles, by rising number
both_titles : event_targets events
    (root
    ∷ discriminator_with 1 1 every_event (Pick 1 (Many (listed (Identifier (title 2) ∷ Identifier (title 1) ∷ []))))
    ∷ []) associations report ≡ (discriminator_part 1 ∷ [], 1) ∷ (discriminator_part 1 ∷ [], 2) ∷ []
unfolding identifier_octets length_octets integer_contents integer_in subidentifier identifier_of length_at front_of
both_titles = refl

-- ---- logs

passed_log : event_logs events (root ∷ log_with 0 0 0 0 [] ∷ []) report ≡ (log_part ∷ []) ∷ []
unfolding identifier_octets length_octets integer_contents integer_in subidentifier identifier_of length_at front_of
passed_log = refl
