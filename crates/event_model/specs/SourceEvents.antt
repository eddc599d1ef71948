-- The events of an effect's sources, in their order: X.721, the notifications that tell of objects; X.733; X.734,
-- section 8; docs/PROFILE.md, section 21.
use Rattle.std.specs.Prelude.{ℕ, List, [], ◌∷◌, ◌++◌, Bool, ◌&&◌, ◌||◌, not, min, Option, Some, codes, filter, find}
use Rattle.std.specs.Prelude.{flat_map}
use Rattle.std.specs.List.{list_any}
use Rattle.std.specs.Option.{option_map_or, unwrap_or}
use Rattle.term_values.specs.Moment.{moment_text}
use Rattle.term_values.specs.Syntaxes.{TypeSyntax}
use Rattle.term_values.specs.Written.{der}
use Rattle.term_model.specs.declared.actions.NoteRec.{NoteRec}
use Rattle.term_model.specs.declared.effect.Diff.{Diff}
use Rattle.term_model.specs.declared.effect.Effect.{Effect}
use Rattle.term_model.specs.declared.effect.Source.{Source}
use Rattle.term_model.specs.declared.effect.What.{What}
use Rattle.term_model.specs.declared.effect.What.TheVariants as what
use Rattle.term_model.specs.declared.event.Event.{Event}
use Rattle.term_model.specs.declared.packages.PackageRec.{PackageRec}
use Rattle.term_model.specs.declared.schema.AttrRec.{AttrRec}
use Rattle.term_model.specs.declared.schema.Set.{Set}
use Rattle.term_model.specs.ClassAttributes.{is_labelled}
use Rattle.term_model.specs.Comparing.{is_same_octets}
use Rattle.term_model.specs.PresentPackages.{is_among, packages_of}
use Rattle.event_model.specs.NotificationShapes.{Component, change_components, object_components, shaped_value}

-- a class has a notification: one of the packages that each object of the class has names it
abbrev pub has_notification : Set → List ℕ → List ℕ → Bool
has_notification schema class notification =
    list_any (λ (of_package : PackageRec). is_among of_package.notifications notification)
    (packages_of schema class [])

-- the notification with a label, where the class has it
abbrev pub notification_labelled : Set → List ℕ → List ℕ → Option NoteRec
notification_labelled schema class label =
    find (λ (note : NoteRec). is_same_octets note.label label && has_notification schema class note.id)
    schema.notifications

-- an event of an object, with its information written
abbrev pub event_with : Source → List ℕ → List ℕ → Option (List ℕ) → Event
event_with source kind time info = record {
  class = source.class;
  name = source.name;
  kind = kind;
  time = time;
  info = info;
}

abbrev pub event_shaped : Source → List ℕ → List Component → NoteRec → TypeSyntax → List Event
event_shaped source time components note syntax =
    option_map_or (λ value. event_with source note.id time (Some (der syntax value)) ∷ [])
    (shaped_value components syntax) []

abbrev pub event_noted : Source → List ℕ → List Component → NoteRec → List Event
event_noted source time components note =
    option_map_or (event_shaped source time components note) note.information []

-- the event that the agent itself emits: none where the class hasn't the notification of that label and shape
abbrev pub built_in_event : Set → Source → List ℕ → List ℕ → List Component → List Event
built_in_event schema source time label components =
    option_map_or (event_noted source time components) (notification_labelled schema source.class label) []

-- the attributes whose changes stateChange tells
abbrev pub is_state : List AttrRec → List ℕ → Bool
is_state records attribute =
    is_labelled records (codes "administrativeState") attribute
    || is_labelled records (codes "operationalState") attribute
    || is_labelled records (codes "availabilityStatus") attribute

abbrev pub state_changes : List AttrRec → List Diff → List Diff
state_changes records diffs = filter (λ (diff : Diff). is_state records diff.attribute) diffs

abbrev pub value_changes : List AttrRec → List Diff → List Diff
value_changes records diffs = filter (λ (diff : Diff). not (is_state records diff.attribute)) diffs

-- one report lists all of the changes, where there are some
abbrev pub change_event : Set → Source → List ℕ → List ℕ → List ℕ → List Diff → List Event
change_event schema source time label definition [] = []
change_event schema source time label definition (diff ∷ diffs) =
    built_in_event schema source time label (change_components definition (diff ∷ diffs))

abbrev pub change_events : Set → Source → List ℕ → List Diff → List Event
change_events schema source time diffs =
    change_event schema source time (codes "attributeValueChange") (codes "attributeValueChangeDefinition")
    (value_changes schema.attributes diffs)
    ++ change_event schema source time (codes "stateChange") (codes "stateChangeDefinition")
    (state_changes schema.attributes diffs)

-- The time is that of the grant, but of an event that a manager reported the one that he named.
abbrev pub events_by : Set → Source → List ℕ → What → List Event
events_by schema source time what.Created =
    built_in_event schema source time (codes "objectCreation") object_components
events_by schema source time what.Deleted =
    built_in_event schema source time (codes "objectDeletion") object_components
events_by schema source time (what.Differs diffs) = change_events schema source time diffs
events_by schema source time (what.Emitted kind info) = event_with source kind time info ∷ []
events_by schema source time (what.Reported kind named info) =
    event_with source kind (unwrap_or named time) info ∷ []

abbrev pub source_events : Set → List ℕ → Source → List Event
source_events schema time source = events_by schema source time source.what

-- the text of the moment of a grant, in seconds since 1970; one past the year 9998 is taken as its last second
abbrev pub granted_at : ℕ → List ℕ
granted_at time = moment_text (min time 253370764799)

abbrev pub events_of : Set → Effect → ℕ → List Event
events_of schema effect time = flat_map (source_events schema (granted_at time)) effect.sources
