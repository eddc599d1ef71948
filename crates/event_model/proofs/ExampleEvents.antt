-- The network of the examples: elements that emit events, and the discriminators, logs and records of X.721 below them.
-- The identifiers are those of the shipped definitions.
use Rattle.std.specs.Prelude.{ℕ, pos, None, Some, true, false, List, [], ◌∷◌, ◌++◌, codes, map}
use Rattle.term_values.specs.CmipTypes.{attribute_id, event_type_id, object_class, object_instance}
use Rattle.term_values.specs.Syntaxes.{TypeSyntax}
use Rattle.term_values.specs.Syntaxes.TypeSyntax.{Any, Choice, Enumerated, Filter, GeneralizedTime, Integer}
use Rattle.term_values.specs.Syntaxes.TypeSyntax.{ObjectIdentifier, OctetString, Sequence, SetOf, Tagged, TextString}
use Rattle.term_values.specs.Syntaxes.TypeParts.{NoParts, Part}
use Rattle.term_values.specs.Tag.{context}
use Rattle.term_values.specs.Typed.{TypedValue, listed}
use Rattle.term_values.specs.Typed.TypedValue.{Identifier, Int, Many, Pick, Raw}
use Rattle.term_values.specs.declared.charset.Charset.TheVariants as charsets
use Rattle.term_model.specs.declared.actions.NoteRec.{NoteRec}
use Rattle.term_model.specs.declared.name.Rdn.{Rdn}
use Rattle.term_model.specs.declared.name_binding.BindRec.{BindRec}
use Rattle.term_model.specs.declared.object.Attribute.{Attribute}
use Rattle.term_model.specs.declared.object.Object.{Object}
use Rattle.term_model.specs.declared.objects.NamedObject.{NamedObject}
use Rattle.term_model.specs.declared.packages.Property.{Property}
use Rattle.term_model.specs.declared.schema.AttrRec.{AttrRec}
use Rattle.term_model.specs.declared.schema.ClassRec.{ClassRec}
use Rattle.term_model.specs.declared.schema.Set.{Set}
use Rattle.term_model.proofs.ExampleNetwork.{element_class, element_oid, element_package, id_oid, id_property}
use Rattle.term_model.proofs.ExampleNetwork.{id_template, load_oid, load_template, network, ordered}

-- ---- identifiers: attributes, classes, bindings and notifications by number

abbrev pub id : ℕ → List ℕ
id n = 2 ∷ 999 ∷ 9 ∷ 7 ∷ n ∷ []

abbrev pub class_id : ℕ → List ℕ
class_id n = 2 ∷ 999 ∷ 9 ∷ 3 ∷ n ∷ []

abbrev pub binding_id : ℕ → List ℕ
binding_id n = 2 ∷ 999 ∷ 9 ∷ 6 ∷ n ∷ []

abbrev pub notification_id : ℕ → List ℕ
notification_id n = 2 ∷ 999 ∷ 9 ∷ 4 ∷ n ∷ []

abbrev pub trouble : List ℕ
trouble = 2 ∷ 999 ∷ 10 ∷ 1 ∷ []

-- ---- attributes

abbrev pub template : ℕ → List ℕ → TypeSyntax → AttrRec
template n label syntax = record { id = id n; label = label; syntax = syntax; rules = ordered }

abbrev pub simple : TypeSyntax
simple =
    Choice (Part (codes "number") (Integer [] []) false None
    (Part (codes "string") (TextString charsets.Graphic []) false None NoParts))

abbrev pub at_least_zero : TypeSyntax
at_least_zero = Integer [] ((pos 0, pos 9223372036854775807) ∷ [])

abbrev pub severity : TypeSyntax
severity =
    Enumerated ((codes "indeterminate", pos 0) ∷ (codes "critical", pos 1) ∷ (codes "major", pos 2)
    ∷ (codes "minor", pos 3) ∷ (codes "warning", pos 4) ∷ (codes "cleared", pos 5) ∷ [])

abbrev pub templates : List AttrRec
templates =
    id_template ∷ load_template
    ∷ template 1 (codes "objectClass") ObjectIdentifier ∷ template 2 (codes "nameBinding") ObjectIdentifier
    ∷ template 3 (codes "packages") (SetOf ObjectIdentifier []) ∷ template 5 (codes "discriminatorId") simple
    ∷ template 6 (codes "logId") simple ∷ template 7 (codes "logRecordId") (Integer [] [])
    ∷ template 8 (codes "administrativeState")
    (Enumerated ((codes "locked", pos 0) ∷ (codes "unlocked", pos 1) ∷ (codes "shuttingDown", pos 2) ∷ []))
    ∷ template 9 (codes "operationalState") (Enumerated ((codes "disabled", pos 0) ∷ (codes "enabled", pos 1) ∷ []))
    ∷ template 10 (codes "availabilityStatus") (SetOf (Integer [] []) [])
    ∷ template 11 (codes "discriminatorConstruct") Filter
    ∷ template 12 (codes "destination")
    (Choice (Part (codes "single") ObjectIdentifier false None
    (Part (codes "multiple") (SetOf ObjectIdentifier []) false None NoParts)))
    ∷ template 13 (codes "logFullAction") (Enumerated ((codes "wrap", pos 0) ∷ (codes "halt", pos 1) ∷ []))
    ∷ template 14 (codes "maxLogSize") at_least_zero ∷ template 15 (codes "currentLogSize") at_least_zero
    ∷ template 16 (codes "numberOfRecords") at_least_zero ∷ template 17 (codes "loggingTime") GeneralizedTime
    ∷ template 18 (codes "managedObjectClass") object_class
    ∷ template 19 (codes "managedObjectInstance") object_instance
    ∷ template 20 (codes "eventType") event_type_id ∷ template 21 (codes "eventTime") GeneralizedTime
    ∷ template 22 (codes "eventInformation") (OctetString []) ∷ template 23 (codes "probableCause") (Integer [] [])
    ∷ template 24 (codes "perceivedSeverity") severity ∷ []

-- ---- notifications

abbrev pub indicator : TypeSyntax
indicator =
    Enumerated ((codes "resourceOperation", pos 0) ∷ (codes "managementOperation", pos 1)
    ∷ (codes "unknown", pos 2) ∷ [])

abbrev pub object_info : TypeSyntax
object_info = Sequence (Part (codes "sourceIndicator") indicator true None NoParts)

abbrev pub change : TypeSyntax
change =
    Sequence (Part (codes "attributeId") attribute_id false None
    (Part (codes "oldAttributeValue") (Tagged (context 1) true Any) true None
    (Part (codes "newAttributeValue") (Tagged (context 2) true Any) false None NoParts)))

abbrev pub change_info : List ℕ → TypeSyntax
change_info definition =
    Sequence (Part (codes "sourceIndicator") indicator true None
    (Part definition (SetOf change []) false None NoParts))

abbrev pub alarm_info : TypeSyntax
alarm_info =
    Sequence (Part (codes "probableCause") (Integer [] []) false None
    (Part (codes "perceivedSeverity") severity false None NoParts))

abbrev pub notification : List ℕ → List ℕ → TypeSyntax → NoteRec
notification of label information =
    record { id = of; label = label; information = Some information; fields = []; reply = None }

abbrev pub alarm : ℕ → List ℕ → NoteRec
alarm n label = record (notification (notification_id n) label alarm_info) {
  fields =
      record { component = codes "probableCause"; attribute = id 23 }
      ∷ record { component = codes "perceivedSeverity"; attribute = id 24 } ∷ [];
}

abbrev pub notifications : List NoteRec
notifications =
    notification (notification_id 1) (codes "objectCreation") object_info
    ∷ notification (notification_id 2) (codes "objectDeletion") object_info
    ∷ notification (notification_id 3) (codes "attributeValueChange")
    (change_info (codes "attributeValueChangeDefinition"))
    ∷ notification (notification_id 4) (codes "stateChange") (change_info (codes "stateChangeDefinition"))
    ∷ alarm 5 (codes "communicationsAlarm") ∷ alarm 6 (codes "processingErrorAlarm")
    ∷ notification trouble (codes "trouble") (Integer [] []) ∷ []

-- ---- classes and bindings

abbrev pub stated : ℕ → Property
stated n = record id_property { attribute = id n }

-- a class with these attributes and notifications in its package
abbrev pub class_with : ℕ → List ℕ → List (List ℕ) → List ℕ → List (List ℕ) → ClassRec
class_with n label superclasses attributes notes = record {
  id = class_id n;
  label = label;
  superclasses = superclasses;
  mandatory = record element_package { attributes = map stated attributes; notifications = notes } ∷ [];
  conditional = [];
  properties = map stated attributes;
}

abbrev pub below_top : List (List ℕ)
below_top = class_id 1 ∷ []

abbrev pub of_object : List (List ℕ)
of_object = notification_id 1 ∷ notification_id 2 ∷ []

-- an element has attributeValueChange, stateChange, communicationsAlarm and trouble
abbrev pub element_with_events : ClassRec
element_with_events = record element_class {
  mandatory =
      record element_package {
        notifications = notification_id 3 ∷ notification_id 4 ∷ notification_id 5 ∷ trouble ∷ [];
      } ∷ [];
}

abbrev pub record_class : ClassRec
record_class = class_with 5 (codes "eventLogRecord") below_top (7 ∷ 17 ∷ 18 ∷ 19 ∷ 20 ∷ 21 ∷ 22 ∷ []) []

abbrev pub classes : List ClassRec
classes =
    element_with_events ∷ class_with 1 (codes "top") [] (1 ∷ 2 ∷ 3 ∷ []) []
    ∷ class_with 3 (codes "eventForwardingDiscriminator") below_top (5 ∷ 8 ∷ 9 ∷ 11 ∷ 12 ∷ []) of_object
    ∷ class_with 4 (codes "log") below_top (6 ∷ 8 ∷ 9 ∷ 10 ∷ 11 ∷ 13 ∷ 14 ∷ 15 ∷ 16 ∷ [])
    (of_object ++ notification_id 6 ∷ []) ∷ record_class ∷ []

abbrev pub record_binding : BindRec
record_binding = record {
  id = binding_id 3;
  label = codes "eventLogRecord-log";
  subordinate = record { class = class_id 5; subclasses = false };
  superior = record { class = class_id 4; subclasses = true };
  attribute = id 7;
  create = None;
  delete = None;
}

abbrev pub events : Set
events = record network {
  classes = classes;
  attributes = templates;
  bindings = record_binding ∷ [];
  notifications = notifications;
}

-- ---- objects

abbrev pub held : List ℕ → TypedValue → Attribute
held attribute value = record { id = attribute; value = value }

-- the element {elementId = n}, and its name
abbrev pub element_part : ℕ → Rdn
element_part n = record { attribute = id_oid; value = 2 ∷ 1 ∷ n ∷ [] }

abbrev pub element_object : ℕ → Object
element_object n = record {
  class = element_oid;
  binding = None;
  chosen = [];
  attrs = held id_oid (Int (pos n)) ∷ held load_oid (Int (pos 7)) ∷ [];
}

abbrev pub root : NamedObject
root = record { name = []; object = element_object 1 }

abbrev pub element_at : ℕ → NamedObject
element_at n = record { name = element_part n ∷ []; object = element_object n }

-- { and:{} }
abbrev pub every_event : List ℕ
every_event = 0xA9 ∷ 0x00 ∷ []

abbrev pub title : ℕ → List ℕ
title n = 2 ∷ 999 ∷ 11 ∷ n ∷ []

-- the discriminator {discriminatorId = number : n} with an administrative state, a construct and a destination
abbrev pub discriminator_part : ℕ → Rdn
discriminator_part n = record { attribute = id 5; value = 2 ∷ 1 ∷ n ∷ [] }

abbrev pub discriminator_with : ℕ → ℕ → List ℕ → TypedValue → NamedObject
discriminator_with n state construct destination = record {
  name = discriminator_part n ∷ [];
  object = record {
    class = class_id 3;
    binding = None;
    chosen = [];
    attrs =
        held (id 5) (Pick 0 (Int (pos n))) ∷ held (id 8) (Int (pos state)) ∷ held (id 9) (Int (pos 1))
        ∷ held (id 11) (Raw construct) ∷ held (id 12) destination ∷ [];
  };
}

-- one that is unlocked, passes every event, and sends to the first title
abbrev pub discriminator : ℕ → NamedObject
discriminator n = discriminator_with n 1 every_event (Pick 0 (Identifier (title 1)))

-- the log {logId = number : 1}, with logFullAction and maxLogSize, which tells of so many octets and records and has
-- these statuses
abbrev pub log_part : Rdn
log_part = record { attribute = id 6; value = 2 ∷ 1 ∷ 1 ∷ [] }

abbrev pub log_with : ℕ → ℕ → ℕ → ℕ → List ℕ → NamedObject
log_with action most octets records statuses = record {
  name = log_part ∷ [];
  object = record {
    class = class_id 4;
    binding = None;
    chosen = [];
    attrs =
        held (id 6) (Pick 0 (Int (pos 1))) ∷ held (id 8) (Int (pos 1)) ∷ held (id 9) (Int (pos 1))
        ∷ held (id 10) (Many (listed (map (λ n. Int (pos n)) statuses))) ∷ held (id 11) (Raw every_event)
        ∷ held (id 13) (Int (pos action)) ∷ held (id 14) (Int (pos most)) ∷ held (id 15) (Int (pos octets))
        ∷ held (id 16) (Int (pos records)) ∷ [];
  };
}
