-- The attributes by which event reports and the records of logs are known, by label and syntax: X.721, X.734, X.735;
-- docs/PROFILE.md, section 21.
use Rattle.std.specs.Prelude.{ℕ, List, [], ◌∷◌, Option, None, Some, codes, find, option_and_then}
use Rattle.std.specs.Prelude.{if◌then◌else◌}
use Rattle.term_values.specs.CmipTypes.{event_type_id, object_class, object_instance}
use Rattle.term_values.specs.SameSyntax.{same_syntax}
use Rattle.term_values.specs.Syntaxes.{TypeSyntax}
use Rattle.term_values.specs.Syntaxes.TypeSyntax.{GeneralizedTime, Integer, OctetString}
use Rattle.term_model.specs.declared.schema.AttrRec.{AttrRec}
use Rattle.term_model.specs.Comparing.{is_same_octets}
use Rattle.term_model.specs.ControlSyntaxes.{top_attributes}

-- the attribute with this label
abbrev pub attribute_labelled : List AttrRec → List ℕ → Option AttrRec
attribute_labelled records label =
    find (λ (of_attribute : AttrRec). is_same_octets of_attribute.label label) records

-- and its identifier, where it has this syntax
abbrev pub with_syntax : TypeSyntax → AttrRec → Option (List ℕ)
with_syntax syntax of_attribute = if same_syntax of_attribute.syntax syntax then Some of_attribute.id else None

abbrev pub attribute_known : List AttrRec → List ℕ × TypeSyntax → Option (List ℕ)
attribute_known records wanted =
    option_and_then (with_syntax wanted.1) (attribute_labelled records wanted.0)

-- the attributes of a report
abbrev pub class_attribute : List ℕ × TypeSyntax
class_attribute = (codes "managedObjectClass", object_class)

abbrev pub instance_attribute : List ℕ × TypeSyntax
instance_attribute = (codes "managedObjectInstance", object_instance)

abbrev pub type_attribute : List ℕ × TypeSyntax
type_attribute = (codes "eventType", event_type_id)

abbrev pub time_attribute : List ℕ × TypeSyntax
time_attribute = (codes "eventTime", GeneralizedTime)

-- and the further ones of a record
abbrev pub number_attribute : List ℕ × TypeSyntax
number_attribute = (codes "logRecordId", Integer [] [])

abbrev pub logging_attribute : List ℕ × TypeSyntax
logging_attribute = (codes "loggingTime", GeneralizedTime)

abbrev pub information_attribute : List ℕ × TypeSyntax
information_attribute = (codes "eventInformation", OctetString [])

-- the attributes of eventLogRecord, those of top among them
abbrev pub record_attributes : List (List ℕ × TypeSyntax)
record_attributes =
    number_attribute ∷ logging_attribute ∷ class_attribute ∷ instance_attribute ∷ type_attribute ∷ time_attribute
    ∷ information_attribute ∷ top_attributes
