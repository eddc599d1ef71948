-- The records of a log, and the attributes by which the log tells how many octets they have and how many they are:
-- X.735, section 8; docs/PROFILE.md, section 15.
use Rattle.std.specs.Prelude.{ℕ, pos, List, [], ◌∷◌, Bool, true, false, ◌&&◌, filter, length, map, sum, codes}
use Rattle.std.specs.Prelude.{if◌then◌else◌}
use Rattle.std.specs.List.{list_any}
use Rattle.std.specs.Option.{option_map_or}
use Rattle.term_values.specs.Syntaxes.{TypeSyntax}
use Rattle.term_values.specs.Syntaxes.TypeSyntax.{Integer, Tagged}
use Rattle.term_values.specs.Typed.TypedValue.{Int}
use Rattle.term_model.specs.declared.name.Rdn.{Rdn}
use Rattle.term_model.specs.declared.object.Attribute.{Attribute}
use Rattle.term_model.specs.declared.object.Object.{Object}
use Rattle.term_model.specs.declared.objects.NamedObject.{NamedObject}
use Rattle.term_model.specs.declared.schema.Set.{Set}
use Rattle.term_model.specs.AgentWritten.{is_counter}
use Rattle.term_model.specs.BoundClasses.{is_bound_log, is_class_labelled}
use Rattle.term_model.specs.ClassAttributes.{is_labelled, syntax_of}
use Rattle.term_model.specs.Comparing.{is_same_name}
use Rattle.term_model.specs.Creating.{superior_of, last_of}
use Rattle.term_model.specs.ObjectOperation.{object_octets}
use Rattle.term_model.specs.PresentPackages.{classes_above}

-- INTEGER, under any tags
abbrev pub is_whole_number : TypeSyntax → Bool
is_whole_number (Integer names ranges) = true
is_whole_number (Tagged tag explicit of) = is_whole_number of
is_whole_number _ = false

-- the class has a label, or derives from one that has it
abbrev pub is_of_label : Set → List ℕ → List ℕ → Bool
is_of_label schema label class =
    list_any (is_class_labelled schema.classes label) (classes_above schema.classes class)

-- named by a whole number of logRecordId
abbrev pub is_record_part : Set → Rdn → Bool
is_record_part schema part =
    is_labelled schema.attributes (codes "logRecordId") part.attribute
    && option_map_or is_whole_number (syntax_of schema.attributes part.attribute) false

abbrev pub is_record_name : Set → List Rdn → List Rdn → Bool
is_record_name schema log [] = false
is_record_name schema log (first ∷ rest) =
    is_same_name (superior_of (first ∷ rest)) log && is_record_part schema (last_of first rest)

-- the object is a record of the log with this name
abbrev pub is_record_of : Set → List Rdn → NamedObject → Bool
is_record_of schema log entry =
    is_record_name schema log entry.name && is_of_label schema (codes "eventLogRecord") entry.object.class

abbrev pub records_of : Set → List Rdn → List NamedObject → List NamedObject
records_of schema log = filter (is_record_of schema log)

-- the size of a record
abbrev pub record_size : Set → NamedObject → ℕ
record_size schema entry = length (object_octets schema.attributes entry.object)

-- how many octets these records have, or how many they are
abbrev pub counted_value : Set → List NamedObject → List ℕ → ℕ
counted_value schema records attribute =
    if is_labelled schema.attributes (codes "numberOfRecords") attribute then length records
    else sum (map (record_size schema) records)

abbrev pub counted_attribute : Set → List NamedObject → Attribute → Attribute
counted_attribute schema records held =
    if is_counter schema true held.id
    then record held { value = Int (pos (counted_value schema records held.id)) }
    else held

-- a bound log whose records these are
abbrev pub counted_log : Set → List NamedObject → Object → Object
counted_log schema records object =
    record object { attrs = map (counted_attribute schema records) object.attrs }

abbrev pub counted_entry : Set → NamedObject → List NamedObject → NamedObject
counted_entry schema entry behind =
    if is_bound_log schema entry.object.class
    then record entry { object = counted_log schema (records_of schema entry.name behind) entry.object }
    else entry

-- objects by rising name, in which each bound log tells of its records, which stand behind it
abbrev pub counted : Set → List NamedObject → List NamedObject
counted schema [] = []
counted schema (entry ∷ others) = counted_entry schema entry (counted schema others) ∷ counted schema others
