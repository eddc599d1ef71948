-- The record that an append makes of an event: X.735, section 8; X.721, class eventLogRecord; docs/PROFILE.md, section
-- 21. There is one where the class labelled eventLogRecord has exactly the attributes of X.721, in mandatory packages,
-- and a name binding names it below the log's class by logRecordId.
use Rattle.std.specs.Prelude.{ℕ, ℤ, pos, List, [], ◌∷◌, ◌++◌, Bool, ◌&&◌, Option, None, Some, codes, filter, find}
use Rattle.std.specs.Prelude.{int_le, length, nat_le, option_and_then, if◌then◌else◌}
use Rattle.std.specs.Cmp.Lexicographic.{slice_cmp}
use Rattle.std.specs.List.{list_all, list_any}
use Rattle.std.specs.Option.{option_map, unwrap_or}
use Rattle.std.specs.Ordering.{is_lt, nat_cmp}
use Rattle.term_values.specs.Syntaxes.{TypeSyntax}
use Rattle.term_values.specs.Syntaxes.TypeSyntax.{ObjectIdentifier, SetOf}
use Rattle.term_values.specs.Typed.TypedValue.{Identifier, Int, Many, Octets, Time}
use Rattle.term_values.specs.Typed.TypedValues.{Nothing}
use Rattle.term_model.specs.declared.event.Event.{Event}
use Rattle.term_model.specs.declared.name.Rdn.{Rdn}
use Rattle.term_model.specs.declared.name_binding.BindRec.{BindRec}
use Rattle.term_model.specs.declared.object.Attribute.{Attribute}
use Rattle.term_model.specs.declared.object.Object.{Object}
use Rattle.term_model.specs.declared.objects.NamedObject.{NamedObject}
use Rattle.term_model.specs.declared.packages.PackageRec.{PackageRec}
use Rattle.term_model.specs.declared.packages.Property.{Property}
use Rattle.term_model.specs.declared.schema.AttrRec.{AttrRec}
use Rattle.term_model.specs.declared.schema.ClassRec.{ClassRec}
use Rattle.term_model.specs.declared.schema.Set.{Set}
use Rattle.term_model.specs.BoundClasses.{have_attribute, is_attribute, object_size}
use Rattle.term_model.specs.Comparing.{is_same_octets}
use Rattle.term_model.specs.Licensing.{licenses}
use Rattle.term_model.specs.ObjectAttributes.{most_object, most_value}
use Rattle.term_model.specs.ObjectOperation.{value_octets}
use Rattle.term_model.specs.PresentPackages.{packages_of}
use Rattle.term_model.specs.ResultValues.{global_value, local_instance}
use Rattle.event_model.specs.EventAttributes.{class_attribute, information_attribute}
use Rattle.event_model.specs.EventAttributes.{instance_attribute, logging_attribute, number_attribute}
use Rattle.event_model.specs.EventAttributes.{record_attributes, time_attribute, type_attribute}
use Rattle.event_model.specs.LabelledValues.{by_identifier}
use Rattle.event_model.specs.ReportAttributes.{held_known}

-- each attribute of the packages is one of X.721's
abbrev pub is_of_record : List AttrRec → List ℕ → Bool
is_of_record records attribute =
    list_any (λ (wanted : List ℕ × TypeSyntax). is_attribute records wanted attribute) record_attributes

abbrev pub has_no_others : List AttrRec → PackageRec → Bool
has_no_others records of_package =
    list_all (λ (property : Property). is_of_record records property.attribute) of_package.attributes

-- and each of X.721's is in the packages
abbrev pub has_exactly : List AttrRec → List PackageRec → Bool
has_exactly records packages =
    list_all (have_attribute records packages) record_attributes && list_all (has_no_others records) packages

abbrev pub is_record_class : Set → ClassRec → Bool
is_record_class schema of_class =
    is_same_octets of_class.label (codes "eventLogRecord")
    && has_exactly schema.attributes (packages_of schema of_class.id [])

abbrev pub record_class : Set → Option ClassRec
record_class schema = find (is_record_class schema) schema.classes

-- the name bindings of the class by logRecordId below a log of a class, of which the one of the least identifier is
-- taken
abbrev pub is_record_binding : Set → List ℕ → List ℕ → BindRec → Bool
is_record_binding schema class log binding =
    is_attribute schema.attributes number_attribute binding.attribute && licenses schema class log binding

abbrev pub least : BindRec → List BindRec → BindRec
least best [] = best
least best (next ∷ others) = least (if is_lt (slice_cmp nat_cmp next.id best.id) then next else best) others

abbrev pub least_binding : List BindRec → Option BindRec
least_binding [] = None
least_binding (first ∷ others) = Some (least first others)

abbrev pub record_binding : Set → List ℕ → List ℕ → Option BindRec
record_binding schema class log = least_binding (filter (is_record_binding schema class log) schema.bindings)

-- the attributes of a record with this number that is made at this time: eventInformation has the written information
-- of the event, or nothing
abbrev pub of_top : List AttrRec → List ℕ → List ℕ → List Attribute
of_top records class binding =
    held_known records (codes "objectClass", ObjectIdentifier) (Identifier class)
    ++ held_known records (codes "nameBinding", ObjectIdentifier) (Identifier binding)
    ++ held_known records (codes "packages", SetOf ObjectIdentifier []) (Many Nothing)

abbrev pub of_event : List AttrRec → Event → List Attribute
of_event records event =
    held_known records class_attribute (global_value event.class)
    ++ held_known records instance_attribute (local_instance event.name)
    ++ held_known records type_attribute (global_value event.kind)
    ++ held_known records time_attribute (Time event.time)
    ++ held_known records information_attribute (Octets (unwrap_or event.info []))

abbrev pub of_logging : List AttrRec → ℤ → List ℕ → List Attribute
of_logging records number time =
    held_known records number_attribute (Int number) ++ held_known records logging_attribute (Time time)

abbrev pub record_object : Set → ClassRec → BindRec → ℤ → List ℕ → Event → Object
record_object schema of_class binding number time event = record {
  class = of_class.id;
  binding = Some binding.id;
  chosen = [];
  attrs =
      by_identifier (of_top schema.attributes of_class.id binding.id ++ of_logging schema.attributes number time
      ++ of_event schema.attributes event);
}

-- the part by which it is named: the value is written in the syntax of the binding's attribute
abbrev pub numbered_part : Set → BindRec → ℤ → Rdn
numbered_part schema binding number = record {
  attribute = binding.attribute;
  value = value_octets schema.attributes (record { id = binding.attribute; value = Int number });
}

abbrev pub record_made : Set → List Rdn → ℤ → List ℕ → Event → ClassRec → BindRec → NamedObject
record_made schema log number time event of_class binding = record {
  name = log ++ numbered_part schema binding number ∷ [];
  object = record_object schema of_class binding number time event;
}

-- the record with this number of an event in a log of a class, where there is one
abbrev pub record_of : Set → List Rdn → List ℕ → ℤ → List ℕ → Event → Option NamedObject
record_of schema log log_class number time event =
    option_and_then
    (λ (of_class : ClassRec).
    option_map (record_made schema log number time event of_class) (record_binding schema of_class.id log_class))
    (record_class schema)

-- The number has 64 bits, no value has more than 8192 octets, the name at most 32 parts, the record at most 16384
-- octets.
abbrev pub is_small : List AttrRec → Attribute → Bool
is_small records held = nat_le (length (value_octets records held)) most_value

abbrev pub is_within_limits : Set → ℤ → NamedObject → Bool
is_within_limits schema number entry =
    int_le number (pos 9223372036854775807) && list_all (is_small schema.attributes) entry.object.attrs
    && nat_le (length entry.name) 32 && nat_le (object_size schema entry.object) most_object
