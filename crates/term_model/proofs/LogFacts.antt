-- Examples of logs, their records and what the agent writes of them, computed: X.721; X.735, section 8;
-- docs/PROFILE.md, section 15. A log with two records stands below the root.
use Rattle.std.specs.Prelude.{◌≡◌, ℕ, pos, List, [], ◌∷◌, true, false, None, Some, Ok, codes, length, map, refl}
use Rattle.std.proofs.Common.{arith}
use Rattle.term_values.specs.BerReading.{front_of, identifier_of, length_at}
use Rattle.term_values.specs.Der.{identifier_octets, length_octets}
use Rattle.term_values.specs.Octets.{integer_contents, integer_in}
use Rattle.term_values.specs.Oid.{subidentifier}
use Rattle.term_values.specs.CmipTypes.{object_class}
use Rattle.term_values.specs.Syntaxes.{TypeSyntax}
use Rattle.term_values.specs.Syntaxes.TypeSyntax.{Choice, Enumerated, Filter, Integer, ObjectIdentifier, SetOf}
use Rattle.term_values.specs.Syntaxes.TypeSyntax.{TextString}
use Rattle.term_values.specs.Syntaxes.TypeParts.{NoParts, Part}
use Rattle.term_values.specs.Typed.{listed, TypedValue}
use Rattle.term_values.specs.Typed.TypedValue.{Identifier, Int, Many, Pick, Raw}
use Rattle.term_values.specs.Typed.TypedValues.{Nothing}
use Rattle.term_values.specs.declared.charset.Charset.TheVariants as charsets
use Rattle.term_model.specs.declared.filter_item.Given.{Given}
use Rattle.term_model.specs.declared.name.Rdn.{Rdn}
use Rattle.term_model.specs.declared.name_binding.BindRec.{BindRec}
use Rattle.term_model.specs.declared.object.Attribute.{Attribute}
use Rattle.term_model.specs.declared.objects.NamedObject.{NamedObject}
use Rattle.term_model.specs.declared.packages.Property.{Property}
use Rattle.term_model.specs.declared.request.IdRef.TheVariants as ids
use Rattle.term_model.specs.declared.request.Named.TheVariants as named
use Rattle.term_model.specs.declared.schema.AttrRec.{AttrRec}
use Rattle.term_model.specs.declared.schema.ClassRec.{ClassRec}
use Rattle.term_model.specs.declared.schema.Set.{Set}
use Rattle.term_model.specs.AgentWritten.{is_agent_written, is_class_choice, is_class_identifier, is_counter}
use Rattle.term_model.specs.AgentWritten.{is_log_status, is_name_binding, is_package_list, is_packages}
use Rattle.term_model.specs.BoundClasses.{counts, is_bound_discriminator, is_bound_log, is_class_labelled, object_size}
use Rattle.term_model.specs.BoundClasses.{tells_of_records}
use Rattle.term_model.specs.Creating.{create_named}
use Rattle.term_model.specs.LogRecords.{counted, is_of_label, is_record_name, is_record_of, is_record_part, record_size}
use Rattle.term_model.specs.LogRecords.{is_whole_number, records_of}
use Rattle.term_model.specs.Modifications.{ends_full, without_full}
use Rattle.term_model.specs.ObjectOperation.{object_octets}
use Rattle.term_model.specs.WellFormedObjects.{IsPlainRecord}
use Rattle.term_model.proofs.ExampleNetwork.{element_package, id_property, network, ordered}

-- ---- the attributes and classes of X.721 that a log has, and those of a discriminator

-- attributes and classes by number
abbrev id : ℕ → List ℕ
id n = 2 ∷ 999 ∷ 9 ∷ 7 ∷ n ∷ []

abbrev class_id : ℕ → List ℕ
class_id n = 2 ∷ 999 ∷ 9 ∷ 3 ∷ n ∷ []

abbrev template : ℕ → List ℕ → TypeSyntax → AttrRec
template n label syntax = record { id = id n; label = label; syntax = syntax; rules = ordered }

abbrev simple : TypeSyntax
simple =
    Choice (Part (codes "number") (Integer [] []) false None
    (Part (codes "string") (TextString charsets.Graphic []) false None NoParts))

abbrev at_least_zero : TypeSyntax
at_least_zero = Integer [] ((pos 0, pos 9223372036854775807) ∷ [])

abbrev templates : List AttrRec
templates =
    template 1 (codes "objectClass") ObjectIdentifier ∷ template 2 (codes "nameBinding") ObjectIdentifier
    ∷ template 3 (codes "packages") (SetOf ObjectIdentifier []) ∷ template 5 (codes "discriminatorId") simple
    ∷ template 6 (codes "logId") simple ∷ template 7 (codes "logRecordId") (Integer [] [])
    ∷ template 8 (codes "administrativeState")
    (Enumerated ((codes "locked", pos 0) ∷ (codes "unlocked", pos 1) ∷ (codes "shuttingDown", pos 2) ∷ []))
    ∷ template 9 (codes "operationalState") (Enumerated ((codes "disabled", pos 0) ∷ (codes "enabled", pos 1) ∷ []))
    ∷ template 10 (codes "availabilityStatus") (SetOf (Integer [] []) [])
    ∷ template 11 (codes "discriminatorConstruct") Filter
    ∷ template 12 (codes "destination")
    (Choice (Part (codes "single") ObjectIdentifier false None
    (Part (codes "multiple") (SetOf ObjectIdentifier []) false None NoParts)))
    ∷ template 13 (codes "logFullAction") (Enumerated ((codes "wrap", pos 0) ∷ (codes "halt", pos 1) ∷ []))
    ∷ template 14 (codes "maxLogSize") at_least_zero ∷ template 15 (codes "currentLogSize") at_least_zero
    ∷ template 16 (codes "numberOfRecords") at_least_zero ∷ []

abbrev stated : ℕ → Property
stated n = record id_property { attribute = id n }

-- a class with these attributes in its package
abbrev class_with : ℕ → List ℕ → List (List ℕ) → List ℕ → ClassRec
class_with n label superclasses attributes = record {
  id = class_id n;
  label = label;
  superclasses = superclasses;
  mandatory = record element_package { attributes = map stated attributes } ∷ [];
  conditional = [];
  properties = map stated attributes;
}

abbrev below_top : List (List ℕ)
below_top = class_id 1 ∷ []

abbrev record_class : ClassRec
record_class = class_with 5 (codes "eventLogRecord") below_top (7 ∷ [])

abbrev of_log : List ℕ
of_log = 6 ∷ 8 ∷ 9 ∷ 10 ∷ 11 ∷ 13 ∷ 14 ∷ 15 ∷ 16 ∷ []

-- a log, a class of logs that derives from it, and one that only has its label
abbrev logs : Set
logs = record network {
  classes =
      class_with 1 (codes "top") [] (1 ∷ 2 ∷ 3 ∷ [])
      ∷ class_with 3 (codes "eventForwardingDiscriminator") below_top (5 ∷ 8 ∷ 9 ∷ 11 ∷ 12 ∷ [])
      ∷ class_with 4 (codes "log") below_top of_log ∷ record_class
      ∷ class_with 6 (codes "longLog") (class_id 4 ∷ []) [] ∷ class_with 7 (codes "log") [] of_log ∷ [];
  attributes = templates;
}

-- ---- which classes the agent acts on

log_bound : is_bound_log logs (class_id 4) ≡ true
log_bound = refl

long_log_bound : is_bound_log logs (class_id 6) ≡ true
long_log_bound = refl

-- a class labelled `log` without the attributes of top, one that has another label, and one without a record
log_ordinary : is_bound_log logs (class_id 7) ≡ false
log_ordinary = refl

top_ordinary : is_bound_log logs (class_id 1) ≡ false
top_ordinary = refl

no_class_bound : is_bound_log logs (class_id 9) ≡ false
no_class_bound = refl

discriminator_bound : is_bound_discriminator logs (class_id 3) ≡ true
discriminator_bound = refl

log_not_discriminator : is_bound_discriminator logs (class_id 4) ≡ false
log_not_discriminator = refl

-- with a maxLogSize of another syntax no log is bound
other_syntax : is_bound_log (record logs { attributes = template 14 (codes "maxLogSize") (Integer [] []) ∷ templates })
    (class_id 4) ≡ false
other_syntax = refl

labelled_log : is_class_labelled logs.classes (codes "log") (class_id 4) ≡ true
labelled_log = refl

long_log_labelled : is_class_labelled logs.classes (codes "log") (class_id 6) ≡ false
long_log_labelled = refl

long_log_of_label : is_of_label logs (codes "log") (class_id 6) ≡ true
long_log_of_label = refl

-- ---- what the agent writes

status_tells : tells_of_records templates (id 10) ≡ true
status_tells = refl

limit_tells_not : tells_of_records templates (id 14) ≡ false
limit_tells_not = refl

counts_left_out : counts logs (class_id 4) (id 15) ≡ false
counts_left_out = refl

limit_counts : counts logs (class_id 4) (id 14) ≡ true
limit_counts = refl

-- of an ordinary object all attributes count
ordinary_counts : counts logs (class_id 7) (id 15) ≡ true
ordinary_counts = refl

class_written : is_class_identifier logs (id 1) ≡ true
class_written = refl

class_choice_written :
    is_class_choice (record logs { attributes = template 1 (codes "objectClass") object_class ∷ [] }) (id 1) ≡ true
class_choice_written = refl

class_is_no_choice : is_class_choice logs (id 1) ≡ false
class_is_no_choice = refl

binding_written : is_name_binding logs (id 2) ≡ true
binding_written = refl

packages_written : is_package_list logs (id 3) ≡ true
packages_written = refl

-- a class that has it, and one that hasn't
packages_of_top : is_packages logs (class_id 1) (id 3) ≡ true
packages_of_top = refl

no_packages : is_packages logs (class_id 7) (id 3) ≡ false
no_packages = refl

size_is_counter : is_counter logs true (id 15) ≡ true
size_is_counter = refl

status_is_no_counter : is_counter logs true (id 10) ≡ false
status_is_no_counter = refl

status_of_log : is_log_status logs true (id 10) ≡ true
status_of_log = refl

number_written : is_agent_written logs true (id 16) ≡ true
number_written = refl

-- the same attribute of an ordinary object, and the attribute by which a log is named
number_ordinary : is_agent_written logs false (id 16) ≡ false
number_ordinary = refl

name_not_written : is_agent_written logs true (id 6) ≡ false
name_not_written = refl

-- ---- a log with two records

abbrev one : List ℕ
one = 2 ∷ 1 ∷ 1 ∷ []

abbrev log_part : Rdn
log_part = record { attribute = id 6; value = one }

abbrev record_part : ℕ → Rdn
record_part n = record { attribute = id 7; value = 2 ∷ 1 ∷ n ∷ [] }

-- the log {logId = 1}, which tells of so many octets and records
abbrev log_telling : ℕ → ℕ → NamedObject
log_telling octets records = record {
  name = log_part ∷ [];
  object = record {
    class = class_id 4;
    binding = None;
    chosen = [];
    attrs =
        record { id = id 6; value = Pick 0 (Int (pos 1)) } ∷ record { id = id 15; value = Int (pos octets) }
        ∷ record { id = id 16; value = Int (pos records) } ∷ [];
  };
}

abbrev log_record : ℕ → NamedObject
log_record n = record {
  name = log_part ∷ record_part n ∷ [];
  object = record {
    class = class_id 5;
    binding = None;
    chosen = [];
    attrs = record { id = id 7; value = Int (pos n) } ∷ [];
  };
}

abbrev root : NamedObject
root = record { name = []; object = record { class = class_id 1; binding = None; chosen = []; attrs = [] } }

-- an object below the log that is named like a record, and is of another class
abbrev other_object : NamedObject
other_object = record {
  name = log_part ∷ record_part 3 ∷ [];
  object = record { class = class_id 1; binding = None; chosen = []; attrs = [] };
}

record_named : is_record_name logs (log_part ∷ []) (log_part ∷ record_part 1 ∷ []) ≡ true
record_named = refl

-- the root, the log itself, and a record of another log
root_no_record : is_record_name logs (log_part ∷ []) [] ≡ false
root_no_record = refl

log_no_record : is_record_name logs (log_part ∷ []) (log_part ∷ []) ≡ false
log_no_record = refl

other_record : is_record_name logs [] (log_part ∷ record_part 1 ∷ []) ≡ false
other_record = refl

-- logRecordId is a whole number, and a SimpleName is none
simple_is_no_number : is_whole_number simple ≡ false
simple_is_no_number = refl

other_part :
    is_record_part (record logs { attributes = template 7 (codes "logRecordId") simple ∷ [] }) (record_part 1) ≡ false
other_part = refl

its_record : is_record_of logs (log_part ∷ []) (log_record 1) ≡ true
its_record = refl

of_other_class : is_record_of logs (log_part ∷ []) other_object ≡ false
of_other_class = refl

two_records : records_of logs (log_part ∷ []) (log_record 1 ∷ log_record 2 ∷ other_object ∷ [])
    ≡ log_record 1 ∷ log_record 2 ∷ []
two_records = refl

-- SET OF Attribute with one attribute: 2 octets, 2 of the SEQUENCE, 7 of the identifier and 3 of the value
record_of_fourteen : record_size logs (log_record 1) ≡ 14
unfolding identifier_octets length_octets integer_contents subidentifier
record_of_fourteen = refl

-- a log is measured by its logId alone, and not by its two counts of 12 octets each
log_of_fourteen : object_size logs (log_telling 0 0).object ≡ 14
unfolding identifier_octets length_octets integer_contents subidentifier
log_of_fourteen = refl

log_of_thirty_eight : length (object_octets templates (log_telling 0 0).object) ≡ 38
unfolding identifier_octets length_octets integer_contents subidentifier
log_of_thirty_eight = refl

-- the log tells of two records with 28 octets
log_tells : counted logs (root ∷ log_telling 0 0 ∷ log_record 1 ∷ log_record 2 ∷ other_object ∷ [])
    ≡ root ∷ log_telling 28 2 ∷ log_record 1 ∷ log_record 2 ∷ other_object ∷ []
unfolding identifier_octets length_octets integer_contents subidentifier
log_tells = refl

-- the values of a record of the class labelled so need not be permitted
record_is_plain :
    IsPlainRecord logs (root ∷ log_telling 14 1 ∷ log_record 1 ∷ []) (log_record 1) record_class
record_is_plain = (refl, (log_telling 14 1, (1, omega arith, refl), refl, refl))

-- ---- what becomes of a log that is created, and of one whose limit is set

abbrev log_binding : BindRec
log_binding = record {
  id = 2 ∷ 999 ∷ 9 ∷ 6 ∷ 2 ∷ [];
  label = codes "log-top";
  subordinate = record { class = class_id 4; subclasses = false };
  superior = record { class = class_id 1; subclasses = false };
  attribute = id 6;
  create = Some (record { with_reference_object = true; with_automatic_instance_naming = false });
  delete = None;
}

abbrev given : ℕ → TypedValue → Given
given n value = record { id = ids.Global (id n); value = Some value; raw = 9 ∷ [] }

abbrev held : ℕ → TypedValue → Attribute
held n value = record { id = id n; value = value }

-- the set of these statuses
abbrev statuses : List ℕ → TypedValue
statuses numbers = Many (listed (map (λ n. Int (pos n)) numbers))

-- { and:{} }
abbrev construct : TypedValue
construct = Raw (0xA9 ∷ 0x00 ∷ [])

-- the list gives 5 octets of records and a full log; the log has none, and is only failed 1
log_created : create_named (record logs { bindings = log_binding ∷ [] }) (root ∷ [])
    (record {
      class = ids.Global (class_id 4);
      instance = [];
      reference = None;
      given =
          given 8 (Int (pos 1)) ∷ given 9 (Int (pos 1)) ∷ given 10 (statuses (1 ∷ 8 ∷ [])) ∷ given 11 construct
          ∷ given 13 (Int (pos 0)) ∷ given 14 (Int (pos 100)) ∷ given 15 (Int (pos 5)) ∷ [];
      clause = true;
    }) (named.Object (log_part ∷ []))
    ≡ Ok (record {
      class = class_id 4;
      binding = Some log_binding.id;
      chosen = [];
      attrs =
          held 1 (Identifier (class_id 4)) ∷ held 2 (Identifier log_binding.id) ∷ held 3 (Many Nothing)
          ∷ held 6 (Pick 0 (Int (pos 1))) ∷ held 8 (Int (pos 1)) ∷ held 9 (Int (pos 1)) ∷ held 10 (statuses (1 ∷ []))
          ∷ held 11 construct ∷ held 13 (Int (pos 0)) ∷ held 14 (Int (pos 100)) ∷ held 15 (Int (pos 0))
          ∷ held 16 (Int (pos 0)) ∷ [];
    })
unfolding identifier_octets length_octets integer_contents integer_in subidentifier identifier_of length_at front_of
log_created = refl

-- maxLogSize and logFullAction of a bound log alone
limit_ends_full : ends_full logs (class_id 4) (id 14) ≡ true
limit_ends_full = refl

name_ends_nothing : ends_full logs (class_id 4) (id 6) ≡ false
name_ends_nothing = refl

ordinary_ends_nothing : ends_full logs (class_id 7) (id 14) ≡ false
ordinary_ends_nothing = refl

full_taken_out : without_full templates (held 10 (statuses (1 ∷ 8 ∷ []))) ≡ held 10 (statuses (1 ∷ []))
unfolding identifier_octets length_octets integer_contents
full_taken_out = refl

limit_stays : without_full templates (held 14 (Int (pos 8))) ≡ held 14 (Int (pos 8))
limit_stays = refl
