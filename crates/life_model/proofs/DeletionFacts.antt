-- Further examples of deletions, computed: what managers may not delete, what goes along, and what becomes of a log
-- that a record leaves; X.711, section 7.4, m-Delete; X.735, section 8; docs/PROFILE.md, section 15.
use Rattle.std.specs.Prelude.{◌≡◌, ℕ, pos, Some, None, Ok, Err, List, [], ◌∷◌, false, codes, map, refl}
use Rattle.term_values.specs.Der.{identifier_octets, length_octets}
use Rattle.term_values.specs.Octets.{integer_contents}
use Rattle.term_values.specs.Oid.{subidentifier}
use Rattle.term_values.specs.Syntaxes.{TypeSyntax}
use Rattle.term_values.specs.Syntaxes.TypeParts.{NoParts, Part}
use Rattle.term_values.specs.Syntaxes.TypeSyntax.{Choice, Enumerated, Filter, Integer, ObjectIdentifier, SetOf}
use Rattle.term_values.specs.Syntaxes.TypeSyntax.{TextString}
use Rattle.term_values.specs.Typed.{listed, TypedValue}
use Rattle.term_values.specs.Typed.TypedValue.{Int, Many, Pick}
use Rattle.term_values.specs.declared.charset.Charset.TheVariants as charsets
use Rattle.term_model.specs.declared.effect.What.TheVariants as what
use Rattle.term_model.specs.declared.name.Rdn.{Rdn}
use Rattle.term_model.specs.declared.name_binding.BindRec.{BindRec}
use Rattle.term_model.specs.declared.name_binding.DeleteClause.TheVariants as clauses
use Rattle.term_model.specs.declared.object.Attribute.{Attribute}
use Rattle.term_model.specs.declared.object.Object.{Object}
use Rattle.term_model.specs.declared.objects.NamedObject.{NamedObject}
use Rattle.term_model.specs.declared.packages.Property.{Property}
use Rattle.term_model.specs.declared.request.IdRef.TheVariants as ids
use Rattle.term_model.specs.declared.results.FailureReason.TheVariants as reasons
use Rattle.term_model.specs.declared.schema.AttrRec.{AttrRec}
use Rattle.term_model.specs.declared.schema.ClassRec.{ClassRec}
use Rattle.term_model.specs.declared.schema.Set.{Set}
use Rattle.term_model.specs.CmisErrors.{no_such_instance, processing_failure}
use Rattle.term_model.specs.GetRequest.{instance_octets}
use Rattle.term_model.specs.Replies.{single}
use Rattle.term_model.specs.ResultValues.{plain_value}
use Rattle.term_values.specs.ResultSyntaxes.{plain_result}
use Rattle.term_model.proofs.ExampleNetwork.{element_oid, element_package, id_property, ordered}
use Rattle.life_model.specs.Deletion.{delete_one}
use Rattle.life_model.proofs.ExampleElements.{bound_by, element_element, element_with, entry, five_and_six, network}
use Rattle.life_model.proofs.ExampleElements.{part, root}

abbrev pub first_second : List ℕ
first_second = codes "19700101000000Z"

-- ---- what managers may not delete

abbrev pub kept : BindRec
kept = record element_element { delete = None }

-- the root, and an element whose binding has no DELETE clause, which contains none
root_stays : delete_one network (root ∷ []) [] first_second
    ≡ Err (processing_failure (ids.Global element_oid) (instance_octets []) reasons.NotDeletable)
root_stays = refl

undeletable :
    delete_one (bound_by (kept ∷ [])) (root ∷ entry (part 5 ∷ []) (element_with 5 7) ∷ []) (part 5 ∷ []) first_second
    ≡ Err (processing_failure (ids.Global element_oid) (instance_octets (part 5 ∷ [])) reasons.NotDeletable)
undeletable = refl

-- that is told before what it contains
undeletable_first : delete_one (bound_by (kept ∷ [])) five_and_six (part 5 ∷ []) first_second
    ≡ Err (processing_failure (ids.Global element_oid) (instance_octets (part 5 ∷ [])) reasons.NotDeletable)
undeletable_first = refl

-- one that isn't there
absent : delete_one network five_and_six (part 9 ∷ []) first_second
    ≡ Err (no_such_instance (instance_octets (part 9 ∷ [])))
absent = refl

-- ---- what goes along, whatever its own binding says

abbrev pub emptying : BindRec
emptying = record element_element { delete = Some clauses.DeletesContainedObjects }

abbrev pub kept_id : List ℕ
kept_id = 2 ∷ 999 ∷ 6 ∷ 9 ∷ []

-- elements that are named by the other binding may not be deleted
abbrev pub emptying_network : Set
emptying_network = bound_by (emptying ∷ record kept { id = kept_id } ∷ [])

abbrev pub kept_with : ℕ → Object
kept_with n = record (element_with n 7) { binding = Some kept_id }

-- 5, with 6 and 7 below it and 8 below 6; and 9
abbrev pub subtree : List NamedObject
subtree =
    root ∷ entry (part 5 ∷ []) (element_with 5 7) ∷ entry (part 5 ∷ part 6 ∷ []) (kept_with 6)
    ∷ entry (part 5 ∷ part 6 ∷ part 8 ∷ []) (kept_with 8) ∷ entry (part 5 ∷ part 7 ∷ []) (kept_with 7)
    ∷ entry (part 9 ∷ []) (element_with 9 7) ∷ []

subtree_goes : delete_one emptying_network subtree (part 5 ∷ []) first_second
    ≡ Ok (record {
      changes =
          (part 5 ∷ part 7 ∷ [], None) ∷ (part 5 ∷ part 6 ∷ part 8 ∷ [], None) ∷ (part 5 ∷ part 6 ∷ [], None)
          ∷ (part 5 ∷ [], None) ∷ [];
      reply = single plain_result (plain_value element_oid (part 5 ∷ []) first_second);
      sources =
          record { name = part 5 ∷ part 7 ∷ []; class = element_oid; what = what.Deleted }
          ∷ record { name = part 5 ∷ part 6 ∷ part 8 ∷ []; class = element_oid; what = what.Deleted }
          ∷ record { name = part 5 ∷ part 6 ∷ []; class = element_oid; what = what.Deleted }
          ∷ record { name = part 5 ∷ []; class = element_oid; what = what.Deleted } ∷ [];
    })
subtree_goes = refl

-- but one of them alone may not go
seven_stays : delete_one emptying_network subtree (part 5 ∷ part 7 ∷ []) first_second
    ≡ Err (processing_failure (ids.Global element_oid) (instance_octets (part 5 ∷ part 7 ∷ [])) reasons.NotDeletable)
seven_stays = refl

-- ---- a log with two records, which is full 8 and failed 1

abbrev pub id : ℕ → List ℕ
id n = 2 ∷ 999 ∷ 9 ∷ 7 ∷ n ∷ []

abbrev pub class_id : ℕ → List ℕ
class_id n = 2 ∷ 999 ∷ 9 ∷ 3 ∷ n ∷ []

abbrev pub template : ℕ → List ℕ → TypeSyntax → AttrRec
template n label syntax = record { id = id n; label = label; syntax = syntax; rules = ordered }

abbrev pub simple : TypeSyntax
simple =
    Choice (Part (codes "number") (Integer [] []) false None
    (Part (codes "string") (TextString charsets.Graphic []) false None NoParts))

abbrev pub from_zero : TypeSyntax
from_zero = Integer [] ((pos 0, pos 9223372036854775807) ∷ [])

abbrev pub templates : List AttrRec
templates =
    template 1 (codes "objectClass") ObjectIdentifier ∷ template 2 (codes "nameBinding") ObjectIdentifier
    ∷ template 3 (codes "packages") (SetOf ObjectIdentifier []) ∷ template 6 (codes "logId") simple
    ∷ template 7 (codes "logRecordId") (Integer [] [])
    ∷ template 8 (codes "administrativeState")
    (Enumerated ((codes "locked", pos 0) ∷ (codes "unlocked", pos 1) ∷ (codes "shuttingDown", pos 2) ∷ []))
    ∷ template 9 (codes "operationalState") (Enumerated ((codes "disabled", pos 0) ∷ (codes "enabled", pos 1) ∷ []))
    ∷ template 10 (codes "availabilityStatus") (SetOf (Integer [] []) [])
    ∷ template 11 (codes "discriminatorConstruct") Filter
    ∷ template 13 (codes "logFullAction") (Enumerated ((codes "wrap", pos 0) ∷ (codes "halt", pos 1) ∷ []))
    ∷ template 14 (codes "maxLogSize") from_zero ∷ template 15 (codes "currentLogSize") from_zero
    ∷ template 16 (codes "numberOfRecords") from_zero ∷ []

abbrev pub stated : ℕ → Property
stated n = record id_property { attribute = id n }

abbrev pub class_with : ℕ → List ℕ → List (List ℕ) → List ℕ → ClassRec
class_with n label superclasses attributes = record {
  id = class_id n;
  label = label;
  superclasses = superclasses;
  mandatory = record element_package { attributes = map stated attributes } ∷ [];
  conditional = [];
  properties = map stated attributes;
}

abbrev pub record_binding : BindRec
record_binding = record {
  id = 2 ∷ 999 ∷ 9 ∷ 6 ∷ 3 ∷ [];
  label = codes "eventLogRecord-log";
  subordinate = record { class = class_id 5; subclasses = false };
  superior = record { class = class_id 4; subclasses = false };
  attribute = id 7;
  create = None;
  delete = Some clauses.OnlyIfNoContainedObjects;
}

abbrev pub logs : Set
logs = record network {
  classes =
      class_with 1 (codes "top") [] (1 ∷ 2 ∷ 3 ∷ [])
      ∷ class_with 4 (codes "log") (class_id 1 ∷ []) (6 ∷ 8 ∷ 9 ∷ 10 ∷ 11 ∷ 13 ∷ 14 ∷ 15 ∷ 16 ∷ [])
      ∷ class_with 5 (codes "eventLogRecord") (class_id 1 ∷ []) (7 ∷ []) ∷ [];
  attributes = templates;
  bindings = record_binding ∷ [];
}

abbrev pub log_part : Rdn
log_part = record { attribute = id 6; value = 2 ∷ 1 ∷ 1 ∷ [] }

abbrev pub record_part : ℕ → Rdn
record_part n = record { attribute = id 7; value = 2 ∷ 1 ∷ n ∷ [] }

abbrev pub held : ℕ → TypedValue → Attribute
held n value = record { id = id n; value = value }

abbrev pub statuses : List ℕ → TypedValue
statuses numbers = Many (listed (map (λ n. Int (pos n)) numbers))

abbrev pub log_telling : List ℕ → ℕ → ℕ → Object
log_telling status octets records = record {
  class = class_id 4;
  binding = None;
  chosen = [];
  attrs =
      held 6 (Pick 0 (Int (pos 1))) ∷ held 10 (statuses status) ∷ held 15 (Int (pos octets))
      ∷ held 16 (Int (pos records)) ∷ [];
}

abbrev pub log_record : ℕ → NamedObject
log_record n = record {
  name = log_part ∷ record_part n ∷ [];
  object = record {
    class = class_id 5;
    binding = Some record_binding.id;
    chosen = [];
    attrs = held 7 (Int (pos n)) ∷ [];
  };
}

-- it is named like a record, and is none
abbrev pub no_record : NamedObject
no_record = record (log_record 3) {
  object = record { class = class_id 1; binding = Some record_binding.id; chosen = []; attrs = [] };
}

abbrev pub with_records : List NamedObject
with_records =
    root ∷ entry (log_part ∷ []) (log_telling (1 ∷ 8 ∷ []) 28 2) ∷ log_record 1 ∷ log_record 2 ∷ no_record ∷ []

-- the log has one record of 14 octets left, and isn't full any more
record_goes : delete_one logs with_records (log_part ∷ record_part 1 ∷ []) first_second
    ≡ Ok (record {
      changes =
          (log_part ∷ record_part 1 ∷ [], None) ∷ (log_part ∷ [], Some (log_telling (1 ∷ []) 14 1)) ∷ [];
      reply = single plain_result (plain_value (class_id 5) (log_part ∷ record_part 1 ∷ []) first_second);
      sources = record { name = log_part ∷ record_part 1 ∷ []; class = class_id 5; what = what.Deleted } ∷ [];
    })
unfolding identifier_octets length_octets integer_contents subidentifier
record_goes = refl

-- the deletion of an object that is no record leaves the log as it is
other_goes : delete_one logs with_records (log_part ∷ record_part 3 ∷ []) first_second
    ≡ Ok (record {
      changes = (log_part ∷ record_part 3 ∷ [], None) ∷ [];
      reply = single plain_result (plain_value (class_id 1) (log_part ∷ record_part 3 ∷ []) first_second);
      sources = record { name = log_part ∷ record_part 3 ∷ []; class = class_id 1; what = what.Deleted } ∷ [];
    })
other_goes = refl
