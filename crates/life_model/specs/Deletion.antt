-- What the deletion of one object does: X.711, section 7.4, m-Delete; X.722, section 8.6, DELETE; X.735, section 8;
-- docs/PROFILE.md, section 15. It looks at the objects at the name and below it, at the class of the superior, and at
-- the records of the superior where that is a bound log.
use Rattle.std.specs.Prelude.{ℕ, List, [], ◌∷◌, ◌++◌, true, ◌&&◌, Option, None, Some, Result, Ok, Err}
use Rattle.std.specs.Prelude.{find, map, option_and_then, if◌then◌else◌}
use Rattle.std.specs.Option.{option_map_or}
use Rattle.term_values.specs.ResultSyntaxes.{plain_result}
use Rattle.term_model.specs.declared.effect.Effect.{Effect}
use Rattle.term_model.specs.declared.effect.Source.{Source}
use Rattle.term_model.specs.declared.effect.What.TheVariants.{Deleted}
use Rattle.term_model.specs.declared.name.Rdn.{Rdn}
use Rattle.term_model.specs.declared.name_binding.BindRec.{BindRec}
use Rattle.term_model.specs.declared.name_binding.DeleteClause.{DeleteClause}
use Rattle.term_model.specs.declared.name_binding.DeleteClause.TheVariants as clauses
use Rattle.term_model.specs.declared.object.Attribute.{Attribute}
use Rattle.term_model.specs.declared.object.Object.{Object}
use Rattle.term_model.specs.declared.objects.NamedObject.{NamedObject}
use Rattle.term_model.specs.declared.reply.CmisError.{CmisError}
use Rattle.term_model.specs.declared.request.IdRef.TheVariants as ids
use Rattle.term_model.specs.declared.results.FailureReason.{FailureReason}
use Rattle.term_model.specs.declared.results.FailureReason.TheVariants as reasons
use Rattle.term_model.specs.declared.schema.Set.{Set}
use Rattle.term_model.specs.BoundClasses.{is_bound_log}
use Rattle.term_model.specs.CmisErrors.{no_such_instance, processing_failure}
use Rattle.term_model.specs.Comparing.{is_same_oid}
use Rattle.term_model.specs.CreateValues.{settled_value}
use Rattle.term_model.specs.Creating.{superior_of}
use Rattle.term_model.specs.GetRequest.{instance_octets}
use Rattle.term_model.specs.LogRecords.{counted_log, is_record_of, records_of}
use Rattle.term_model.specs.NamedObjects.{object_at}
use Rattle.term_model.specs.Replies.{single}
use Rattle.term_model.specs.ResultValues.{plain_value}
use Rattle.life_model.specs.Subtrees.{has_contained, subtree_backwards, without_subtree}

-- the name binding that is registered under an identifier
abbrev pub binding_record : List BindRec → List ℕ → Option BindRec
binding_record records id = find (λ (binding : BindRec). is_same_oid binding.id id) records

-- the DELETE clause of the binding by which the object of a name is named; the root has none
abbrev pub delete_clause : Set → List Rdn → Object → Option DeleteClause
delete_clause schema [] object = None
delete_clause schema (first ∷ rest) object =
    option_and_then (λ (binding : BindRec). binding.delete)
    (option_and_then (binding_record schema.bindings) object.binding)

-- processingFailure with the object's own class and its local name
abbrev pub failure : List Rdn → Object → FailureReason → CmisError
failure name object reason = processing_failure (ids.Global object.class) (instance_octets name) reason

-- a bound log that isn't full any more: availabilityStatus without logFull
abbrev pub eased_attribute : Set → Attribute → Attribute
eased_attribute schema held = record held { value = settled_value schema true held.id held.value }

abbrev pub eased_log : Set → Object → Object
eased_log schema log = record log { attrs = map (eased_attribute schema) log.attrs }

-- The superior that a deletion changes: a bound log of which the deleted object was a record. It tells how many octets
-- the records that stay have, and how many they are, and isn't full any more.
abbrev pub log_without : Set → List Rdn → List NamedObject → Object → Object
log_without schema log staying object = counted_log schema (records_of schema log staying) (eased_log schema object)

abbrev pub superior_changes : Set → List NamedObject → NamedObject → List Rdn → Object → List (List Rdn × Option Object)
superior_changes schema objects entry log object =
    if is_bound_log schema object.class && is_record_of schema log entry
    then (log, Some (log_without schema log (without_subtree entry.name objects) object)) ∷ []
    else []

abbrev pub log_changes : Set → List NamedObject → NamedObject → List (List Rdn × Option Object)
log_changes schema objects entry =
    option_map_or (superior_changes schema objects entry (superior_of entry.name))
    (object_at objects (superior_of entry.name)) []

-- each object that goes is the source of an event
abbrev pub deleted_source : NamedObject → Source
deleted_source entry = record { name = entry.name; class = entry.object.class; what = Deleted }

abbrev pub deleted_change : NamedObject → List Rdn × Option Object
deleted_change entry = (entry.name, None)

-- The object goes with all below it, the deepest names first, and there is one result, of the object itself. The log
-- of which it was a record stands behind its records.
abbrev pub deletion_effect : Set → List NamedObject → List Rdn → Object → List ℕ → Effect
deletion_effect schema objects name object time = record {
  changes =
      map deleted_change (subtree_backwards name objects)
      ++ log_changes schema objects (record { name = name; object = object });
  reply = single plain_result (plain_value object.class name time);
  sources = map deleted_source (subtree_backwards name objects);
}

-- by the DELETE clause: ONLY-IF-NO-CONTAINED-OBJECTS fails where the object contains others
abbrev pub deleted_by : Set → List NamedObject → List Rdn → Object → List ℕ → Option DeleteClause
    → Result Effect CmisError
deleted_by schema objects name object time None = Err (failure name object reasons.NotDeletable)
deleted_by schema objects name object time (Some clauses.OnlyIfNoContainedObjects) =
    if has_contained name objects then Err (failure name object reasons.Contained)
    else Ok (deletion_effect schema objects name object time)
deleted_by schema objects name object time (Some clauses.DeletesContainedObjects) =
    Ok (deletion_effect schema objects name object time)

-- the deletion of an object that is there, granted at the moment that this text tells
abbrev pub delete_object : Set → List NamedObject → List Rdn → Object → List ℕ → Result Effect CmisError
delete_object schema objects name object time =
    deleted_by schema objects name object time (delete_clause schema name object)

-- the deletion of the object of a name
abbrev pub delete_one : Set → List NamedObject → List Rdn → List ℕ → Result Effect CmisError
delete_one schema objects name time =
    option_map_or (λ object. delete_object schema objects name object time) (object_at objects name)
    (Err (no_such_instance (instance_octets name)))
