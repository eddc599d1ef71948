-- The errors of CMIP with their parameters: X.711, section 7.5; docs/PROFILE.md, section 4. What the request brought is
-- given back in the request's form: identifiers as they were named, an instance, a filter and a value octet for octet
-- in the form in which an ANY is kept.
use Rattle.std.specs.Prelude.{ℕ, ℤ, List, map}
use Rattle.term_values.specs.CmipTypes.{attribute_id}
use Rattle.term_values.specs.Typed.{TypedValue}
use Rattle.term_values.specs.Typed.TypedValue.{Int, Null, Pick, Raw}
use Rattle.term_values.specs.Written.{der}
use Rattle.term_model.specs.declared.name.Rdn.{Rdn}
use Rattle.term_model.specs.declared.reply.CmisError.{CmisError}
use Rattle.term_model.specs.declared.request.IdRef.{IdRef}
use Rattle.term_model.specs.declared.results.FailureReason.{FailureReason}
use Rattle.term_model.specs.declared.results.GetInfoStatus.{GetInfoStatus}
use Rattle.term_model.specs.declared.results.SetInfoStatus.{SetInfoStatus}
use Rattle.term_model.specs.declared.scope.Scope.{Scope}
use Rattle.term_model.specs.declared.scope.Scope.TheVariants as scopes
use Rattle.term_model.specs.FailureValues.{base_value, failure_value, kept_base, kept_failure}
use Rattle.term_model.specs.Replies.{brought_error, cmis_error}
use Rattle.term_model.specs.ResultValues.{attribute_value, get_list_value, global_value, id_value, set_list_value}
use Rattle.term_model.specs.ResultValues.{set_value}

abbrev pub no_such_object_class : IdRef → CmisError
no_such_object_class class = cmis_error 0 (id_value class)

-- the errors of an instance, which stands in these octets: noSuchObjectInstance 1, duplicateManagedObjectInstance 11,
-- noSuchReferenceObject 12, invalidObjectInstance 17
abbrev pub no_such_instance : List ℕ → CmisError
no_such_instance instance = brought_error 1 instance

abbrev pub duplicate_instance : List ℕ → CmisError
duplicate_instance instance = brought_error 11 instance

abbrev pub no_such_reference : List ℕ → CmisError
no_such_reference instance = brought_error 12 instance

abbrev pub invalid_instance : List ℕ → CmisError
invalid_instance instance = brought_error 17 instance

-- the errors without a parameter
abbrev pub access_denied : CmisError
access_denied = cmis_error 2 Null

abbrev pub complexity_limitation : CmisError
complexity_limitation = cmis_error 20 Null

abbrev pub mistyped_operation : CmisError
mistyped_operation = cmis_error 21 Null

abbrev pub operation_cancelled : CmisError
operation_cancelled = cmis_error 23 Null

abbrev pub sync_not_supported : ℤ → CmisError
sync_not_supported sync = cmis_error 3 (Int sync)

-- the filter stands in these octets
abbrev pub invalid_filter : List ℕ → CmisError
invalid_filter filter = cmis_error 4 (Raw filter)

abbrev pub no_such_attribute : IdRef → CmisError
no_such_attribute attribute = cmis_error 5 (id_value attribute)

abbrev pub invalid_attribute_value : IdRef → List ℕ → CmisError
invalid_attribute_value attribute octets = cmis_error 6 (attribute_value attribute octets)

abbrev pub get_list_error : List ℕ → List Rdn → List ℕ → List GetInfoStatus → CmisError
get_list_error class name time statuses = cmis_error 7 (get_list_value class name time statuses)

abbrev pub set_list_error : List ℕ → List Rdn → List ℕ → List SetInfoStatus → CmisError
set_list_error class name time statuses = cmis_error 8 (set_list_value class name time statuses)

-- of actions and of events, each under the tags of its kind
abbrev pub no_such_action : IdRef → CmisError
no_such_action action = cmis_error 9 (Pick 0 (id_value action))

abbrev pub no_such_event_type : IdRef → CmisError
no_such_event_type event = cmis_error 13 (id_value event)

abbrev pub no_such_action_argument : IdRef → CmisError
no_such_action_argument action = cmis_error 14 (Pick 0 (id_value action))

abbrev pub no_such_event_argument : IdRef → CmisError
no_such_event_argument event = cmis_error 14 (Pick 1 (id_value event))

abbrev pub invalid_action_argument : IdRef → CmisError
invalid_action_argument action = cmis_error 15 (Pick 0 (id_value action))

abbrev pub invalid_event_argument : IdRef → CmisError
invalid_event_argument event = cmis_error 15 (Pick 1 (id_value event))

-- the class, the instance in these octets, and the reason
abbrev pub processing_failure : IdRef → List ℕ → FailureReason → CmisError
processing_failure class instance reason =
    brought_error 10 (der kept_failure (failure_value class (Raw instance) reason))

abbrev pub scope_value : Scope → TypedValue
scope_value (scopes.Plain number) = Pick 0 (Int number)
scope_value (scopes.Level number) = Pick 1 (Int number)
scope_value (scopes.Upto number) = Pick 2 (Int number)

abbrev pub invalid_scope : Scope → CmisError
invalid_scope scope = cmis_error 16 (scope_value scope)

-- all attributes that lack a value
abbrev pub missing_attribute_value : List (List ℕ) → CmisError
missing_attribute_value attributes = cmis_error 18 (set_value attribute_id (map global_value attributes))

-- the class, and the instance in these octets
abbrev pub class_instance_conflict : IdRef → List ℕ → CmisError
class_instance_conflict class instance = brought_error 19 (der kept_base (base_value class (Raw instance)))

abbrev pub no_such_invoke_id : ℤ → CmisError
no_such_invoke_id invoke = cmis_error 22 (Int invoke)
