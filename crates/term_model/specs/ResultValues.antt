-- What results and linked replies hold, as values of the syntaxes of ResultSyntaxes: X.711, section 7; docs/PROFILE.md,
-- section 4. Replies name classes, attributes and actions in globalForm, objects in localDistinguishedName.
use Rattle.std.specs.Prelude.{ℕ, List, map, Option, None, Some}
use Rattle.term_values.specs.CmipTypes.{attribute}
use Rattle.term_values.specs.Decoding.{rising_by}
use Rattle.term_values.specs.ResultSyntaxes.{get_error, set_error, outcome}
use Rattle.term_values.specs.Syntaxes.{TypeSyntax}
use Rattle.term_values.specs.Typed.{TypedValue, TypedSlots, listed}
use Rattle.term_values.specs.Typed.TypedSlots.{NoSlots, Filled, Empty}
use Rattle.term_values.specs.Typed.TypedValue.{Identifier, Int, Many, Parts, Pick, Raw, Time}
use Rattle.term_values.specs.Written.{der}
use Rattle.term_model.specs.declared.name.Rdn.{Rdn}
use Rattle.term_model.specs.declared.request.IdRef.{IdRef}
use Rattle.term_model.specs.declared.request.IdRef.TheVariants as ids
use Rattle.term_model.specs.declared.results.ActionReply.{ActionReply}
use Rattle.term_model.specs.declared.results.AttributeValue.{AttributeValue}
use Rattle.term_model.specs.declared.results.GetInfoStatus.{GetInfoStatus}
use Rattle.term_model.specs.declared.results.GetInfoStatus.TheVariants as get_info
use Rattle.term_model.specs.declared.results.SetInfoStatus.{SetInfoStatus}
use Rattle.term_model.specs.declared.results.SetInfoStatus.TheVariants as set_info
use Rattle.term_model.specs.GetRequest.{name_value}

-- an identifier: of a class, an attribute, an action or an event
abbrev pub id_value : IdRef → TypedValue
id_value (ids.Global arcs) = Pick 0 (Identifier arcs)
id_value (ids.Local number) = Pick 1 (Int number)

-- in globalForm
abbrev pub global_value : List ℕ → TypedValue
global_value arcs = Pick 0 (Identifier arcs)

-- an object's instance in localDistinguishedName
abbrev pub local_instance : List Rdn → TypedValue
local_instance name = Pick 2 (name_value name)

-- a SET OF: its members by the rising order of their encodings
abbrev pub set_value : TypeSyntax → List TypedValue → TypedValue
set_value member values = Many (rising_by (der member) (listed values))

-- an attribute, and the value of it that stands in these octets
abbrev pub attribute_value : IdRef → List ℕ → TypedValue
attribute_value id octets = Parts (Filled (id_value id) (Filled (Raw octets) NoSlots))

abbrev pub held_value : AttributeValue → TypedValue
held_value held = attribute_value (ids.Global held.id) held.value

-- class, instance and the moment of the grant, with which results begin, and what follows
abbrev pub result_slots : List ℕ → List Rdn → List ℕ → TypedSlots → TypedSlots
result_slots class name time rest =
    Filled (global_value class) (Filled (local_instance name) (Filled (Time time) rest))

-- of Get, Set and Create, with these attributes
abbrev pub attributes_value : List ℕ → List Rdn → List ℕ → List AttributeValue → TypedValue
attributes_value class name time attributes =
    Parts (result_slots class name time (Filled (set_value attribute (map held_value attributes)) NoSlots))

-- of an action, with what it replied
abbrev pub reply_slots : Option ActionReply → TypedSlots
reply_slots None = Empty NoSlots
reply_slots (Some reply) =
    Filled (Parts (Filled (global_value reply.action) (Filled (Raw reply.info) NoSlots))) NoSlots

abbrev pub action_value : List ℕ → List Rdn → List ℕ → Option ActionReply → TypedValue
action_value class name time reply = Parts (result_slots class name time (reply_slots reply))

-- of Delete and Report
abbrev pub plain_value : List ℕ → List Rdn → List ℕ → TypedValue
plain_value class name time = Parts (result_slots class name time NoSlots)

-- errors and attributes of a getListError and of a setListError
abbrev pub get_info_value : GetInfoStatus → TypedValue
get_info_value (get_info.Error status id) = Pick 0 (Parts (Filled (Int status) (Filled (id_value id) NoSlots)))
get_info_value (get_info.Attribute held) = Pick 1 (held_value held)

abbrev pub set_info_value : SetInfoStatus → TypedValue
set_info_value (set_info.Error status operator id) =
    Pick 0 (Parts (Filled (Int status) (Filled (Int operator) (Filled (id_value id) NoSlots))))
set_info_value (set_info.Attribute held) = Pick 1 (held_value held)

abbrev pub get_list_value : List ℕ → List Rdn → List ℕ → List GetInfoStatus → TypedValue
get_list_value class name time statuses =
    Parts (result_slots class name time (Filled (set_value (outcome get_error) (map get_info_value statuses)) NoSlots))

abbrev pub set_list_value : List ℕ → List Rdn → List ℕ → List SetInfoStatus → TypedValue
set_list_value class name time statuses =
    Parts (result_slots class name time (Filled (set_value (outcome set_error) (map set_info_value statuses)) NoSlots))
