-- What holds between the octets of names, attributes and results and the one form of their values: X.711, section 7.5;
-- X.690, section 10.
use Rattle.std.specs.Prelude.{◌≡◌, ℕ, List, map, ◌<◌, true}
use Rattle.term_values.specs.CmipTypes.{attribute, base, object_instance}
use Rattle.term_values.specs.Der.{encoded}
use Rattle.term_values.specs.ResultSyntaxes.{action_error, action_result, attributes_result, get_list_error}
use Rattle.term_values.specs.ResultSyntaxes.{linked_reply, plain_result, processing_failure, set_list_error}
use Rattle.term_values.specs.Syntaxes.{TypeSyntax}
use Rattle.term_values.specs.Tag.{context}
use Rattle.term_values.specs.Typed.{TypedValue}
use Rattle.term_values.specs.Typed.TypedValue.{Pick, Raw}
use Rattle.term_values.specs.Written.{der}
use Rattle.term_model.specs.declared.name.Rdn.{Rdn}
use Rattle.term_model.specs.declared.object.Attribute.{Attribute}
use Rattle.term_model.specs.declared.object.Object.{Object}
use Rattle.term_model.specs.declared.request.IdRef.{IdRef}
use Rattle.term_model.specs.declared.request.IdRef.TheVariants.{Global}
use Rattle.term_model.specs.declared.results.AttributeValue.{AttributeValue}
use Rattle.term_model.specs.declared.results.FailureReason.{FailureReason}
use Rattle.term_model.specs.declared.schema.AttrRec.{AttrRec}
use Rattle.term_model.specs.declared.schema.Set.{Set}
use Rattle.term_model.specs.FailureValues.{base_value, failure_value, kept_base, kept_failure}
use Rattle.term_model.specs.GetRequest.{instance_octets}
use Rattle.term_model.specs.ObjectOperation.{attribute_octets, attributes_octets, get_one, readable, value_octets}
use Rattle.term_model.specs.Replies.{contents_of}
use Rattle.term_model.specs.ResultValues.{attribute_value, attributes_value, held_value, local_instance, set_value}
use Rattle.term_values.specs.CmipTypes.{implicit, set_of}

-- a name is written as an ObjectInstance in localDistinguishedName
abbrev pub InstanceIsWritten : Type 0
InstanceIsWritten = (name : List Rdn) → instance_octets name ≡ der object_instance (local_instance name)

-- an attribute of an object with the octets of its value
abbrev pub told_attribute : List AttrRec → Attribute → AttributeValue
told_attribute records held = record { id = held.id; value = value_octets records held }

abbrev pub AttributeIsWritten : Type 0
AttributeIsWritten =
    (records : List AttrRec) (held : Attribute) → attribute_octets records held
    ≡ der attribute (held_value (told_attribute records held))

abbrev pub AttributesAreWritten : Type 0
AttributesAreWritten =
    (records : List AttrRec) (attributes : List Attribute) → attributes_octets records attributes
    ≡ der (implicit 6 (set_of attribute))
    (set_value attribute (map held_value (map (told_attribute records) attributes)))

-- the result of a Get of an object
abbrev pub GetIsWritten : Type 0
GetIsWritten =
    (schema : Set) (name : List Rdn) (object : Object) (time : List ℕ) → get_one schema name object time
    ≡ der attributes_result
    (attributes_value object.class name time
    (map (told_attribute schema.attributes) (readable schema object)))

-- which syntax stands under which number of LinkedReply
abbrev pub IsAlternative : ℕ → TypeSyntax → Type 0
IsAlternative number syntax =
    (value : TypedValue) → encoded true (context number) (contents_of syntax value)
    ≡ der linked_reply (Pick number value)

-- a linked reply is its number's alternative of LinkedReply: getResult, getListError, setResult, setListError,
-- actionResult, processingFailure, deleteResult, actionError
pub record LinkedIsWritten : Type 0 where
  pub get_result : IsAlternative 0 attributes_result
  pub get_list_error : IsAlternative 1 get_list_error
  pub set_result : IsAlternative 2 attributes_result
  pub set_list_error : IsAlternative 3 set_list_error
  pub action_result : IsAlternative 4 action_result
  pub processing_failure : IsAlternative 5 processing_failure
  pub delete_result : IsAlternative 6 plain_result
  pub action_error : IsAlternative 7 action_error

-- an instance that is kept in the one form of a value stands where the value would
pub record KeptIsWritten : Type 0 where
  pub base : (class : IdRef) (octets : List ℕ) (instance : TypedValue) → octets ≡ der object_instance instance
      → der kept_base (base_value class (Raw octets)) ≡ der base (base_value class instance)
  pub failure : (class : IdRef) (octets : List ℕ) (instance : TypedValue) (reason : FailureReason)
      → octets ≡ der object_instance instance
      → der kept_failure (failure_value class (Raw octets) reason)
      ≡ der processing_failure (failure_value class instance reason)
