-- The errors of a creation that its values can have, in their order: X.711, section 7.4, m-Create; docs/PROFILE.md,
-- section 15. The steps of a creation are numbered: these are the eighth to the eleventh.
use Rattle.std.specs.Prelude.{ℕ, List, [], ◌∷◌, ◌++◌, Bool, true, false, ◌&&◌, ◌||◌, not, Option, None, Some, Result, Ok, Err}
use Rattle.std.specs.Prelude.{filter, filter_map, is_none, is_some, length, nat_le, option_and_then}
use Rattle.std.specs.Prelude.{if◌then◌else◌}
use Rattle.std.specs.List.{list_all, list_any}
use Rattle.std.specs.Option.{option_map, option_map_or}
use Rattle.term_values.specs.SameValue.{same_value}
use Rattle.term_values.specs.Typed.{TypedValue}
use Rattle.term_values.specs.Written.{der}
use Rattle.term_model.specs.declared.filter_item.Given.{Given}
use Rattle.term_model.specs.declared.object.Attribute.{Attribute}
use Rattle.term_model.specs.declared.object.Object.{Object}
use Rattle.term_model.specs.declared.packages.PackageRec.{PackageRec}
use Rattle.term_model.specs.declared.packages.Property.{Property}
use Rattle.term_model.specs.declared.reply.CmisError.{CmisError}
use Rattle.term_model.specs.declared.request.IdRef.TheVariants as ids
use Rattle.term_model.specs.declared.results.FailureReason.TheVariants as reasons
use Rattle.term_model.specs.declared.schema.ClassRec.{ClassRec}
use Rattle.term_model.specs.declared.schema.Set.{Set}
use Rattle.term_model.specs.AgentWritten.{is_agent_written, is_packages}
use Rattle.term_model.specs.BoundClasses.{object_size}
use Rattle.term_model.specs.ClassAttributes.{is_permitted, property_of, syntax_of}
use Rattle.term_model.specs.CmisErrors.{invalid_attribute_value, missing_attribute_value, no_such_attribute}
use Rattle.term_model.specs.CmisErrors.{processing_failure}
use Rattle.term_model.specs.Comparing.{is_same_octets, is_same_oid}
use Rattle.term_model.specs.CreateValues.{created_value, gives, initial_value, listed_value}
use Rattle.term_model.specs.declared.creation.Creation.{Creation}
use Rattle.term_model.specs.declared.creation.Outline.{Outline}
use Rattle.term_model.specs.declared.creation.StepError.{StepError}
use Rattle.term_model.specs.Creation.{identifiers_in, registered}
use Rattle.term_model.specs.ObjectOperation.{class_record}
use Rattle.term_model.specs.PresentPackages.{classes_above, is_among}

abbrev pub fails : ℕ → CmisError → Option StepError
fails step error = Some (record { step = step; error = error })

-- the octets of an attribute's value
abbrev pub octets_of : Set → List ℕ → TypedValue → List ℕ
octets_of schema attribute value = option_map_or (λ syntax. der syntax value) (syntax_of schema.attributes attribute) []

-- a value that may stand: each type of PERMITTED VALUES permits it, and it has at most 8192 octets
abbrev pub may_stand : Set → List ℕ → List ℕ → TypedValue → Bool
may_stand schema class attribute value =
    option_map_or (λ (property : Property). is_permitted property.permitted value)
    (property_of schema class attribute) true
    && nat_le (length (octets_of schema attribute value)) 8192

-- it is the value in the name, where the object is named by the attribute
abbrev pub agrees_with_name : Set → Creation → List ℕ → TypedValue → Bool
agrees_with_name schema creation attribute value =
    not (is_same_oid creation.named.attribute attribute)
    || is_same_octets (octets_of schema attribute value) creation.named.value

-- it is the INITIAL VALUE, where one is stated
abbrev pub agrees_with_initial : Set → Creation → List ℕ → TypedValue → Bool
agrees_with_initial schema creation attribute value =
    option_map_or (λ initial. same_value initial value) (initial_value schema creation.class attribute) true

-- a conditional package of the class or of one above it has the identifier
abbrev pub is_registered_as : List ℕ → PackageRec → Bool
is_registered_as id of_package = option_map_or (λ own. is_same_oid own id) of_package.id false

abbrev pub is_conditional_of : List ℕ → ClassRec → Bool
is_conditional_of id of_class = list_any (is_registered_as id) of_class.conditional

abbrev pub is_conditional_in : Set → List ℕ → List ℕ → Bool
is_conditional_in schema id above =
    option_map_or (is_conditional_of id) (class_record schema.classes above) false

abbrev pub is_conditional : Set → List ℕ → List ℕ → Bool
is_conditional schema class id = list_any (is_conditional_in schema id) (classes_above schema.classes class)

-- where it lists packages, each is a conditional one of the class
abbrev pub has_conditional_packages : Set → Creation → List ℕ → TypedValue → Bool
has_conditional_packages schema creation attribute value =
    not (is_packages schema creation.class attribute)
    || list_all (is_conditional schema creation.class) (identifiers_in value)

abbrev pub is_good_value : Set → Creation → List ℕ → TypedValue → Bool
is_good_value schema creation attribute value =
    may_stand schema creation.class attribute value && agrees_with_name schema creation attribute value
    && agrees_with_initial schema creation attribute value
    && has_conditional_packages schema creation attribute value

-- a member of the list that no earlier one repeats, whose value is one of the attribute's syntax and may stand
abbrev pub is_good_member : Set → Creation → List Given → List ℕ → Given → Bool
is_good_member schema creation before attribute given =
    not (list_any (gives attribute) before)
    && option_map_or (is_good_value schema creation attribute) given.value false

-- noSuchAttribute, or invalidAttributeValue, of a member of the list; the object has these attributes
abbrev pub member_error : Set → Creation → List (List ℕ) → List Given → Given → List ℕ → Option StepError
member_error schema creation attributes before given attribute =
    if is_among attributes attribute
    then (if is_good_member schema creation before attribute given then None
    else fails 8 (invalid_attribute_value given.id given.raw))
    else fails 8 (no_such_attribute given.id)

abbrev pub given_error : Set → Creation → List (List ℕ) → List Given → Given → Option StepError
given_error schema creation attributes before given =
    option_map_or (member_error schema creation attributes before given) (registered given.id)
    (fails 8 (no_such_attribute given.id))

-- the first of two errors
abbrev pub first_error : Option StepError → Option StepError → Option StepError
first_error (Some error) other = Some error
first_error None other = other

-- the eighth step: the error of the first member of the list that has one, behind those before it
abbrev pub list_error : Set → Creation → List (List ℕ) → List Given → List Given → Option StepError
list_error schema creation attributes before [] = None
list_error schema creation attributes before (given ∷ others) =
    first_error (given_error schema creation attributes before given)
    (list_error schema creation attributes (before ++ given ∷ []) others)

-- the ninth step: the attributes without a value
abbrev pub missing_ids : Set → Creation → Outline → List (List ℕ)
missing_ids schema creation outline =
    filter (λ id. is_none (created_value schema creation outline id)) outline.attributes

abbrev pub missing_error : List (List ℕ) → Option StepError
missing_error [] = None
missing_error (first ∷ others) = fails 9 (missing_attribute_value (first ∷ others))

-- the value of an attribute comes from the list, or the agent writes it
abbrev pub is_exempt : Set → Creation → Outline → List ℕ → Bool
is_exempt schema creation outline attribute =
    is_agent_written schema outline.bound_log attribute || is_some (listed_value creation attribute)

-- a value from elsewhere that may not stand
abbrev pub other_value_error : Set → Creation → List ℕ → TypedValue → Option StepError
other_value_error schema creation attribute value =
    if may_stand schema creation.class attribute value then None
    else fails 10 (invalid_attribute_value (ids.Global attribute) (octets_of schema attribute value))

abbrev pub attribute_error : Set → Creation → Outline → List ℕ → Option StepError
attribute_error schema creation outline attribute =
    if is_exempt schema creation outline attribute then None
    else option_and_then (other_value_error schema creation attribute)
    (created_value schema creation outline attribute)

-- the tenth step: the error of the first attribute, by rising identifier, that has one
abbrev pub others_error : Set → Creation → Outline → List (List ℕ) → Option StepError
others_error schema creation outline [] = None
others_error schema creation outline (first ∷ others) =
    first_error (attribute_error schema creation outline first) (others_error schema creation outline others)

-- the object, once each attribute has its value
abbrev pub created_attribute : Set → Creation → Outline → List ℕ → Option Attribute
created_attribute schema creation outline id =
    option_map (λ value. record { id = id; value = value }) (created_value schema creation outline id)

abbrev pub created_object : Set → Creation → Outline → Object
created_object schema creation outline = record {
  class = creation.class;
  binding = creation.binding;
  chosen = outline.chosen;
  attrs = filter_map (created_attribute schema creation outline) outline.attributes;
}

-- the eleventh step: an object of more than 16384 octets
abbrev pub size_error : Set → Creation → Object → Option StepError
size_error schema creation object =
    if nat_le (object_size schema object) 16384 then None
    else fails 11 (processing_failure creation.asked creation.instance reasons.Limit)

-- the first error of these steps, of an object with these packages and attributes
abbrev pub values_error : Set → Creation → Outline → Option StepError
values_error schema creation outline =
    first_error (list_error schema creation outline.attributes [] creation.given)
    (first_error (missing_error (missing_ids schema creation outline))
    (others_error schema creation outline outline.attributes))

-- the object, unless it is too long
abbrev pub sized : Set → Creation → Object → Result Object StepError
sized schema creation object = option_map_or Err (size_error schema creation object) (Ok object)

-- the object, or the first error
abbrev pub made : Set → Creation → Outline → Result Object StepError
made schema creation outline =
    option_map_or Err (values_error schema creation outline)
    (sized schema creation (created_object schema creation outline))
