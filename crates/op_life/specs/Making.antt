-- The errors of a creation behind that of its list, told of the attributes that have a value and of those that lack
-- one: X.711, section 7.4, m-Create.
use Rattle.std.specs.Prelude.{ℕ, List, [], ◌∷◌, Option, None, Some, Result, Err}
use Rattle.std.specs.Prelude.{if◌then◌else◌}
use Rattle.std.specs.Option.{option_map_or}
use Rattle.term_values.specs.Typed.{TypedValue}
use Rattle.term_model.specs.declared.creation.Creation.{Creation}
use Rattle.term_model.specs.declared.creation.Outline.{Outline}
use Rattle.term_model.specs.declared.creation.StepError.{StepError}
use Rattle.term_model.specs.declared.object.Attribute.{Attribute}
use Rattle.term_model.specs.declared.object.Object.{Object}
use Rattle.term_model.specs.declared.request.IdRef.TheVariants as ids
use Rattle.term_model.specs.declared.schema.Set.{Set}
use Rattle.term_model.specs.CmisErrors.{invalid_attribute_value}
use Rattle.term_model.specs.CreateSteps.{first_error, is_exempt, may_stand, missing_error, octets_of, sized}
use Rattle.term_model.specs.CreateValues.{listed_value, or_else, other_value}

-- the value of an attribute from elsewhere than the agent
abbrev pub source_of : Set → Creation → List ℕ → Option TypedValue
source_of schema creation attribute = or_else (listed_value creation attribute) (other_value schema creation attribute)

abbrev pub unfit_error : Set → Attribute → StepError
unfit_error schema held = record {
  step = 10;
  error = invalid_attribute_value (ids.Global held.id) (octets_of schema held.id held.value);
}

-- the error of an attribute with its value
abbrev pub held_error : Set → Creation → Outline → Attribute → Option StepError
held_error schema creation outline held =
    if is_exempt schema creation outline held.id then None
    else (if may_stand schema creation.class held.id held.value then None else Some (unfit_error schema held))

abbrev pub others_error_of : Set → Creation → Outline → List Attribute → Option StepError
others_error_of schema creation outline [] = None
others_error_of schema creation outline (first ∷ others) =
    first_error (held_error schema creation outline first) (others_error_of schema creation outline others)

abbrev pub object_with : Creation → List (List ℕ) → List Attribute → Object
object_with creation chosen attributes = record {
  class = creation.class;
  binding = creation.binding;
  chosen = chosen;
  attrs = attributes;
}

-- the object with these attributes, where none is missing, or its error
abbrev pub made_with : Set → Creation → Outline → List (List ℕ) → List Attribute → Result Object StepError
made_with schema creation outline missing attributes =
    option_map_or Err (first_error (missing_error missing) (others_error_of schema creation outline attributes))
    (sized schema creation (object_with creation outline.chosen attributes))
