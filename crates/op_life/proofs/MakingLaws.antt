-- The steps of a creation that its values decide, from the list on.
use Rattle.std.proofs.Common.{◌≡◌, ℕ, ◌≤◌, ◌<◌, List, [], ◌∷◌, Bool, true, false, refl, ap}
use Rattle.std.proofs.Common.{sym, ◌∙◌, arith}
use Rattle.std.specs.Prelude.{filter_map, nat_le, Option, None, Some, Result, Ok, Err, if◌then◌else◌, option_and_then}
use Rattle.std.specs.List.{cons_option}
use Rattle.std.specs.Option.{option_map, option_map_or}
use Rattle.std.proofs.lemmas.Bool.Decides.{leb_tells, nat_tests}
use Rattle.term_values.specs.Typed.{TypedValue}
use Rattle.term_model.specs.declared.creation.Creation.{Creation}
use Rattle.term_model.specs.declared.creation.Outline.{Outline}
use Rattle.term_model.specs.declared.creation.StepError.{StepError}
use Rattle.term_model.specs.declared.object.Attribute.{Attribute}
use Rattle.term_model.specs.declared.object.Object.{Object}
use Rattle.term_model.specs.declared.results.FailureReason.TheVariants as reasons
use Rattle.term_model.specs.declared.schema.Set.{Set}
use Rattle.term_model.specs.BoundClasses.{object_size}
use Rattle.term_model.specs.CmisErrors.{processing_failure}
use Rattle.term_model.specs.CreateSteps.{attribute_error, created_attribute, created_object, first_error, is_exempt}
use Rattle.term_model.specs.CreateSteps.{list_error, made, missing_error, missing_ids, other_value_error, others_error}
use Rattle.term_model.specs.CreateSteps.{sized}
use Rattle.term_model.specs.CreateValues.{created_value}
use Rattle.op_life.specs.declared.created_values.Filled.{Filled}
use Rattle.op_life.specs.Filling.{all_filled}
use Rattle.op_life.specs.Making.{made_with, others_error_of}

size_told : (n : ℕ) (error : StepError) (object : Object) → n ≤ 16384
    → Ok object ≡ option_map_or Err (if nat_le n 16384 then None else Some error) (Ok object)
size_told n error object small =
    let e : true ≡ nat_le n 16384 = grind (arith, small, nat_tests, leb_tells) in
    ap (λ (b : Bool). option_map_or Err (if b then None else Some error) (Ok object)) e

past_told : (n : ℕ) (error : StepError) (object : Object) → 16384 < n
    → Err error ≡ option_map_or Err (if nat_le n 16384 then None else Some error) (Ok object)
past_told n error object large =
    let e : false ≡ nat_le n 16384 = grind (arith, large, nat_tests, leb_tells) in
    ap (λ (b : Bool). option_map_or Err (if b then None else Some error) (Ok object)) e

pub small_sized : (schema : Set) (creation : Creation) (object : Object) → object_size schema object ≤ 16384
    → Ok object ≡ sized schema creation object
small_sized schema creation object small = size_told (object_size schema object) _ object small

pub large_sized : (schema : Set) (creation : Creation) (object : Object) (error : StepError)
    → 16384 < object_size schema object
    → error
    ≡ record { step = 11; error = processing_failure creation.asked creation.instance reasons.Limit }
    → Err error ≡ sized schema creation object
large_sized schema creation object error large e =
    ap Err e ∙ past_told (object_size schema object) _ object large

-- one attribute with the value that it may have
one_error : (schema : Set) (creation : Creation) (outline : Outline) (id : List ℕ) (value : Option TypedValue)
    (exempt : Bool) (rest : List Attribute) → exempt ≡ is_exempt schema creation outline id
    → first_error (if exempt then None else option_and_then (other_value_error schema creation id) value)
    (others_error_of schema creation outline rest)
    ≡ others_error_of schema creation outline
    (cons_option (option_map (λ x. record { id = id; value = x }) value) rest)
one_error schema creation outline id None true rest e = refl
one_error schema creation outline id None false rest e = refl
one_error schema creation outline id (Some value) exempt rest e =
    ap
    (λ (b : Bool).
    first_error (if b then None else other_value_error schema creation id value)
    (others_error_of schema creation outline rest))
    e

pub others_told : (schema : Set) (creation : Creation) (outline : Outline) (ids : List (List ℕ))
    → others_error_of schema creation outline (filter_map (created_attribute schema creation outline) ids)
    ≡ others_error schema creation outline ids
others_told schema creation outline [] = refl
others_told schema creation outline (id ∷ ids) =
    sym
    (one_error schema creation outline id (created_value schema creation outline id)
    (is_exempt schema creation outline id) (filter_map (created_attribute schema creation outline) ids) refl)
    ∙ ap (first_error (attribute_error schema creation outline id)) (others_told schema creation outline ids)

pub list_told : (schema : Set) (creation : Creation) (outline : Outline) (error : StepError)
    → Some error ≡ list_error schema creation outline.attributes [] creation.given
    → Err error ≡ made schema creation outline
list_told schema creation outline error e =
    ap
    (λ (of_list : Option StepError).
    option_map_or Err
    (first_error of_list
    (first_error (missing_error (missing_ids schema creation outline))
    (others_error schema creation outline outline.attributes)))
    (sized schema creation (created_object schema creation outline)))
    e

pub made_told : (schema : Set) (creation : Creation) (outline : Outline) (filled : Filled)
    (came : Result Object StepError) → None ≡ list_error schema creation outline.attributes [] creation.given
    → filled ≡ all_filled schema creation outline
    → came ≡ made_with schema creation outline filled.missing filled.attrs → came ≡ made schema creation outline
made_told schema creation outline filled came list whole e =
    e ∙ ap (λ (all : Filled). made_with schema creation outline all.missing all.attrs) whole
    ∙ ap
    (λ (error : Option StepError).
    option_map_or Err (first_error (missing_error (missing_ids schema creation outline)) error)
    (sized schema creation (created_object schema creation outline)))
    (others_told schema creation outline outline.attributes)
    ∙ ap
    (λ (of_list : Option StepError).
    option_map_or Err
    (first_error of_list
    (first_error (missing_error (missing_ids schema creation outline))
    (others_error schema creation outline outline.attributes)))
    (sized schema creation (created_object schema creation outline)))
    list
