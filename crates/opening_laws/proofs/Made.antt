-- What the last steps of a creation make: an object with exactly the attributes of its outline, which isn't too long.
use Rattle.std.proofs.Common.{◌≡◌, ℕ, ◌≤◌, Bool, true, false, List, [], ◌∷◌, Option, None, Some, Ok, Err, refl, sym}
use Rattle.std.proofs.Common.{ap, ◌∙◌}
use Rattle.std.proofs.Common.{arith}
use Rattle.std.specs.Prelude.{Result, filter, filter_map, if◌then◌else◌, is_none, nat_le}
use Rattle.std.specs.List.{cons_option}
use Rattle.std.specs.Option.{option_map, option_map_or}
use Rattle.term_values.specs.Typed.{TypedValue}
use Rattle.term_model.specs.declared.creation.Creation.{Creation}
use Rattle.term_model.specs.declared.creation.Outline.{Outline}
use Rattle.term_model.specs.declared.creation.StepError.{StepError}
use Rattle.term_model.specs.declared.object.Attribute.{Attribute}
use Rattle.term_model.specs.declared.object.Object.{Object}
use Rattle.term_model.specs.declared.results.FailureReason.TheVariants as reasons
use Rattle.term_model.specs.declared.schema.Set.{Set}
use Rattle.term_model.specs.BoundClasses.{object_size}
use Rattle.term_model.specs.CmisErrors.{processing_failure}
use Rattle.term_model.specs.CreateSteps.{created_object, fails, first_error, list_error, made, missing_error}
use Rattle.term_model.specs.CreateSteps.{missing_ids}
use Rattle.term_model.specs.CreateSteps.{others_error, size_error, sized, values_error}
use Rattle.term_model.specs.CreateValues.{created_value}
use Rattle.term_model.specs.ObjectAttributes.{identifiers}

-- ---- the errors that there aren't

pub second_none : (one other : Option StepError) → first_error one other ≡ None → other ≡ None
second_none (Some error) other e = absurd (cc)
second_none None other e = e

pub first_none : (one other : Option StepError) → first_error one other ≡ None → one ≡ None
first_none (Some error) other e = absurd (cc)
first_none None other e = refl

nothing_missing : (ids : List (List ℕ)) → missing_error ids ≡ None → ids ≡ []
nothing_missing [] e = refl
nothing_missing (id ∷ ids) e = absurd (cc)

-- an option that leads to no error
no_error : {X : Type 0} (o : Option StepError) (rest : Result X StepError) (x : X)
    → option_map_or Err o rest ≡ Ok x → (o ≡ None) × (rest ≡ Ok x)
no_error (Some error) rest x e = absurd (cc)
no_error None rest x e = (refl, e)

at_most : (a b : ℕ) → nat_le a b ≡ true → a ≤ b
at_most a b e = grind (arith, e)

fits_in : (schema : Set) (creation : Creation) (object : Object) → size_error schema creation object ≡ None
    → object_size schema object ≤ 16384
fits_in schema creation object e = by (nat_le (object_size schema object) 16384) refl e
  where
    by : (b : Bool) → nat_le (object_size schema object) 16384 ≡ b
        → (if b then None else fails 11 (processing_failure creation.asked creation.instance reasons.Limit)) ≡ None
        → object_size schema object ≤ 16384
    by true is f = at_most (object_size schema object) 16384 is
    by false is f = absurd (cc)

pub record IsMadeOf (schema : Set) (creation : Creation) (outline : Outline) (object : Object) : Type 0 where
  pub is : created_object schema creation outline ≡ object
  pub listed : list_error schema creation outline.attributes [] creation.given ≡ None
  pub complete : missing_ids schema creation outline ≡ []
  pub others : others_error schema creation outline outline.attributes ≡ None
  pub small : object_size schema object ≤ 16384

same_Ok : {X E : Type 0} (x y : X) → ◌≡◌ {A = Result X E} (Ok x) (Ok y) → x ≡ y
same_Ok x y e = cc

pub made_of : (schema : Set) (creation : Creation) (outline : Outline) (object : Object)
    → made schema creation outline ≡ Ok object → IsMadeOf schema creation outline object
made_of schema creation outline object e =
    let built = created_object schema creation outline in
    let right = no_error (values_error schema creation outline) (sized schema creation built) object e in
    let short = no_error (size_error schema creation built) (Ok built) object right.1 in
    let same = same_Ok built object short.1 in
    let list = list_error schema creation outline.attributes [] creation.given in
    let missing = missing_error (missing_ids schema creation outline) in
    let others = others_error schema creation outline outline.attributes in
    let behind = second_none list (first_error missing others) right.0 in
    record {
      is = same;
      listed = first_none list (first_error missing others) right.0;
      complete = nothing_missing (missing_ids schema creation outline) (first_none missing others behind);
      others = second_none missing others behind;
      small = fits_in schema creation object (ap (size_error schema creation) (sym same) ∙ short.0);
    }

-- ---- exactly the attributes of the outline

each_held : (value : List ℕ → Option TypedValue) (ids : List (List ℕ))
    → filter (λ id. is_none (value id)) ids ≡ []
    → identifiers (filter_map (λ id. option_map (λ found. record { id = id; value = found }) (value id)) ids) ≡ ids
each_held value [] e = refl
each_held value (id ∷ ids) e = by (value id) refl (each_held value ids)
  where
    rest : List Attribute
    rest = filter_map (λ one. option_map (λ found. record { id = one; value = found }) (value one)) ids

    by : (o : Option TypedValue) → value id ≡ o
        → (filter (λ one. is_none (value one)) ids ≡ [] → identifiers rest ≡ ids)
        → identifiers
        (filter_map (λ one. option_map (λ found. record { id = one; value = found }) (value one)) (id ∷ ids))
        ≡ id ∷ ids
    by None is again =
        absurd
        (cc
        (sym e
        ∙ ap (λ o. if is_none o then id ∷ filter (λ one. is_none (value one)) ids
        else filter (λ one. is_none (value one)) ids) is))
    by (Some found) is again =
        ap
        (λ o.
        identifiers (cons_option (option_map (λ (given : TypedValue). record { id = id; value = given }) o) rest)) is
        ∙ ap (λ others. id ∷ others)
        (again
        (sym (ap (λ o. if is_none o then id ∷ filter (λ one. is_none (value one)) ids
        else filter (λ one. is_none (value one)) ids) is) ∙ e))

pub attributes_are : (schema : Set) (creation : Creation) (outline : Outline) (object : Object)
    → IsMadeOf schema creation outline object → identifiers object.attrs ≡ outline.attributes
attributes_are schema creation outline object of =
    ap (λ (o : Object). identifiers o.attrs) (sym of.is)
    ∙ each_held (created_value schema creation outline) outline.attributes of.complete
