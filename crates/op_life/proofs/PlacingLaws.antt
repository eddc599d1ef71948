-- The steps of a creation that its name and its reference object decide.
use Rattle.std.proofs.Common.{◌≡◌, ℕ, List, [], ◌∷◌, ◌++◌, Bool, true, false, refl, ap, sym, ◌∙◌}
use Rattle.std.specs.Prelude.{is_some, ◌&&◌, Option, None, Some, Result, if◌then◌else◌}
use Rattle.term_model.specs.declared.creation.Creation.{Creation}
use Rattle.term_model.specs.declared.creation.Outline.{Outline}
use Rattle.term_model.specs.declared.creation.StepError.{StepError}
use Rattle.term_model.specs.declared.name.Rdn.{Rdn}
use Rattle.term_model.specs.declared.object.Attribute.{Attribute}
use Rattle.term_model.specs.declared.object.Object.{Object}
use Rattle.term_model.specs.declared.objects.NamedObject.{NamedObject}
use Rattle.term_model.specs.declared.reply.CmisError.{CmisError}
use Rattle.term_model.specs.declared.request.Instance.{Instance}
use Rattle.term_model.specs.declared.request.Named.{Named}
use Rattle.term_model.specs.declared.request.Named.TheVariants as named
use Rattle.term_model.specs.declared.schema.Set.{Set}
use Rattle.term_model.specs.CmisErrors.{duplicate_instance, invalid_instance, no_such_reference}
use Rattle.term_model.specs.Creating.{Asking, below_superior, created_below, creation_of, has_value}
use Rattle.term_model.specs.Creating.{lacks_reference, last_of, refused, superior_of, taken_over, told, under_name}
use Rattle.term_model.specs.CreateSteps.{made}
use Rattle.term_model.specs.Creation.{outline_of}
use Rattle.term_model.specs.Licensing.{names_by}
use Rattle.term_model.specs.NamedObjects.{object_at}
use Rattle.term_model.specs.Opening.{root_named, root_under}
use Rattle.op_life.specs.Placing.{by_parts, created_from}
use Rattle.op_life.specs.Referring.{attributes_held, creation_with, lacks_found, raw_of, referred}

lacks_told : (objects : List NamedObject) (class : List ℕ) (reference : Option Instance)
    → lacks_reference objects class reference ≡ lacks_found class reference (referred objects reference)
lacks_told objects class None = refl
lacks_told objects class (Some reference) = refl

taken_told : (objects : List NamedObject) (reference : Option Instance)
    → taken_over objects reference ≡ attributes_held (referred objects reference)
taken_told objects None = refl
taken_told objects (Some reference) = refl

-- with other attributes taken over
with_taken : Asking → List ℕ → Rdn → List Attribute → Creation
with_taken asking class part taken = record {
  class = class;
  binding = None;
  named = part;
  given = asking.given;
  taken = taken;
  asked = asking.class;
  instance = asking.instance;
}

creation_told : (objects : List NamedObject) (asking : Asking) (class : List ℕ) (part : Rdn)
    → creation_of objects asking class part ≡ creation_with asking class part (referred objects asking.reference)
unfolding with_taken
creation_told objects asking class part =
    ap (with_taken asking class part) (taken_told objects asking.reference)

from_told : (schema : Set) (objects : List NamedObject) (asking : Asking) (class : List ℕ) (part : Rdn)
    (superior : List ℕ)
    → (if lacks_reference objects class asking.reference
    then refused (no_such_reference (raw_of asking.reference))
    else created_below schema asking.clause (is_some asking.reference) (creation_of objects asking class part)
    superior)
    ≡ created_from schema objects asking class part superior
from_told schema objects asking class part superior =
    ap
    (λ (lacks : Bool).
    if lacks
    then refused (no_such_reference (raw_of asking.reference))
    else created_below schema asking.clause (is_some asking.reference) (creation_of objects asking class part)
    superior)
    (lacks_told objects class asking.reference)
    ∙ ap
    (λ (creation : Creation).
    if lacks_found class asking.reference (referred objects asking.reference)
    then refused (no_such_reference (raw_of asking.reference))
    else created_below schema asking.clause (is_some asking.reference) creation superior)
    (creation_told objects asking class part)

pub stands_already : (schema : Set) (objects : List NamedObject) (asking : Asking) (class : List ℕ)
    (name : List Rdn) (part : Rdn) (superior : Object) → true ≡ is_some (object_at objects name)
    → refused (duplicate_instance asking.instance)
    ≡ below_superior schema objects asking class name part superior
stands_already schema objects asking class name part superior e =
    ap
    (λ (stands : Bool).
    if stands
    then refused (duplicate_instance asking.instance)
    else (if lacks_reference objects class asking.reference
    then refused (no_such_reference (raw_of asking.reference))
    else created_below schema asking.clause (is_some asking.reference) (creation_of objects asking class part)
    superior.class))
    e

pub stands_not : (schema : Set) (objects : List NamedObject) (asking : Asking) (class : List ℕ)
    (name : List Rdn) (part : Rdn) (superior : Object) (came : Result Object CmisError)
    → false ≡ is_some (object_at objects name)
    → came ≡ created_from schema objects asking class part superior.class
    → came ≡ below_superior schema objects asking class name part superior
stands_not schema objects asking class name part superior came e from =
    from ∙ sym (from_told schema objects asking class part superior.class)
    ∙ ap
    (λ (stands : Bool).
    if stands
    then refused (duplicate_instance asking.instance)
    else (if lacks_reference objects class asking.reference
    then refused (no_such_reference (raw_of asking.reference))
    else created_below schema asking.clause (is_some asking.reference) (creation_of objects asking class part)
    superior.class))
    e

-- a name by its last part and those before it
last_told : (first : Rdn) (front : List Rdn) (part : Rdn) → last_of first (front ++ part ∷ []) ≡ part
last_told first [] part = refl
last_told first (second ∷ front) part = last_told second front part

superior_told : (front : List Rdn) (part : Rdn) → superior_of (front ++ part ∷ []) ≡ front
superior_told [] part = refl
superior_told (first ∷ []) part = refl
superior_told (first ∷ second ∷ front) part =
    ap (λ (rest : List Rdn). first ∷ rest) (superior_told (second ∷ front) part)

pub under_parts : (schema : Set) (objects : List NamedObject) (asking : Asking) (class : List ℕ) (front : List Rdn)
    (part : Rdn)
    → under_name schema objects asking class (front ++ part ∷ [])
    ≡ by_parts schema objects asking class (front ++ part ∷ []) part front
under_parts schema objects asking class [] part = refl
under_parts schema objects asking class (first ∷ front) part =
    ap
    (λ (last : Rdn).
    by_parts schema objects asking class (first ∷ (front ++ part ∷ [])) last
    (superior_of (first ∷ (front ++ part ∷ []))))
    (last_told first front part)
    ∙ ap (by_parts schema objects asking class (first ∷ (front ++ part ∷ [])) part)
    (superior_told (first ∷ front) part)

pub root_parts : (schema : Set) (asking : Asking) (class : List ℕ) (front : List Rdn) (part : Rdn)
    → root_under schema (front ++ part ∷ []) asking class ≡ root_named schema asking class part
root_parts schema asking class [] part = refl
root_parts schema asking class (first ∷ front) part =
    ap (root_named schema asking class) (last_told first front part)

-- of no objects none is the reference object
none_taken : (reference : Option Instance) → taken_over [] reference ≡ []
none_taken None = refl
none_taken (Some reference) = by_name reference.named
  where
    by_name : (of_reference : Named) → taken_over [] (Some (record reference { named = of_reference })) ≡ []
    by_name (named.Object name) = refl
    by_name named.NonSpecific = refl
    by_name named.Nothing = refl

pub root_creation : (asking : Asking) (class : List ℕ) (part : Rdn)
    → creation_with asking class part None ≡ creation_of [] asking class part
unfolding with_taken
root_creation asking class part = ap (with_taken asking class part) (sym (none_taken asking.reference))

pub under_by : (schema : Set) (objects : List NamedObject) (asking : Asking) (class : List ℕ) (name front : List Rdn)
    (part : Rdn) → name ≡ front ++ part ∷ []
    → by_parts schema objects asking class name part front ≡ under_name schema objects asking class name
under_by schema objects asking class name front part whole =
    ap (λ (parts : List Rdn). by_parts schema objects asking class parts part front) whole
    ∙ sym (under_parts schema objects asking class front part)
    ∙ ap (under_name schema objects asking class) (sym whole)

pub root_by : (schema : Set) (asking : Asking) (class : List ℕ) (name front : List Rdn) (part : Rdn)
    → name ≡ front ++ part ∷ [] → root_named schema asking class part ≡ root_under schema name asking class
root_by schema asking class name front part whole =
    sym (root_parts schema asking class front part)
    ∙ ap (λ (parts : List Rdn). root_under schema parts asking class) (sym whole)

pub root_made : (schema : Set) (asking : Asking) (class : List ℕ) (part : Rdn) (outline : Outline)
    (creation : Creation) (came : Result Object StepError) (object : Result Object CmisError)
    → outline ≡ outline_of schema class asking.given → creation ≡ creation_with asking class part None
    → came ≡ made schema creation outline → object ≡ told came
    → true ≡ names_by schema outline part.attribute → true ≡ has_value schema part
    → object ≡ root_named schema asking class part
root_made schema asking class part outline creation came object whole own steps is_told names value =
    is_told
    ∙ ap told
    (steps ∙ ap (λ (one : Creation). made schema one outline) (own ∙ root_creation asking class part)
    ∙ ap (made schema (creation_of [] asking class part)) whole)
    ∙ ap
    (λ (named_so : Bool).
    if named_so && true
    then told (made schema (creation_of [] asking class part) (outline_of schema class asking.given))
    else refused (invalid_instance asking.instance))
    (names ∙ ap (λ (of_object : Outline). names_by schema of_object part.attribute) whole)
    ∙ ap
    (λ (valued : Bool).
    if names_by schema (outline_of schema class asking.given) part.attribute && valued
    then told (made schema (creation_of [] asking class part) (outline_of schema class asking.given))
    else refused (invalid_instance asking.instance))
    value
