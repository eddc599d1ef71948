-- The creation of one object under a name that is given: X.711, section 7.4, m-Create; docs/PROFILE.md, section 15. The
-- errors stand in the order of its steps. A creation under a name that the agent chooses is a case that comes later.
use Rattle.std.specs.Prelude.{ℕ, suc, List, [], ◌∷◌, Bool, false, ◌&&◌, ◌||◌, not, Option, None, Some}
use Rattle.std.specs.Prelude.{Result, Ok, Err, is_some, length, map, nat_le, nat_lt, ◌==◌, if◌then◌else◌}
use Rattle.std.specs.Cmp.Lexicographic.{slice_cmp}
use Rattle.std.specs.Option.{option_map, option_map_or}
use Rattle.std.specs.Ordering.{is_lt, nat_cmp}
use Rattle.term_model.specs.declared.filter_item.Given.{Given}
use Rattle.term_model.specs.declared.name.Rdn.{Rdn}
use Rattle.term_model.specs.declared.name_binding.BindRec.{BindRec}
use Rattle.term_model.specs.declared.name_binding.CreateClause.{CreateClause}
use Rattle.term_model.specs.declared.object.Attribute.{Attribute}
use Rattle.term_model.specs.declared.object.Object.{Object}
use Rattle.term_model.specs.declared.objects.NamedObject.{NamedObject}
use Rattle.term_model.specs.declared.reply.CmisError.{CmisError}
use Rattle.term_model.specs.declared.request.IdRef.{IdRef}
use Rattle.term_model.specs.declared.request.Instance.{Instance}
use Rattle.term_model.specs.declared.request.Named.{Named}
use Rattle.term_model.specs.declared.request.Named.TheVariants as named
use Rattle.term_model.specs.declared.results.FailureReason.TheVariants as reasons
use Rattle.term_model.specs.declared.schema.ClassRec.{ClassRec}
use Rattle.term_model.specs.declared.schema.Set.{Set}
use Rattle.term_model.specs.CmisErrors.{duplicate_instance, invalid_instance, no_such_instance, no_such_object_class}
use Rattle.term_model.specs.CmisErrors.{no_such_reference, processing_failure}
use Rattle.term_model.specs.Comparing.{is_same_oid}
use Rattle.term_model.specs.declared.creation.StepError.{StepError}
use Rattle.term_model.specs.CreateSteps.{made}
use Rattle.term_model.specs.CreateValues.{named_value}
use Rattle.term_model.specs.ClassAttributes.{syntax_of}
use Rattle.term_model.specs.declared.creation.Creation.{Creation}
use Rattle.term_model.specs.declared.creation.Outline.{Outline}
use Rattle.term_model.specs.Creation.{outline_of, registered}
use Rattle.term_model.specs.GetRequest.{instance_octets}
use Rattle.term_model.specs.Licensing.{licensing}
use Rattle.term_model.specs.NamedObjects.{object_at}
use Rattle.term_model.specs.ObjectOperation.{class_record}

-- What is asked for: the class, the name as it came and the name itself, the reference object where there is one, the
-- list of values, and whether a manager asks, who needs a CREATE clause.
pub record Asking : Type 0 where
  pub class : IdRef
  pub instance : List ℕ
  pub reference : Option Instance
  pub given : List Given
  pub clause : Bool

-- the names of superiors and the last parts
abbrev pub superior_of : List Rdn → List Rdn
superior_of [] = []
superior_of (first ∷ []) = []
superior_of (first ∷ second ∷ rest) = first ∷ superior_of (second ∷ rest)

abbrev pub last_of : Rdn → List Rdn → Rdn
last_of first [] = first
last_of first (second ∷ rest) = last_of second rest

-- the first step: the class
abbrev pub class_asked : Set → IdRef → Option (List ℕ)
class_asked schema class =
    option_map_or (λ arcs. option_map (λ (of_class : ClassRec). of_class.id) (class_record schema.classes arcs))
    (registered class) None

-- the second step: the last part of the name has a value of its attribute, where that is known
abbrev pub has_value : Set → Rdn → Bool
has_value schema part = not (is_some (syntax_of schema.attributes part.attribute)) || is_some (named_value schema part)

-- the object that a reference names, where it is there and of the class
abbrev pub named_object : List NamedObject → Named → Option Object
named_object objects (named.Object name) = object_at objects name
named_object objects _ = None

abbrev pub of_class : List ℕ → Object → Bool
of_class class object = is_same_oid object.class class

-- the fifth step
abbrev pub lacks_reference : List NamedObject → List ℕ → Option Instance → Bool
lacks_reference objects class None = false
lacks_reference objects class (Some reference) =
    not (option_map_or (of_class class) (named_object objects reference.named) false)

-- the values that are taken over
abbrev pub taken_over : List NamedObject → Option Instance → List Attribute
taken_over objects None = []
taken_over objects (Some reference) =
    option_map_or (λ (object : Object). object.attrs) (named_object objects reference.named) []

-- the seventh step: the binding has a CREATE clause, with WITH-REFERENCE-OBJECT where there is a reference object
abbrev pub allows : Bool → CreateClause → Bool
allows with_reference clause = not with_reference || clause.with_reference_object

abbrev pub is_creatable : Bool → Bool → BindRec → Bool
is_creatable clause with_reference binding =
    not clause || option_map_or (allows with_reference) binding.create false

-- what is created, but for the binding
abbrev pub creation_of : List NamedObject → Asking → List ℕ → Rdn → Creation
creation_of objects asking class part = record {
  class = class;
  binding = None;
  named = part;
  given = asking.given;
  taken = taken_over objects asking.reference;
  asked = asking.class;
  instance = asking.instance;
}

-- the seventh step and those behind it, with one of the bindings that license the object
abbrev pub attempt : Set → Bool → Bool → Creation → Outline → BindRec → Result Object StepError
attempt schema clause with_reference creation outline binding =
    if is_creatable clause with_reference binding
    then made schema (record creation { binding = Some binding.id }) outline
    else Err (record { step = 7; error = processing_failure creation.asked creation.instance reasons.NotCreatable })

-- how far an attempt leads: to the step that fails, or past the eleventh
abbrev pub reached : Result Object StepError → ℕ
reached (Ok object) = 12
reached (Err error) = error.step

-- of two bindings with their attempts the one that leads further, or else the one of the lesser identifier
abbrev pub Attempt : Type 0
Attempt = List ℕ × Result Object StepError

abbrev pub leads_further : Attempt → Attempt → Bool
leads_further one other =
    nat_lt (reached other.1) (reached one.1)
    || reached other.1 == reached one.1 && is_lt (slice_cmp nat_cmp one.0 other.0)

abbrev pub furthest : Attempt → List Attempt → Attempt
furthest best [] = best
furthest best (next ∷ others) = furthest (if leads_further next best then next else best) others

abbrev pub refused : CmisError → Result Object CmisError
refused error = Err error

abbrev pub told : Result Object StepError → Result Object CmisError
told (Ok object) = Ok object
told (Err error) = Err error.error

-- the sixth step and those behind it: the attempts with all bindings that license the object
abbrev pub best_of : Creation → List Attempt → Result Object CmisError
best_of creation [] = refused (invalid_instance creation.instance)
best_of creation (first ∷ others) = told (furthest first others).1

abbrev pub attempted : Set → Bool → Bool → Creation → Outline → BindRec → Attempt
attempted schema clause with_reference creation outline binding =
    (binding.id, attempt schema clause with_reference creation outline binding)

abbrev pub created_with : Set → Bool → Bool → Creation → Outline → List ℕ → Result Object CmisError
created_with schema clause with_reference creation outline superior =
    best_of creation (map (attempted schema clause with_reference creation outline)
    (licensing schema creation.class outline superior creation.named.attribute))

abbrev pub created_below : Set → Bool → Bool → Creation → List ℕ → Result Object CmisError
created_below schema clause with_reference creation superior =
    created_with schema clause with_reference creation (outline_of schema creation.class creation.given) superior

-- the third to the fifth step: the superior is there, nothing stands under the name, the reference object is there
abbrev pub below_superior : Set → List NamedObject → Asking → List ℕ → List Rdn → Rdn → Object
    → Result Object CmisError
below_superior schema objects asking class name part superior =
    if is_some (object_at objects name) then refused (duplicate_instance asking.instance)
    else (if lacks_reference objects class asking.reference
    then refused (no_such_reference (option_map_or (λ (reference : Instance). reference.raw) asking.reference []))
    else created_below schema asking.clause (is_some asking.reference) (creation_of objects asking class part)
    superior.class)

abbrev pub in_place : Set → List NamedObject → Asking → List ℕ → List Rdn → Rdn → Result Object CmisError
in_place schema objects asking class name part =
    option_map_or (below_superior schema objects asking class name part)
    (object_at objects (superior_of name)) (refused (no_such_instance (instance_octets (superior_of name))))

-- the second step: the name isn't the root's, has at most 32 parts, and its last part has a value
abbrev pub under_name : Set → List NamedObject → Asking → List ℕ → List Rdn → Result Object CmisError
under_name schema objects asking class [] = refused (invalid_instance asking.instance)
under_name schema objects asking class (first ∷ rest) =
    if nat_le (suc (length rest)) 32 && has_value schema (last_of first rest)
    then in_place schema objects asking class (first ∷ rest) (last_of first rest)
    else refused (invalid_instance asking.instance)

abbrev pub under : Set → List NamedObject → Asking → Named → List ℕ → Result Object CmisError
under schema objects asking (named.Object name) class = under_name schema objects asking class name
under schema objects asking _ class = refused (invalid_instance asking.instance)

-- the object that stands under the name from then on, or the error
abbrev pub create_named : Set → List NamedObject → Asking → Named → Result Object CmisError
create_named schema objects asking name =
    option_map_or (under schema objects asking name) (class_asked schema asking.class)
    (refused (no_such_object_class asking.class))
