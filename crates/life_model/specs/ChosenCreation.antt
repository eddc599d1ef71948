-- The creation of one object under a name that the agent chooses: X.711, section 7.4, m-Create; X.722, section 8.6,
-- WITH-AUTOMATIC-INSTANCE-NAMING; docs/PROFILE.md, section 15. The steps are those of a creation under a name that is
-- given, by the same numbers; the name is chosen for each name binding.
use Rattle.std.specs.Prelude.{ℕ, suc, List, [], ◌∷◌, ◌++◌, Bool, false, ◌&&◌, Option, None}
use Rattle.std.specs.Prelude.{Result, Ok, Err, filter_map, is_some, length, nat_le, if◌then◌else◌}
use Rattle.std.specs.Option.{option_map, option_map_or}
use Rattle.term_model.specs.declared.creation.Outline.{Outline}
use Rattle.term_model.specs.declared.name.Rdn.{Rdn}
use Rattle.term_model.specs.declared.name_binding.BindRec.{BindRec}
use Rattle.term_model.specs.declared.name_binding.CreateClause.{CreateClause}
use Rattle.term_model.specs.declared.object.Object.{Object}
use Rattle.term_model.specs.declared.objects.NamedObject.{NamedObject}
use Rattle.term_model.specs.declared.reply.CmisError.{CmisError}
use Rattle.term_model.specs.declared.request.Instance.{Instance}
use Rattle.term_model.specs.declared.request.Named.{Named}
use Rattle.term_model.specs.declared.request.Named.TheVariants as named
use Rattle.term_model.specs.declared.schema.Set.{Set}
use Rattle.term_model.specs.CmisErrors.{invalid_instance, no_such_instance, no_such_object_class, no_such_reference}
use Rattle.term_model.specs.Creating.{Asking, Attempt, attempted, class_asked, creation_of, lacks_reference}
use Rattle.term_model.specs.Creating.{leads_further}
use Rattle.term_model.specs.Creation.{outline_of}
use Rattle.term_model.specs.Licensing.{licenses, names_by}
use Rattle.term_model.specs.NamedObjects.{object_at}
use Rattle.life_model.specs.AutomaticNames.{chosen_part, is_taken_below}

-- the CREATE clause has WITH-AUTOMATIC-INSTANCE-NAMING
abbrev pub chooses_names : BindRec → Bool
chooses_names binding =
    option_map_or (λ (clause : CreateClause). clause.with_automatic_instance_naming) binding.create false

-- The sixth step: the binding allows the agent to name such an object below one of the superior's class. The object
-- can be named by its attribute.
abbrev pub allows_choice : Set → List ℕ → Outline → List ℕ → BindRec → Bool
allows_choice schema class outline superior binding =
    chooses_names binding && licenses schema class superior binding && names_by schema outline binding.attribute

-- an attempt with a binding, and the part of the name that was chosen for it
abbrev pub Trial : Type 0
Trial = Rdn × Attempt

abbrev pub trial : Set → List NamedObject → Asking → List ℕ → Outline → BindRec → Rdn → Trial
trial schema objects asking class outline binding part = (
  part,
  attempted schema asking.clause (is_some asking.reference) (creation_of objects asking class part) outline binding,
)

-- the attempt with a binding that allows it and with which there is a number
abbrev pub trial_with : Set → List NamedObject → Asking → List ℕ → Outline → List Rdn → List ℕ → BindRec
    → Option Trial
trial_with schema objects asking class outline name superior binding =
    if allows_choice schema class outline superior binding
    then option_map (trial schema objects asking class outline binding)
    (chosen_part schema (is_taken_below objects name) binding.attribute)
    else None

abbrev pub trials : Set → List NamedObject → Asking → List ℕ → Outline → List Rdn → List ℕ → List Trial
trials schema objects asking class outline name superior =
    filter_map (trial_with schema objects asking class outline name superior) schema.bindings

-- of several attempts the one that leads furthest, or of those that lead as far the one of the least identifier
abbrev pub furthest_trial : Trial → List Trial → Trial
furthest_trial best [] = best
furthest_trial best (next ∷ others) = furthest_trial (if leads_further next.1 best.1 then next else best) others

-- the object under its name, or the error of the step that failed
abbrev pub told_trial : List Rdn → Trial → Result NamedObject CmisError
told_trial name (part, (binding, Ok object)) = Ok (record { name = name ++ part ∷ []; object = object })
told_trial name (part, (binding, Err error)) = Err error.error

abbrev pub refused : CmisError → Result NamedObject CmisError
refused error = Err error

abbrev pub best_trial : Asking → List Rdn → List Trial → Result NamedObject CmisError
best_trial asking name [] = refused (invalid_instance asking.instance)
best_trial asking name (first ∷ others) = told_trial name (furthest_trial first others)

-- the sixth step and those behind it, below an object of this class
abbrev pub chosen_below : Set → List NamedObject → Asking → List ℕ → List Rdn → List ℕ → Result NamedObject CmisError
chosen_below schema objects asking class name superior =
    best_trial asking name
    (trials schema objects asking class (outline_of schema class asking.given) name superior)

-- the fifth step
abbrev pub chosen_from : Set → List NamedObject → Asking → List ℕ → List Rdn → Object → Result NamedObject CmisError
chosen_from schema objects asking class name superior =
    if lacks_reference objects class asking.reference
    then refused (no_such_reference (option_map_or (λ (reference : Instance). reference.raw) asking.reference []))
    else chosen_below schema objects asking class name superior.class

-- The second and the third step: a name below the superior has at most 32 parts, and the superior is there. No object
-- has the name that is chosen, so there is no fourth step.
abbrev pub chosen_under : Set → List NamedObject → Asking → List ℕ → List Rdn → Result NamedObject CmisError
chosen_under schema objects asking class name =
    if nat_le (suc (length name)) 32
    then option_map_or (chosen_from schema objects asking class name) (object_at objects name)
    (refused (no_such_instance asking.instance))
    else refused (invalid_instance asking.instance)

abbrev pub chosen_in : Set → List NamedObject → Asking → Named → List ℕ → Result NamedObject CmisError
chosen_in schema objects asking (named.Object name) class = chosen_under schema objects asking class name
chosen_in schema objects asking _ class = refused (invalid_instance asking.instance)

-- The object that stands below the superior from then on, with the name that was chosen for it, or the error. The
-- instance of what is asked for is the superior's.
abbrev pub create_chosen : Set → List NamedObject → Asking → Named → Result NamedObject CmisError
create_chosen schema objects asking superior =
    option_map_or (chosen_in schema objects asking superior) (class_asked schema asking.class)
    (refused (no_such_object_class asking.class))
