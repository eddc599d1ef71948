-- The attempts of a creation with the name bindings of a schema, one after the other: X.711, section 7.4, m-Create;
-- X.722, section 8.6.
use Rattle.std.specs.Prelude.{ℕ, List, [], ◌∷◌, Bool, ◌&&◌, ◌||◌, Option, None, Some, Result, if◌then◌else◌}
use Rattle.std.specs.List.{list_any}
use Rattle.term_model.specs.declared.creation.Creation.{Creation}
use Rattle.term_model.specs.declared.creation.Outline.{Outline}
use Rattle.term_model.specs.declared.name_binding.BindRec.{BindRec}
use Rattle.term_model.specs.declared.name_binding.BoundClass.{BoundClass}
use Rattle.term_model.specs.declared.schema.Set.{Set}
use Rattle.term_model.specs.Comparing.{is_same_oid}
use Rattle.term_model.specs.declared.object.Object.{Object}
use Rattle.term_model.specs.declared.reply.CmisError.{CmisError}
use Rattle.term_model.specs.CmisErrors.{invalid_instance}
use Rattle.term_model.specs.Creating.{Attempt, attempted, leads_further, refused, told}
use Rattle.term_model.specs.Licensing.{binds, names_by}
use Rattle.term_model.specs.PresentPackages.{classes_above}
use Rattle.op_life.specs.declared.licensing.ClassLine.{ClassLine}

-- a class with those above it
abbrev pub line_of : Set → List ℕ → ClassLine
line_of schema class = record { class = class; above = classes_above schema.classes class }

-- the class is the one that the binding names or, with AND SUBCLASSES, derives from it
abbrev pub is_bound_by : BoundClass → ClassLine → Bool
is_bound_by bound line =
    is_same_oid bound.class line.class || bound.subclasses && list_any (is_same_oid bound.class) line.above

abbrev pub licenses_by : ClassLine → ClassLine → BindRec → Bool
licenses_by subordinate superior binding =
    is_bound_by binding.subordinate subordinate && is_bound_by binding.superior superior

abbrev pub binds_by : ClassLine → ClassLine → List ℕ → BindRec → Bool
binds_by subordinate superior attribute binding =
    is_same_oid binding.attribute attribute && licenses_by subordinate superior binding

-- an attempt, or one before it that leads further
abbrev pub better : Option Attempt → Attempt → Attempt
better None next = next
better (Some best) next = if leads_further next best then next else best

-- the best attempt, with one binding more
abbrev pub tried : (BindRec → Bool) → (BindRec → Attempt) → Option Attempt → BindRec → Option Attempt
tried binds attempted best binding =
    if binds binding then Some (better best (attempted binding)) else best

abbrev pub tried_all : (BindRec → Bool) → (BindRec → Attempt) → Option Attempt → List BindRec → Option Attempt
tried_all binds attempted best [] = best
tried_all binds attempted best (binding ∷ others) =
    tried_all binds attempted (tried binds attempted best binding) others

-- the best attempt with the bindings that license the object
abbrev pub best_with : Set → Bool → Bool → Creation → Outline → List ℕ → Option Attempt
best_with schema clause with_reference creation outline superior =
    if names_by schema outline creation.named.attribute
    then tried_all (binds schema creation.class superior creation.named.attribute)
    (attempted schema clause with_reference creation outline) None schema.bindings
    else None

-- what is told of the best attempt
abbrev pub told_of : Creation → Option Attempt → Result Object CmisError
told_of creation None = refused (invalid_instance creation.instance)
told_of creation (Some best) = told best.1
