-- The unit that a request or an append takes, and where its path ends on a map. docs/PROFILE.md, section 20.
use Rattle.std.specs.Prelude.{◌≡◌, List, [], ◌∷◌, ◌++◌, Bool, true, false, codes, nat_le, length}
use Rattle.std.specs.Prelude.{Option, None, Some, if◌then◌else◌}
use Rattle.std.specs.Option.{option_map_or}
use Rattle.term_model.specs.declared.name.Rdn.{Rdn}
use Rattle.term_model.specs.declared.object.Object.{Object}
use Rattle.term_model.specs.declared.objects.NamedObject.{NamedObject}
use Rattle.term_model.specs.declared.request.Head.{Head}
use Rattle.term_model.specs.declared.request.Instance.{Instance}
use Rattle.term_model.specs.declared.request.Named.{Named}
use Rattle.term_model.specs.declared.request.Named.TheVariants as named
use Rattle.term_model.specs.declared.request.Place.{Place}
use Rattle.term_model.specs.declared.request.Place.TheVariants as place
use Rattle.term_model.specs.declared.request.Request.{Request}
use Rattle.term_model.specs.declared.request.Request.TheVariants as request
use Rattle.term_model.specs.declared.schema.Set.{Set}
use Rattle.term_model.specs.BoundClasses.{is_bound_log}
use Rattle.term_model.specs.ClassAttributes.{is_labelled}
use Rattle.term_model.specs.Comparing.{is_same_rdn}
use Rattle.term_model.specs.NamedObjects.{object_at}
use Rattle.operation_model.specs.WholeOperation.{is_base_object}
use Rattle.lock_model.specs.declared.lock_name.LockName.{LockName}
use Rattle.lock_model.specs.declared.lock_name.Part.{Part}
use Rattle.lock_model.specs.declared.path.Wanted.{Wanted}
use Rattle.lock_model.specs.LockPath.{Path, at_the_unit, ending, on_the_way, tree, own, way_to}

abbrev pub reads : LockName → Wanted
reads unit = record { unit = unit; writing = false }

abbrev pub writes : LockName → Wanted
writes unit = record { unit = unit; writing = true }

-- of an instance that names nothing: the root's own object is read
abbrev pub nothing_named : Wanted
nothing_named = reads (own [])

abbrev pub is_control_part : Set → Rdn → Bool
is_control_part schema part = is_labelled schema.attributes (codes "ruleId") part.attribute

-- the name is a control object's, or is below one
abbrev pub is_control : Set → List Rdn → Bool
is_control schema [] = false
is_control schema (first ∷ others) = is_control_part schema first

-- what writes has no control object in its unit, but where it has all
abbrev pub IsPlain : Set → Wanted → Type 0
IsPlain schema wanted = wanted.writing ≡ true → is_control schema wanted.unit.name ≡ false

-- a writing operation on control objects takes the root's Tree
abbrev pub or_all : Set → LockName → Wanted
or_all schema unit = if is_control schema unit.name then writes (tree []) else writes unit

-- a name of at most 32 parts
abbrev pub short_name : Named → Option (List Rdn)
short_name (named.Object name) = if nat_le (length name) 32 then Some name else None
short_name _ = None

abbrev pub in_scope_of : Head → List Rdn → LockName
in_scope_of head name = if is_base_object head.scope then own name else tree name

-- the longest that two names begin with
abbrev pub common : List Rdn → List Rdn → List Rdn
common (x ∷ xs) (y ∷ ys) = if is_same_rdn x y then x ∷ common xs ys else []
common _ _ = []

-- with a reference object of the system the creation's unit has that too
abbrev pub reaching : List Rdn → Named → List Rdn
reaching name (named.Object from) = common from name
reaching name _ = name

abbrev pub with_reference : Option Instance → List Rdn → LockName
with_reference None name = tree name
with_reference (Some reference) name = tree (reaching name reference.named)

abbrev pub creating : Set → Option Instance → Option (List Rdn) → Wanted
creating schema reference None = nothing_named
creating schema reference (Some name) = or_all schema (with_reference reference name)

abbrev pub new_name : Named → Option (List Rdn)
new_name (named.Object []) = None
new_name other = short_name other

abbrev pub create_unit : Set → Place → Option Instance → Wanted
create_unit schema (place.At at) reference = creating schema reference (new_name at.named)
create_unit schema (place.Below superior) reference = creating schema reference (short_name superior.named)
create_unit schema place.Free reference = creating schema reference (Some [])

abbrev pub head_unit : (List Rdn → Wanted) → Head → Wanted
head_unit wanted head = option_map_or wanted (short_name head.base.named) nothing_named

abbrev pub request_unit : Set → Request → Wanted
request_unit schema (request.Get head ids) = head_unit (λ name. reads (in_scope_of head name)) head
request_unit schema (request.Set head changes confirmed) =
    head_unit (λ name. or_all schema (in_scope_of head name)) head
request_unit schema (request.Act head action argument confirmed) =
    head_unit (λ name. or_all schema (in_scope_of head name)) head
request_unit schema (request.Create class at reference given) = create_unit schema at reference
request_unit schema (request.Delete head) = head_unit (λ name. or_all schema (tree name)) head
request_unit schema (request.Report class at kind time info confirmed) =
    option_map_or (λ name. reads (own name)) (short_name at.named) nothing_named

-- an append writes its log with all its records
abbrev pub append_unit : Set → List Rdn → Wanted
append_unit schema log = or_all schema (tree log)

-- a bound log stands under the name
abbrev pub is_log_at : Set → List NamedObject → List Rdn → Bool
is_log_at schema objects name =
    option_map_or (λ (object : Object). is_bound_log schema object.class) (object_at objects name) false

-- the way ends at the first Tree whose name is a bound log
abbrev pub ended_from : (List Rdn → Bool) → List Rdn → List Rdn → Part → LockName
ended_from is_log front [] part = if is_log front then tree front else record { name = front; part = part }
ended_from is_log front (first ∷ others) part =
    if is_log front then tree front else ended_from is_log (front ++ first ∷ []) others part

abbrev pub ended_at : (List Rdn → Bool) → LockName → LockName
ended_at is_log unit = ended_from is_log [] unit.name unit.part

-- the unit that is taken on a map, and the path to it
abbrev pub taken_on : Set → List NamedObject → Wanted → Wanted
taken_on schema objects whole =
    record { unit = ended_at (is_log_at schema objects) whole.unit; writing = whole.writing }

abbrev pub taken_by : Set → List NamedObject → Request → Wanted
taken_by schema objects asked = taken_on schema objects (request_unit schema asked)

abbrev pub way_on : Set → List NamedObject → Wanted → Path
way_on schema objects whole = way_to (taken_on schema objects whole)

-- the same path, place by place: it ends with the full mode at the first Tree whose name is a bound log
abbrev pub walk : (List Rdn → Bool) → List Rdn → List Rdn → Part → Bool → Path
walk is_log front [] part writing =
    if is_log front then (tree front, at_the_unit writing) ∷ [] else ending front part writing
walk is_log front (first ∷ others) part writing =
    if is_log front then (tree front, at_the_unit writing) ∷ []
    else (tree front, on_the_way writing) ∷ walk is_log (front ++ first ∷ []) others part writing
