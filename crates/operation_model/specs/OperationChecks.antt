-- What is tried before m-Get, m-Set, m-Action and m-Delete act on objects: the errors are those of X.711, section 7.5,
-- their order is this project's own (docs/PROFILE.md, section 17). A filter that is Good was read under the schema, is
-- within the limits and has no invalid item.
use Rattle.std.specs.Prelude.{ℕ, ℤ, pos, List, [], ◌∷◌, Bool, true, false, ◌&&◌, ◌||◌, Option, None, Some}
use Rattle.std.specs.Prelude.{Result, Ok, Err}
use Rattle.std.specs.Prelude.{codes, int_le, is_some, length, nat_le, not, if◌then◌else◌}
use Rattle.std.specs.Ordering.{int_eq}
use Rattle.term_model.specs.declared.filter.Asked.{Asked}
use Rattle.term_model.specs.declared.filter.Asked.TheVariants as filters
use Rattle.term_model.specs.declared.name.Rdn.{Rdn}
use Rattle.term_model.specs.declared.object.Object.{Object}
use Rattle.term_model.specs.declared.objects.NamedObject.{NamedObject}
use Rattle.term_model.specs.declared.reply.CmisError.{CmisError}
use Rattle.term_model.specs.declared.request.Head.{Head}
use Rattle.term_model.specs.declared.request.IdRef.{IdRef}
use Rattle.term_model.specs.declared.request.IdRef.TheVariants as ids
use Rattle.term_model.specs.declared.request.Named.{Named}
use Rattle.term_model.specs.declared.request.Named.TheVariants as named
use Rattle.term_model.specs.declared.schema.ClassRec.{ClassRec}
use Rattle.term_model.specs.declared.schema.Set.{Set}
use Rattle.term_model.specs.declared.scope.Scope.{Scope}
use Rattle.term_model.specs.declared.scope.Scope.TheVariants as scopes
use Rattle.term_model.specs.CmisErrors.{class_instance_conflict, complexity_limitation, invalid_filter}
use Rattle.term_model.specs.CmisErrors.{invalid_instance}
use Rattle.term_model.specs.CmisErrors.{invalid_scope, no_such_instance, no_such_object_class, sync_not_supported}
use Rattle.term_model.specs.Comparing.{is_same_octets, is_same_oid}
use Rattle.term_model.specs.NamedObjects.{object_at}
use Rattle.term_model.specs.ObjectOperation.{class_record}
use Rattle.term_model.specs.Scope.{names_in_scope}
use Rattle.term_model.specs.Selection.{selected}

-- the class is one of the schema, named in globalForm
abbrev pub class_named : Set → IdRef → Option ClassRec
class_named schema (ids.Global arcs) = class_record schema.classes arcs
class_named schema (ids.Local number) = None

abbrev pub class_fault : Set → Head → Option CmisError
class_fault schema head =
    if is_some (class_named schema head.class) then None else Some (no_such_object_class head.class)

-- nonSpecificForm can name no object
abbrev pub is_specific : Named → Bool
is_specific named.NonSpecific = false
is_specific named.Nothing = true
is_specific (named.Object base) = true

abbrev pub form_fault : Head → Option CmisError
form_fault head = if is_specific head.base.named then None else Some (invalid_instance head.base.raw)

-- the base object is there
abbrev pub base_object : List NamedObject → Named → Option Object
base_object objects (named.Object base) = object_at objects base
base_object objects _ = None

abbrev pub absent_fault : List NamedObject → Head → Option CmisError
absent_fault objects head =
    if is_some (base_object objects head.base.named) then None else Some (no_such_instance head.base.raw)

-- the class is the base object's own, or is labelled actualClass, which stands for the class of any object
abbrev pub is_class_for : ClassRec → Object → Bool
is_class_for asked object = is_same_oid asked.id object.class || is_same_octets asked.label (codes "actualClass")

abbrev pub is_of_class : Option ClassRec → Option Object → Bool
is_of_class (Some asked) (Some object) = is_class_for asked object
is_of_class _ _ = false

abbrev pub conflict_fault : Set → List NamedObject → Head → Option CmisError
conflict_fault schema objects head =
    if is_of_class (class_named schema head.class) (base_object objects head.base.named) then None
    else Some (class_instance_conflict head.class head.base.raw)

-- bestEffort or atomic
abbrev pub is_synchronization : ℤ → Bool
is_synchronization sync = int_eq sync (pos 0) || int_eq sync (pos 1)

abbrev pub sync_fault : Head → Option CmisError
sync_fault head = if is_synchronization head.sync then None else Some (sync_not_supported head.sync)

-- baseObject, firstLevelOnly or wholeSubtree, or a level that isn't negative
abbrev pub is_scope : Scope → Bool
is_scope (scopes.Plain number) = int_le (pos 0) number && int_le number (pos 2)
is_scope (scopes.Level number) = int_le (pos 0) number
is_scope (scopes.Upto number) = int_le (pos 0) number

abbrev pub scope_fault : Head → Option CmisError
scope_fault head = if is_scope head.scope then None else Some (invalid_scope head.scope)

-- the filter is within its limits, and the list of identifiers or modifications has at most 1,024 members
abbrev pub is_large : Asked → Bool
is_large filters.Large = true
is_large (filters.Good filter) = false
is_large (filters.Bad octets) = false

abbrev pub size_fault : Head → ℕ → Option CmisError
size_fault head listed =
    if is_large head.filter || not (nat_le listed 1024) then Some complexity_limitation else None

-- the filter has no invalid item
abbrev pub filter_fault : Asked → Option CmisError
filter_fault (filters.Bad octets) = Some (invalid_filter octets)
filter_fault (filters.Good filter) = None
filter_fault filters.Large = None

-- at most 50,000 names are in scope
abbrev pub base_name : Named → List Rdn
base_name (named.Object base) = base
base_name _ = []

abbrev pub names_fault : List NamedObject → List Rdn → Scope → Option CmisError
names_fault objects base scope =
    if nat_le (length (names_in_scope objects base scope)) 50000 then None else Some complexity_limitation

-- what is tried, in its order
abbrev pub faults : Set → List NamedObject → Head → ℕ → List (Option CmisError)
faults schema objects head listed =
    class_fault schema head ∷ form_fault head ∷ absent_fault objects head ∷ conflict_fault schema objects head
    ∷ sync_fault head ∷ scope_fault head ∷ size_fault head listed ∷ filter_fault head.filter
    ∷ names_fault objects (base_name head.base.named) head.scope ∷ []

abbrev pub first_fault : List (Option CmisError) → Option CmisError
first_fault [] = None
first_fault (Some error ∷ others) = Some error
first_fault (None ∷ others) = first_fault others

-- the names of the objects in scope that pass the filter
abbrev pub selected_by : Set → List NamedObject → List Rdn → Scope → Asked → List (List Rdn)
selected_by schema objects base scope (filters.Good filter) = selected schema objects base scope filter
selected_by schema objects base scope (filters.Bad octets) = []
selected_by schema objects base scope filters.Large = []

-- the names of the objects that are selected, or the first error
abbrev pub Checked : Type 0
Checked = Result (List (List Rdn)) CmisError

abbrev pub checked_by : Option CmisError → List (List Rdn) → Checked
checked_by None names = Ok names
checked_by (Some error) names = Err error

-- all that is tried of an operation with this head, whose list of identifiers or modifications has this length
abbrev pub checked : Set → List NamedObject → Head → ℕ → Checked
checked schema objects head listed =
    checked_by (first_fault (faults schema objects head listed))
    (selected_by schema objects (base_name head.base.named) head.scope head.filter)
