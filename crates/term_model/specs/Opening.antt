-- The objects at the opening: those of the INSTANCES sections, one after the other, each created as a manager would,
-- but that no CREATE clause is asked for. docs/PROFILE.md, section 16.
use Rattle.std.specs.Prelude.{ℕ, ℤ, pos, suc, List, [], ◌∷◌, ◌++◌, Bool, false, None, Some, ◌&&◌}
use Rattle.std.specs.Prelude.{Result, Ok, Err, codes, find, length, map, nat_lt, if◌then◌else◌}
use Rattle.std.specs.Option.{option_map_or}
use Rattle.term_model.specs.declared.filter_item.Given.{Given}
use Rattle.term_model.specs.declared.name.Rdn.{Rdn}
use Rattle.term_model.specs.declared.object.Attribute.{Attribute}
use Rattle.term_model.specs.declared.object.Object.{Object}
use Rattle.term_model.specs.declared.objects.NamedObject.{NamedObject}
use Rattle.term_model.specs.declared.reply.CmisError.{CmisError}
use Rattle.term_model.specs.declared.request.IdRef.TheVariants as ids
use Rattle.term_model.specs.declared.request.Named.TheVariants as named
use Rattle.term_model.specs.declared.schema.AttrRec.{AttrRec}
use Rattle.term_model.specs.declared.schema.InstRec.{InstRec}
use Rattle.term_model.specs.declared.schema.Set.{Set}
use Rattle.term_model.specs.AgentWritten.{is_package_list}
use Rattle.term_model.specs.CmisErrors.{invalid_instance, no_such_object_class}
use Rattle.term_model.specs.Comparing.{is_same_octets}
use Rattle.term_model.specs.CreateSteps.{made}
use Rattle.term_model.specs.Creation.{outline_of}
use Rattle.term_model.specs.CreateValues.{identifiers_value}
use Rattle.term_model.specs.Creating.{Asking, class_asked, create_named, creation_of, has_value, last_of, refused}
use Rattle.term_model.specs.Creating.{told}
use Rattle.term_model.specs.GetRequest.{instance_octets}
use Rattle.term_model.specs.Licensing.{names_by}
use Rattle.term_model.specs.LogRecords.{counted}
use Rattle.term_model.specs.NamedObjects.{stored}

-- which instance can't be opened, counted from 1, and the number of the error that its creation has. The error 0 also
-- says that there is no ROOT, then of the instance 0, that it isn't the first instance, or that there is a second one.
pub record BadInstance : Type 0 where
  pub index : ℕ
  pub error : ℤ

-- a value of WITH, as a member of the list of a creation
abbrev pub given_of : Attribute → Given
given_of held = record { id = ids.Global held.id; value = Some held.value; raw = [] }

-- the attribute labelled packages, where there is one; without one it is a number that names no attribute
abbrev pub is_labelled_packages : AttrRec → Bool
is_labelled_packages template = is_same_octets template.label (codes "packages")

abbrev pub packages_of_template : Set → List (List ℕ) → AttrRec → Given
packages_of_template schema chosen template = record {
  id = ids.Global template.id;
  value = if is_package_list schema template.id then Some (identifiers_value chosen) else None;
  raw = [];
}

abbrev pub packages_given : Set → List (List ℕ) → Given
packages_given schema chosen =
    option_map_or (packages_of_template schema chosen) (find is_labelled_packages schema.attributes)
    (record { id = ids.Local (pos 0); value = None; raw = [] })

-- the list of the creation: the values of WITH, and behind them what stands behind PACKAGES
abbrev pub behind_packages : Set → List (List ℕ) → List Given
behind_packages schema [] = []
behind_packages schema (first ∷ others) = packages_given schema (first ∷ others) ∷ []

abbrev pub list_of : Set → InstRec → List Given
list_of schema instance = map given_of instance.given ++ behind_packages schema instance.chosen

abbrev pub asking_of : Set → InstRec → Asking
asking_of schema instance = record {
  class = ids.Global instance.class;
  instance = instance_octets instance.name;
  reference = None;
  given = list_of schema instance;
  clause = false;
}

-- the root: it has no superior and no binding, and is named by the last part of the system's own name
abbrev pub root_named : Set → Asking → List ℕ → Rdn → Result Object CmisError
root_named schema asking class part =
    if names_by schema (outline_of schema class asking.given) part.attribute && has_value schema part
    then told (made schema (creation_of [] asking class part) (outline_of schema class asking.given))
    else refused (invalid_instance asking.instance)

abbrev pub root_under : Set → List Rdn → Asking → List ℕ → Result Object CmisError
root_under schema [] asking class = refused (invalid_instance asking.instance)
root_under schema (first ∷ rest) asking class = root_named schema asking class (last_of first rest)

abbrev pub create_root : Set → Asking → Result Object CmisError
create_root schema asking =
    option_map_or (root_under schema schema.system asking) (class_asked schema asking.class)
    (refused (no_such_object_class asking.class))

-- the object that is created of an instance below the root
abbrev pub create_instance : Set → List NamedObject → InstRec → Result Object CmisError
create_instance schema objects instance =
    create_named schema objects (asking_of schema instance) (named.Object instance.name)

abbrev pub Opened : Type 0
Opened = Result (List NamedObject) BadInstance

abbrev pub bad : ℕ → ℤ → Opened
bad index error = Err (record { index = index; error = error })

-- there are at most 100,000 objects: one more has the error processingFailure 10
abbrev pub placed : ℕ → List NamedObject → List Rdn → Result Object CmisError → Opened
placed index objects name (Ok object) =
    if nat_lt (length objects) 100000 then Ok (stored (record { name = name; object = object }) objects)
    else bad index (pos 10)
placed index objects name (Err error) = bad index error.code

-- the next instance; a second ROOT has the error 0
abbrev pub opened_one : Set → ℕ → List NamedObject → InstRec → Opened
opened_one schema index objects instance =
    if instance.root then bad index (pos 0)
    else placed index objects instance.name (create_instance schema objects instance)

abbrev pub then_open : Opened → (List NamedObject → Opened) → Opened
then_open (Ok objects) next = next objects
then_open (Err fault) next = Err fault

-- the instances from an index on, on the objects before them
abbrev pub opened_from : Set → ℕ → List InstRec → List NamedObject → Opened
opened_from schema index [] objects = Ok objects
opened_from schema index (instance ∷ others) objects =
    then_open (opened_one schema index objects instance) (opened_from schema (suc index) others)

-- at which place the ROOT stands, counted from 1, and 0 where there is none
abbrev pub root_place : ℕ → List InstRec → ℕ
root_place index [] = 0
root_place index (instance ∷ others) = if instance.root then index else root_place (suc index) others

abbrev pub opened_root : Set → InstRec → List InstRec → Opened
opened_root schema first others =
    if first.root
    then then_open (placed 1 [] [] (create_root schema (asking_of schema first))) (opened_from schema 2 others)
    else bad (root_place 2 others) (pos 0)

abbrev pub opened_instances : Set → List InstRec → Opened
opened_instances schema [] = bad 0 (pos 0)
opened_instances schema (first ∷ others) = opened_root schema first others

-- the objects at the opening, in which each bound log tells of its records
abbrev pub opened : Set → Opened
opened schema = then_open (opened_instances schema schema.instances) (λ objects. Ok (counted schema objects))
