-- What holds of the objects at the opening: X.720, sections 5 and 6; docs/PROFILE.md, section 16. Each law is a part of
-- the definition of a well-formed map, in WellFormedObjects of term_model, but those on records and on names.
use Rattle.std.specs.Cmp.Lexicographic.{slice_cmp}
use Rattle.std.specs.List.Sorted.{IsStrictlySortedBy}
use Rattle.std.specs.Ordering.{nat_cmp}
use Rattle.std.specs.Prelude.{◌≡◌, ℕ, ◌≤◌, ◌<◌, ◌^◌, ◌⊎◌, ◌++◌, List, [], ◌∷◌, All, Contains, Ok, Some, length}
use Rattle.term_values.specs.Fits.{Fits}
use Rattle.term_values.specs.Typed.{TypedValue}
use Rattle.term_values.specs.Written.{der}
use Rattle.term_model.specs.declared.name.Rdn.{Rdn}
use Rattle.term_model.specs.declared.object.Object.{Object}
use Rattle.term_model.specs.declared.objects.NamedObject.{NamedObject}
use Rattle.term_model.specs.declared.schema.AttrRec.{AttrRec}
use Rattle.term_model.specs.declared.schema.ClassRec.{ClassRec}
use Rattle.term_model.specs.declared.schema.Set.{Set}
use Rattle.term_model.specs.BoundClasses.{object_size}
use Rattle.term_model.specs.CreateValues.{named_value}
use Rattle.term_model.specs.Inheritance.{HasAttribute, HasRecord}
use Rattle.term_model.specs.NamedObjects.{IsByName, names, object_at}
use Rattle.term_model.specs.Opening.{opened}
use Rattle.term_model.specs.ObjectAttributes.{identifiers}
use Rattle.term_model.specs.WellFormedObjects.{AreGood}
use Rattle.term_model.specs.WholeSet.{IsWhole}
use Rattle.opening_laws.specs.Encodable.{IsEncodable}
use Rattle.package_laws.specs.PackageLaws.{HasRecordOnce}

-- the names rise, each once
abbrev pub OpenedAreByName : Type 0
OpenedAreByName = (schema : Set) (objects : List NamedObject) → opened schema ≡ Ok objects → IsByName objects

-- the root is there
abbrev pub OpenedHaveRoot : Type 0
OpenedHaveRoot = (schema : Set) (objects : List NamedObject) → opened schema ≡ Ok objects → Contains (names objects) []

-- there are at most 100,000
abbrev pub OpenedAreFew : Type 0
OpenedAreFew = (schema : Set) (objects : List NamedObject) → opened schema ≡ Ok objects → length objects ≤ 100000

-- a name of at most 32 parts, whose superior is there
pub record HasSuperior (objects : List NamedObject) (name : List Rdn) : Type 0 where
  pub front : List Rdn
  pub last : Rdn
  pub is : name ≡ front ++ last ∷ []
  pub deep : length name ≤ 32
  pub superior : Object
  pub there : object_at objects front ≡ Some superior

-- each object but the root has one
abbrev pub OpenedHaveSuperiors : Type 0
OpenedHaveSuperiors = (schema : Set) (objects : List NamedObject) → opened schema ≡ Ok objects →
    All (λ (entry : NamedObject). (entry.name ≡ []) ⊎ HasSuperior objects entry.name) objects

-- of an object: its class has a record, its attributes rise, each once, and are of its packages, and it isn't too long
pub record IsOpenedObject (schema : Set) (object : Object) : Type 0 where
  pub class : ClassRec
  pub known : HasRecord schema object.class class
  pub once : IsStrictlySortedBy (slice_cmp nat_cmp) (identifiers object.attrs)
  pub of_packages : All (HasAttribute schema object.class object.chosen) (identifiers object.attrs)
  pub small : object_size schema object ≤ 16384

abbrev pub OpenedHaveObjects : Type 0
OpenedHaveObjects = (schema : Set) (objects : List NamedObject) → opened schema ≡ Ok objects →
    All (λ (entry : NamedObject). IsOpenedObject schema entry.object) objects

-- it has each attribute of its packages
abbrev pub HasEachAttribute : Set → Object → Type 0
HasEachAttribute schema object =
    (attribute : List ℕ) → HasAttribute schema object.class object.chosen attribute
    → Contains (identifiers object.attrs) attribute

-- where the class with an identifier has one record
abbrev pub OpenedHaveAttributes : Type 0
OpenedHaveAttributes = (schema : Set) (objects : List NamedObject) → HasRecordOnce schema → opened schema ≡ Ok objects →
    All (λ (entry : NamedObject). HasEachAttribute schema entry.object) objects

-- as it is in a whole schema
abbrev pub WholeHasRecordOnce : Type 0
WholeHasRecordOnce = (schema : Set) → IsWhole schema → HasRecordOnce schema

-- The objects are well-formed, where the schema is whole and everything in it has an encoding. Its identifiers are
-- values of objectClass, nameBinding and packages; a value in a name is read from its octets; and a log tells how many
-- octets its records have, of which an availabilityStatus that a class states is bounded by nothing else.
abbrev pub OpenedAreGood : Type 0
OpenedAreGood = (schema : Set) (objects : List NamedObject) → IsWhole schema → IsEncodable schema →
    opened schema ≡ Ok objects → AreGood schema objects

-- In a whole schema of which everything has an encoding, the value whose encoding a part of a name holds, in fewer than
-- 2 ^ 32 octets, is read from it, however deep it nests.
abbrev pub NamesAreRead : Type 0
NamesAreRead = (schema : Set) (part : Rdn) (template : AttrRec) (value : TypedValue) → IsWhole schema →
    IsEncodable schema → Contains schema.attributes template → template.id ≡ part.attribute →
    Fits template.syntax value → part.value ≡ der template.syntax value → length part.value < 2 ^ 32 →
    named_value schema part ≡ Some value
