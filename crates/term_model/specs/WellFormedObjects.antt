-- Which maps of objects are well-formed under a schema: X.720, sections 5 and 6; X.722, sections 8.3 to 8.6; the limits
-- are this project's own.
use Rattle.std.specs.Prelude.{◌≡◌, ◌≤◌, ◌⊎◌, ◌++◌, ℕ, List, [], ◌∷◌, false, true, All, Contains, Some}
use Rattle.std.specs.Prelude.{codes, length}
use Rattle.std.specs.Cmp.Lexicographic.{slice_cmp}
use Rattle.std.specs.List.Sorted.{IsStrictlySortedBy}
use Rattle.std.specs.Ordering.{nat_cmp}
use Rattle.term_values.specs.Fits.{Fits}
use Rattle.term_values.specs.Syntaxes.{TypeSyntax}
use Rattle.term_values.specs.Written.{der}
use Rattle.term_model.specs.declared.name.Rdn.{Rdn}
use Rattle.term_model.specs.declared.name_binding.BindRec.{BindRec}
use Rattle.term_model.specs.declared.object.Attribute.{Attribute}
use Rattle.term_model.specs.declared.object.Object.{Object}
use Rattle.term_model.specs.declared.objects.NamedObject.{NamedObject}
use Rattle.term_model.specs.declared.packages.Property.{Property}
use Rattle.term_model.specs.declared.schema.AttrRec.{AttrRec}
use Rattle.term_model.specs.declared.schema.ClassRec.{ClassRec}
use Rattle.term_model.specs.declared.schema.Set.{Set}
use Rattle.term_model.specs.AgentWritten.{is_agent_written}
use Rattle.term_model.specs.BoundClasses.{counts, is_bound_log, object_size}
use Rattle.term_model.specs.Inheritance.{HasAttribute, HasRecord}
use Rattle.term_model.specs.LogRecords.{is_record_name}
use Rattle.term_model.specs.NamedObjects.{IsByName, names, object_at}
use Rattle.term_model.specs.ObjectAttributes.{identifiers}
use Rattle.term_model.specs.WholeSet.{IsWhole, NamesClass}

-- a value of an attribute fits its syntax and has at most 8192 octets; those of the attributes by which a bound log
-- tells of its records may have more
pub record HasValue (schema : Set) (class : List ℕ) (held : Attribute) : Type 0 where
  pub template : AttrRec
  pub known : Contains schema.attributes template
  pub named : template.id ≡ held.id
  pub fits : Fits template.syntax held.value
  pub small : counts schema class held.id ≡ true → length (der template.syntax held.value) ≤ 8192

-- PERMITTED VALUES: the value is one of each of the types that the class joined for the attribute
abbrev pub IsPermitted : ClassRec → Attribute → Type 0
IsPermitted class held =
    (property : Property) → Contains class.properties property → property.attribute ≡ held.id
    → All (λ (type : TypeSyntax). Fits type held.value) property.permitted

-- a record of a bound log, itself of the class labelled eventLogRecord: its values need not be permitted
abbrev pub IsPlainRecord : Set → List NamedObject → NamedObject → ClassRec → Type 0
IsPlainRecord schema objects entry class =
    (class.label ≡ codes "eventLogRecord")
    × ((log : NamedObject) × Contains objects log × (is_bound_log schema log.object.class ≡ true)
    × (is_record_name schema log.name entry.name ≡ true))

-- An object has exactly the attributes of its packages, once each, by rising identifier, with values that fit. Those
-- that the agent doesn't write are permitted.
pub record IsGoodObject (schema : Set) (objects : List NamedObject) (entry : NamedObject) : Type 0 where
  pub class : ClassRec
  pub known : HasRecord schema entry.object.class class
  pub once : IsStrictlySortedBy (slice_cmp nat_cmp) (identifiers entry.object.attrs)
  pub of_packages : All (HasAttribute schema entry.object.class entry.object.chosen) (identifiers entry.object.attrs)
  pub each : (attribute : List ℕ) → HasAttribute schema entry.object.class entry.object.chosen attribute
      → Contains (identifiers entry.object.attrs) attribute
  pub values : All (HasValue schema entry.object.class) entry.object.attrs
  pub permitted : IsPlainRecord schema objects entry class
      ⊎ All (λ (held : Attribute).
      is_agent_written schema (is_bound_log schema entry.object.class) held.id ≡ false → IsPermitted class held)
      entry.object.attrs
  pub small : object_size schema entry.object ≤ 16384

-- an attribute of the object has the value of a part of a name
pub record HasPart (schema : Set) (object : Object) (part : Rdn) : Type 0 where
  pub held : Attribute
  pub there : Contains object.attrs held
  pub named : held.id ≡ part.attribute
  pub template : AttrRec
  pub known : Contains schema.attributes template
  pub is : template.id ≡ held.id
  pub value : der template.syntax held.value ≡ part.value

-- An object below the root has at most 32 parts in its name, its superior is there, and its binding licenses both
-- classes. The binding's attribute, which the agent doesn't write, has the value of the last part.
pub record IsGoodName (schema : Set) (objects : List NamedObject) (entry : NamedObject) : Type 0 where
  pub front : List Rdn
  pub last : Rdn
  pub is : entry.name ≡ front ++ last ∷ []
  pub deep : length entry.name ≤ 32
  pub superior : Object
  pub there : object_at objects front ≡ Some superior
  pub binding : BindRec
  pub known : Contains schema.bindings binding
  pub bound : entry.object.binding ≡ Some binding.id
  pub subordinate : NamesClass binding.subordinate schema entry.object.class
  pub above : NamesClass binding.superior schema superior.class
  pub attribute : binding.attribute ≡ last.attribute
  pub plain : is_agent_written schema (is_bound_log schema entry.object.class) last.attribute ≡ false
  pub value : HasPart schema entry.object last

-- the objects of a system
pub record AreGood (schema : Set) (objects : List NamedObject) : Type 0 where
  pub whole : IsWhole schema
  pub root : Contains (names objects) []
  pub few : length objects ≤ 100000
  pub by_name : IsByName objects
  pub each : All (IsGoodObject schema objects) objects
  pub below : All (λ (entry : NamedObject). (entry.name ≡ []) ⊎ IsGoodName schema objects entry) objects
