-- How what packages say of one attribute is joined for a class: X.722, section 8.4; docs/PROFILE.md, section 2. A class
-- has the packages of all classes from which it derives, its own among them, and here also those that an object need
-- not have.
use Rattle.std.specs.Prelude.{◌≡◌, ◌≢◌, ◌⊎◌, ◌↔◌, ℕ, List, true, Option, None, Some, All, AllPairs, Contains, map}
use Rattle.term_values.specs.Syntaxes.{TypeSyntax}
use Rattle.term_values.specs.Typed.{TypedValue}
use Rattle.term_model.specs.declared.packages.PackageRec.{PackageRec}
use Rattle.term_model.specs.declared.packages.Property.{Property}
use Rattle.term_model.specs.declared.schema.ClassRec.{ClassRec}
use Rattle.term_model.specs.declared.schema.Set.{Set}
use Rattle.term_model.specs.Inheritance.{Derives, HasRecord, IsAbove}

-- a package of the class itself, mandatory or conditional, says this of an attribute
pub record OwnStates (of_class : ClassRec) (stated : Property) : Type 0 where
  pub of_package : PackageRec
  pub own : Contains of_class.mandatory of_package ⊎ Contains of_class.conditional of_package
  pub says : Contains of_package.attributes stated

-- a package of the class, or of one from which it derives, says this of an attribute
pub record States (schema : Set) (class : List ℕ) (stated : Property) : Type 0 where
  pub above : List ℕ
  pub is_above : IsAbove schema class above
  pub of_class : ClassRec
  pub record_of : HasRecord schema above of_class
  pub says : OwnStates of_class stated

-- some package states it of the attribute
abbrev pub SomeStates : Set → List ℕ → List ℕ → (Property → Type 0) → Type 0
SomeStates schema class attribute such =
    (stated : Property) × States schema class stated × (stated.attribute ≡ attribute) × such stated

-- A default or an initial value: a value that the class itself states hides those of the classes from which it derives.
pub data Holds (schema : Set) (which : Property → Option TypedValue) (attribute : List ℕ) :
    List ℕ → TypedValue → Type 0 where
  Own : {class : List ℕ} {value : TypedValue} (of_class : ClassRec) (stated : Property)
      → HasRecord schema class of_class → OwnStates of_class stated → stated.attribute ≡ attribute
      → which stated ≡ Some value → Holds schema which attribute class value
  Inherited : {class above : List ℕ} {value : TypedValue} (of_class : ClassRec) → HasRecord schema class of_class
      → ((stated : Property) → OwnStates of_class stated → stated.attribute ≡ attribute → which stated ≡ None)
      → Derives schema class above → Holds schema which attribute above value
      → Holds schema which attribute class value

-- what is joined of one attribute: operations and required types by union, permitted types by intersection, so that a
-- value must be one of each of them; a default and an initial value, where one holds
pub record IsJoined (schema : Set) (class : List ℕ) (joined : Property) : Type 0 where
  pub stated : SomeStates schema class joined.attribute (λ stated. Unit {0})
  pub get : (joined.get ≡ true) ↔ SomeStates schema class joined.attribute (λ stated. stated.get ≡ true)
  pub replace : (joined.replace ≡ true) ↔ SomeStates schema class joined.attribute (λ stated. stated.replace ≡ true)
  pub add : (joined.add ≡ true) ↔ SomeStates schema class joined.attribute (λ stated. stated.add ≡ true)
  pub remove : (joined.remove ≡ true) ↔ SomeStates schema class joined.attribute (λ stated. stated.remove ≡ true)
  pub set_to_default : (joined.set_to_default ≡ true)
      ↔ SomeStates schema class joined.attribute (λ stated. stated.set_to_default ≡ true)
  pub permitted : (type : TypeSyntax) → Contains joined.permitted type
      ↔ SomeStates schema class joined.attribute (λ stated. Contains stated.permitted type)
  pub required : (name : List ℕ) → Contains joined.required name
      ↔ SomeStates schema class joined.attribute (λ stated. Contains stated.required name)
  pub default : (value : TypedValue) → (joined.default ≡ Some value)
      ↔ Holds schema (λ stated. stated.default) joined.attribute class value
  pub initial : (value : TypedValue) → (joined.initial ≡ Some value)
      ↔ Holds schema (λ stated. stated.initial) joined.attribute class value

-- the properties of a class: one joined property for each attribute that its packages list
pub record HasJoined (schema : Set) (of_class : ClassRec) : Type 0 where
  pub joined : All (IsJoined schema of_class.id) of_class.properties
  pub once : AllPairs (λ (one other : Property). one.attribute ≢ other.attribute) of_class.properties
  pub each : (stated : Property) → States schema of_class.id stated
      → Contains (map (λ (property : Property). property.attribute) of_class.properties) stated.attribute
