-- Inheritance: a class has what its packages and those of all classes from which it derives have; X.722, sections 5.2
-- and 8.3. An object has the mandatory packages and the conditional ones that its creation chose.
use Rattle.std.specs.Prelude.{◌≡◌, ◌⊎◌, ℕ, List, Some, Contains}
use Rattle.term_model.specs.declared.packages.PackageRec.{PackageRec}
use Rattle.term_model.specs.declared.packages.Property.{Property}
use Rattle.term_model.specs.declared.schema.ClassRec.{ClassRec}
use Rattle.term_model.specs.declared.schema.Set.{Set}

-- the class with this identifier has this record
pub record HasRecord (schema : Set) (class : List ℕ) (of_class : ClassRec) : Type 0 where
  pub known : Contains schema.classes of_class
  pub named : of_class.id ≡ class

-- a class derives directly from another one
pub record Derives (schema : Set) (class superclass : List ℕ) : Type 0 where
  pub of_class : ClassRec
  pub has : HasRecord schema class of_class
  pub from : Contains of_class.superclasses superclass

-- the least set of classes that has a class, and each class from which one of them derives
pub data IsAbove (schema : Set) (class : List ℕ) : List ℕ → Type 0 where
  Itself : IsAbove schema class class
  Further : {above further : List ℕ} → IsAbove schema class above → Derives schema above further
      → IsAbove schema class further

-- an object of a class whose creation chose these packages has the package
pub record HasPackage (schema : Set) (class : List ℕ) (chosen : List (List ℕ)) (has : PackageRec) : Type 0 where
  pub above : List ℕ
  pub is_above : IsAbove schema class above
  pub of_class : ClassRec
  pub record_of : HasRecord schema above of_class
  pub there :
      Contains of_class.mandatory has
      ⊎ (Contains of_class.conditional has × ((id : List ℕ) × (has.id ≡ Some id) × Contains chosen id))

-- the attributes, actions and notifications of such an object
pub record HasAttribute (schema : Set) (class : List ℕ) (chosen : List (List ℕ)) (attribute : List ℕ) : Type 0 where
  pub of_package : PackageRec
  pub has : HasPackage schema class chosen of_package
  pub property : Property
  pub stated : Contains of_package.attributes property
  pub is : property.attribute ≡ attribute

pub record HasAction (schema : Set) (class : List ℕ) (chosen : List (List ℕ)) (action : List ℕ) : Type 0 where
  pub of_package : PackageRec
  pub has : HasPackage schema class chosen of_package
  pub is : Contains of_package.actions action

pub record HasNotification (schema : Set) (class : List ℕ) (chosen : List (List ℕ))
    (notification : List ℕ) : Type 0 where
  pub of_package : PackageRec
  pub has : HasPackage schema class chosen of_package
  pub is : Contains of_package.notifications notification
