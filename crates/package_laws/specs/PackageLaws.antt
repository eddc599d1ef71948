-- What holds of the classes, packages and attributes that are listed for an object, and of the ones that it has: X.722,
-- sections 5.2 and 8.3. The relations are in Inheritance of term_model, the lists in PresentPackages and Creation.
use Rattle.std.specs.Prelude.{◌≡◌, ℕ, List, Contains}
use Rattle.term_model.specs.declared.packages.PackageRec.{PackageRec}
use Rattle.term_model.specs.declared.schema.ClassRec.{ClassRec}
use Rattle.term_model.specs.declared.schema.Set.{Set}
use Rattle.term_model.specs.Creation.{attributes_of}
use Rattle.term_model.specs.Inheritance.{HasAttribute, HasPackage, IsAbove}
use Rattle.term_model.specs.PresentPackages.{classes_above, packages_of}

-- the class with an identifier has one record
abbrev pub HasRecordOnce : Set → Type 0
HasRecordOnce schema = (first second : ClassRec) → Contains schema.classes first → Contains schema.classes second →
    first.id ≡ second.id → first ≡ second

-- each class that is listed is the class itself, or one from which it derives
abbrev pub ListedIsAbove : Type 0
ListedIsAbove = (schema : Set) (class above : List ℕ) → Contains (classes_above schema.classes class) above →
    IsAbove schema class above

-- each such class is listed
abbrev pub AboveIsListed : Type 0
AboveIsListed = (schema : Set) (class above : List ℕ) → HasRecordOnce schema → IsAbove schema class above →
    Contains (classes_above schema.classes class) above

-- an object has each package that is listed for it
abbrev pub ListedHasPackage : Type 0
ListedHasPackage = (schema : Set) (class : List ℕ) (chosen : List (List ℕ)) (of_package : PackageRec) →
    Contains (packages_of schema class chosen) of_package → HasPackage schema class chosen of_package

-- each package that it has is listed
abbrev pub PackageIsListed : Type 0
PackageIsListed = (schema : Set) (class : List ℕ) (chosen : List (List ℕ)) (of_package : PackageRec) →
    HasRecordOnce schema → HasPackage schema class chosen of_package →
    Contains (packages_of schema class chosen) of_package

-- an object has each attribute that is listed for it
abbrev pub ListedHasAttribute : Type 0
ListedHasAttribute = (schema : Set) (class : List ℕ) (chosen : List (List ℕ)) (attribute : List ℕ) →
    Contains (attributes_of schema class chosen) attribute → HasAttribute schema class chosen attribute

-- each attribute that it has is listed
abbrev pub AttributeIsListed : Type 0
AttributeIsListed = (schema : Set) (class : List ℕ) (chosen : List (List ℕ)) (attribute : List ℕ) →
    HasRecordOnce schema → HasAttribute schema class chosen attribute →
    Contains (attributes_of schema class chosen) attribute
