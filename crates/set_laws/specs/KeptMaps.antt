-- A Set of an object of a well-formed map leaves the object well-formed, and the map: X.711, section 7.4, m-Set; X.720,
-- sections 5 and 6; X.722, sections 8.3 to 8.6. Which maps are well-formed is in WellFormedObjects of term_model.
use Rattle.std.specs.Prelude.{◌≡◌, ◌⊎◌, ℕ, Bool, List, [], ◌∷◌, Option, None, Some, IfOk}
use Rattle.term_model.specs.declared.name.Rdn.{Rdn}
use Rattle.term_model.specs.declared.object.Object.{Object}
use Rattle.term_model.specs.declared.objects.NamedObject.{NamedObject}
use Rattle.term_model.specs.declared.request.Change.{Change}
use Rattle.term_model.specs.declared.schema.Set.{Set}
use Rattle.term_model.specs.NamedObjects.{object_at, removed, stored}
use Rattle.term_model.specs.ObjectSet.{set_effect}
use Rattle.term_model.specs.WellFormedObjects.{AreGood, IsGoodName, IsGoodObject}
use Rattle.term_model.specs.WholeSet.{IsWhole}
use Rattle.set_laws.specs.ModificationLaws.{made_of}

abbrev pub under : List Rdn → Object → NamedObject
under name object = record { name = name; object = object }

-- a map with a change set: each object that is left stands under its name, and none under the name of one that is not
abbrev pub with_patch : List NamedObject → List Rdn × Option Object → List NamedObject
with_patch objects (name, Some object) = stored (under name object) objects
with_patch objects (name, None) = removed name objects

abbrev pub with_patches : List NamedObject → List (List Rdn × Option Object) → List NamedObject
with_patches objects [] = objects
with_patches objects (patch ∷ patches) = with_patches (with_patch objects patch) patches

-- An object obeys its templates after modifications where it did before: it has exactly the attributes of its packages,
-- once each, by rising identifier, with values that fit, are permitted and are not too long, nor is the object.
abbrev pub ObjectStaysGood : Type 0
ObjectStaysGood = (schema : Set) (objects : List NamedObject) (name : List Rdn) (object : Object)
    (changes : List Change) → IsWhole schema → IsGoodObject schema objects (under name object) →
    IsGoodObject schema objects (under name (made_of schema name object changes))

-- and its name is that of an object of its class: the attribute by which it is named has the value that it had
abbrev pub NameStaysGood : Type 0
NameStaysGood = (schema : Set) (objects : List NamedObject) (name : List Rdn) (object : Object)
    (changes : List Change) → (name ≡ []) ⊎ IsGoodName schema objects (under name object) →
    (name ≡ []) ⊎ IsGoodName schema objects (under name (made_of schema name object changes))

-- a Set of an object of a well-formed map leaves a well-formed map
abbrev pub MapStaysGood : Type 0
MapStaysGood = (schema : Set) (objects : List NamedObject) (name : List Rdn) (object : Object) (changes : List Change)
    (atomic : Bool) (time : List ℕ) → AreGood schema objects → object_at objects name ≡ Some object →
    IfOk (set_effect schema name object changes atomic time)
    (λ effect. AreGood schema (with_patches objects effect.changes))
