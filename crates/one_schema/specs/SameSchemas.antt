-- SameSchemas: schemas that say the same: they have the same records in the same order, and of each class the same
-- joined properties (X.722, section 8; docs/PROFILE.md, section 18). The joined properties of a class are a map from
-- attributes, and in each of them permitted types and required types are sets: none of these has an order of its own.
use Rattle.std.specs.Prelude.{◌≡◌, ◌↔◌, List, All, Contains}
use Rattle.term_model.specs.declared.packages.Property.{Property}
use Rattle.term_model.specs.declared.schema.ClassRec.{ClassRec}
use Rattle.term_model.specs.declared.schema.Set.{Set}
use Rattle.linked_types.specs.PartIdentifiers.{AreEach}

-- the same elements, whatever their order and however often they stand there
abbrev pub HaveSameElements : {A : Type 0} → List A → List A → Type 0
HaveSameElements {A} one other = (x : A) → Contains one x ↔ Contains other x

-- the same of the same attribute
pub record AreSameProperties (one other : Property) : Type 0 where
  pub attribute : one.attribute ≡ other.attribute
  pub get : one.get ≡ other.get
  pub replace : one.replace ≡ other.replace
  pub add : one.add ≡ other.add
  pub remove : one.remove ≡ other.remove
  pub set_to_default : one.set_to_default ≡ other.set_to_default
  pub default : one.default ≡ other.default
  pub initial : one.initial ≡ other.initial
  pub permitted : HaveSameElements one.permitted other.permitted
  pub required : HaveSameElements one.required other.required

-- each property of the first list is in the second one too
abbrev pub AreSaidBy : List Property → List Property → Type 0
AreSaidBy ones others = All (λ one. (other : Property) × Contains others other × AreSameProperties one other) ones

-- all that the templates of two classes say, with their packages, but not what is joined of these
pub record HaveSameTemplate (one other : ClassRec) : Type 0 where
  pub id : one.id ≡ other.id
  pub label : one.label ≡ other.label
  pub superclasses : one.superclasses ≡ other.superclasses
  pub mandatory : one.mandatory ≡ other.mandatory
  pub conditional : one.conditional ≡ other.conditional

-- and the joined properties of either are those of the other
pub record AreSameClasses (one other : ClassRec) : Type 0 where
  pub template : HaveSameTemplate one other
  pub properties : AreSaidBy one.properties other.properties
  pub no_others : AreSaidBy other.properties one.properties

-- all records, one by one, and the name of the system
pub record AreSameSchemas (one other : Set) : Type 0 where
  pub classes : AreEach AreSameClasses one.classes other.classes
  pub attributes : one.attributes ≡ other.attributes
  pub groups : one.groups ≡ other.groups
  pub bindings : one.bindings ≡ other.bindings
  pub actions : one.actions ≡ other.actions
  pub notifications : one.notifications ≡ other.notifications
  pub rules : one.rules ≡ other.rules
  pub instances : one.instances ≡ other.instances
  pub system : one.system ≡ other.system
