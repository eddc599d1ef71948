-- ClassRecords: which record of a class, with its packages, is that of which linked class: each reference is the
-- identifier of its target, a type its syntax, a value what it is (X.722, sections 8.3 and 8.4). The joined properties of
-- a class are those of JoinedProperties of term_model.
use Rattle.std.specs.Prelude.{◌≡◌, ℕ, List, [], ◌∷◌, Option, None, Some, is_some, slice_get}
use Rattle.term_values.specs.Syntaxes.{TypeSyntax}
use Rattle.term_values.specs.Typed.{TypedValue}
use Rattle.term_model.specs.declared.packages.GroupUse.{GroupUse}
use Rattle.term_model.specs.declared.packages.PackageRec.{PackageRec}
use Rattle.term_model.specs.declared.packages.Property.{Property}
use Rattle.term_model.specs.declared.schema.ClassRec.{ClassRec}
use Rattle.asn1_names.specs.ModuleTerms.{ModuleTerm}
use Rattle.linked_parts.specs.declared.linked.Linked.{Linked}
use Rattle.linked_parts.specs.declared.linked.LinkedClass.{LinkedClass}
use Rattle.linked_parts.specs.declared.linked.LinkedGroupUse.{LinkedGroupUse}
use Rattle.linked_parts.specs.declared.linked.LinkedHead.{LinkedHead}
use Rattle.linked_parts.specs.declared.linked.LinkedName.{LinkedName}
use Rattle.linked_parts.specs.declared.linked.LinkedPackage.{LinkedPackage}
use Rattle.linked_parts.specs.declared.linked.LinkedUse.{LinkedUse}
use Rattle.class_faults.specs.StatedProperties.{HasValue, TypeHas}
use Rattle.linked_types.specs.PartIdentifiers.{AreEach, AreIdentified, IsAttributeId, IsClassId, IsIdentified}
use Rattle.linked_types.specs.TypeTables.{type_called}

abbrev pub IsOptionalValue : List ModuleTerm → Linked → Option LinkedName → Option TypedValue → Type 0
IsOptionalValue ms linked None None = Unit {0}
IsOptionalValue ms linked (Some name) (Some value) = HasValue ms linked name value
IsOptionalValue ms linked _ _ = ⊥

abbrev pub ArePermittedTypes : List ModuleTerm → Linked → Option LinkedName → List TypeSyntax → Type 0
ArePermittedTypes ms linked None [] = Unit {0}
ArePermittedTypes ms linked (Some name) (syntax ∷ []) = TypeHas ms linked name syntax
ArePermittedTypes ms linked _ _ = ⊥

-- the name of a type, behind that of its module and a point
abbrev pub AreRequiredTypes : List ModuleTerm → Option LinkedName → List (List ℕ) → Type 0
AreRequiredTypes ms None [] = Unit {0}
AreRequiredTypes ms (Some name) (called ∷ []) = type_called ms name.meaning ≡ called
AreRequiredTypes ms _ _ = ⊥

pub record IsProperty (ms : List ModuleTerm) (linked : Linked) (stated : LinkedUse) (x : Property) : Type 0 where
  pub is_attribute : IsAttributeId linked stated.attribute x.attribute
  pub gets : stated.get ≡ x.get
  pub replaces : stated.replace ≡ x.replace
  pub adds : is_some stated.add ≡ x.add
  pub removes : is_some stated.remove ≡ x.remove
  pub sets_default : stated.set_to_default ≡ x.set_to_default
  pub is_default : IsOptionalValue ms linked stated.default_value x.default
  pub is_initial : IsOptionalValue ms linked stated.initial_value x.initial
  pub permits : ArePermittedTypes ms linked stated.permitted x.permitted
  pub requires_types : AreRequiredTypes ms stated.required x.required

pub record IsGroupUse (linked : Linked) (stated : LinkedGroupUse) (x : GroupUse) : Type 0 where
  pub is_group : IsIdentified (λ y. y.head) linked.groups.items stated.group x.group
  pub are_added : AreEach (IsAttributeId linked) stated.added.items x.added

pub record IsPackage (ms : List ModuleTerm) (linked : Linked) (part : LinkedPackage) (x : PackageRec) : Type 0 where
  pub is_id : part.head.identifier ≡ x.id
  pub is_label : part.head.label.text ≡ x.label
  pub attributes_are : AreEach (IsProperty ms linked) part.attributes.items x.attributes
  pub groups_are : AreEach (IsGroupUse linked) part.groups.items x.groups
  pub actions_are : AreIdentified (λ y. y.head) linked.actions.items part.actions.items x.actions
  pub notifications_are : AreIdentified (λ y. y.head) linked.notifications.items part.notifications.items
      x.notifications

-- the package at a place of its table
abbrev pub IsPackageAt : List ModuleTerm → Linked → ℕ → PackageRec → Type 0
IsPackageAt ms linked k x =
    (part : LinkedPackage) × (slice_get linked.packages.items k ≡ Some part) × IsPackage ms linked part x

-- the identifier and the label of a template that is registered
pub record IsRegistered (head : LinkedHead) (id label : List ℕ) : Type 0 where
  pub is_id : head.identifier ≡ Some id
  pub is_label : head.label.text ≡ label

-- a class with its packages whole; of its joined properties nothing is said here
pub record IsClass (ms : List ModuleTerm) (linked : Linked) (part : LinkedClass) (x : ClassRec) : Type 0 where
  pub registered : IsRegistered part.head x.id x.label
  pub superclasses_are : AreEach (IsClassId linked) part.superclasses.items x.superclasses
  pub mandatory_are : AreEach (IsPackageAt ms linked) part.mandatory.items x.mandatory
  pub conditional_are : AreEach (IsPackageAt ms linked) part.conditional.items x.conditional
