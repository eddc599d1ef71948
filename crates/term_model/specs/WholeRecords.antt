-- Which records of a schema are whole: each reference is to a record of the schema, each value fits its syntax, and the
-- conditions of docs/PROFILE.md, sections 2 and 3, hold. X.722, section 8.
use Rattle.std.specs.Prelude.{◌≡◌, ◌≢◌, ◌⊎◌, ℕ, ℤ, pos, List, [], true, Option, None, Some, All, Contains}
use Rattle.std.specs.Prelude.{FitsSigned, IfSome, map, ◌≤ℤ◌}
use Rattle.std.specs.Int.{w64}
use Rattle.term_values.specs.Bounded.{allowed}
use Rattle.term_values.specs.Fits.{Fits}
use Rattle.term_values.specs.MatchingKinds.{beneath_tags}
use Rattle.term_values.specs.Soundness.{IsSound}
use Rattle.term_values.specs.Syntaxes.{Bounds, TypeSyntax, TypeParts}
use Rattle.term_values.specs.Syntaxes.TypeParts.{NoParts, Part}
use Rattle.term_values.specs.Syntaxes.TypeSyntax.{BitString, Integer, OctetString, Sequence, SequenceOf, SetOf}
use Rattle.term_values.specs.Syntaxes.TypeSyntax.{SetType, TextString}
use Rattle.term_values.specs.Typed.{TypedValue}
use Rattle.term_model.specs.declared.actions.ActRec.{ActRec}
use Rattle.term_model.specs.declared.actions.AttributeField.{AttributeField}
use Rattle.term_model.specs.declared.actions.NoteRec.{NoteRec}
use Rattle.term_model.specs.declared.name_binding.BindRec.{BindRec}
use Rattle.term_model.specs.declared.packages.GroupUse.{GroupUse}
use Rattle.term_model.specs.declared.packages.PackageRec.{PackageRec}
use Rattle.term_model.specs.declared.packages.Property.{Property}
use Rattle.term_model.specs.declared.schema.AttrRec.{AttrRec}
use Rattle.term_model.specs.declared.schema.ClassRec.{ClassRec}
use Rattle.term_model.specs.declared.schema.GroupRec.{GroupRec}
use Rattle.term_model.specs.declared.schema.Set.{Set}
use Rattle.term_model.specs.AlikeSyntaxes.{AreAlike}
use Rattle.term_model.specs.JoinedProperties.{HasJoined}

-- identifiers that have a record
abbrev pub IsClass : Set → List ℕ → Type 0
IsClass schema = Contains (map (λ (of_class : ClassRec). of_class.id) schema.classes)

abbrev pub IsAttribute : Set → List ℕ → Type 0
IsAttribute schema = Contains (map (λ (template : AttrRec). template.id) schema.attributes)

abbrev pub IsAction : Set → List ℕ → Type 0
IsAction schema = Contains (map (λ (action : ActRec). action.id) schema.actions)

abbrev pub IsNotification : Set → List ℕ → Type 0
IsNotification schema = Contains (map (λ (notification : NoteRec). notification.id) schema.notifications)

-- a value of an attribute
pub record IsValueOf (schema : Set) (attribute : List ℕ) (value : TypedValue) : Type 0 where
  pub template : AttrRec
  pub known : Contains schema.attributes template
  pub named : template.id ≡ attribute
  pub fits : Fits template.syntax value

-- the bounds of a whole number, or the sizes of another form, with a number for the form
abbrev pub form_bounds : TypeSyntax → Option (ℕ × Bounds)
form_bounds (Integer names ranges) = Some (0, ranges)
form_bounds (BitString names sizes) = Some (1, sizes)
form_bounds (OctetString sizes) = Some (2, sizes)
form_bounds (TextString charset sizes) = Some (3, sizes)
form_bounds (SequenceOf member sizes) = Some (4, sizes)
form_bounds (SetOf member sizes) = Some (5, sizes)
form_bounds _ = None

-- the number is within the bounds of a type of this form; a type of another form says nothing of it
abbrev pub IsWithin : ℕ → ℤ → TypeSyntax → Type 0
IsWithin form n type =
    (bounds : Bounds) → form_bounds (beneath_tags type) ≡ Some (form, bounds) → allowed bounds n ≡ true

-- some number, or size, is within the bounds of a syntax and of all permitted types
abbrev pub IsNotEmpty : TypeSyntax → List TypeSyntax → Type 0
IsNotEmpty syntax permitted =
    (form : ℕ) (bounds : Bounds) → form_bounds (beneath_tags syntax) ≡ Some (form, bounds)
    → (n : ℤ) × FitsSigned w64 n × (form ≢ 0 → pos 0 ≤ℤ n) × IsWithin form n syntax × All (IsWithin form n) permitted

-- SET OF under any tags
abbrev pub IsSetValued : TypeSyntax → Type 0
IsSetValued syntax = (member : TypeSyntax) × ((sizes : Bounds) × (beneath_tags syntax ≡ SetOf member sizes))

-- what a package, or a class, says of an attribute
pub record IsWholeProperty (schema : Set) (stated : Property) : Type 0 where
  pub template : AttrRec
  pub known : Contains schema.attributes template
  pub named : template.id ≡ stated.attribute
  pub default : IfSome stated.default (Fits template.syntax)
  pub initial : IfSome stated.initial (Fits template.syntax)
  pub permitted : All IsSound stated.permitted
  pub add : stated.add ≡ true → IsSetValued template.syntax
  pub remove : stated.remove ≡ true → IsSetValued template.syntax

-- the use of a group, to which nothing is added where it is FIXED
pub record IsWholeUse (schema : Set) (use_ : GroupUse) : Type 0 where
  pub group : GroupRec
  pub known : Contains schema.groups group
  pub named : group.id ≡ use_.group
  pub added : All (IsAttribute schema) use_.added
  pub fixed : group.fixed ≡ true → use_.added ≡ []

pub record IsWholePackage (schema : Set) (of_package : PackageRec) : Type 0 where
  pub attributes : All (IsWholeProperty schema) of_package.attributes
  pub groups : All (IsWholeUse schema) of_package.groups
  pub actions : All (IsAction schema) of_package.actions
  pub notifications : All (IsNotification schema) of_package.notifications

-- of each attribute of a class a value can be within the bounds of its syntax and of the types that permit it
abbrev pub IsFillable : Set → Property → Type 0
IsFillable schema joined =
    (template : AttrRec) → Contains schema.attributes template → template.id ≡ joined.attribute
    → IsNotEmpty template.syntax joined.permitted

pub record IsWholeClass (schema : Set) (of_class : ClassRec) : Type 0 where
  pub superclasses : All (IsClass schema) of_class.superclasses
  pub mandatory : All (IsWholePackage schema) of_class.mandatory
  pub conditional : All (IsWholePackage schema) of_class.conditional
  pub joined : HasJoined schema of_class
  pub properties : All (IsWholeProperty schema) of_class.properties
  pub fillable : All (IsFillable schema) of_class.properties

pub record IsWholeBinding (schema : Set) (binding : BindRec) : Type 0 where
  pub subordinate : IsClass schema binding.subordinate.class
  pub superior : IsClass schema binding.superior.class
  pub attribute : IsAttribute schema binding.attribute

-- a component of this name and syntax, but for the values of DEFAULTs
abbrev pub HasComponent : TypeParts → List ℕ → TypeSyntax → Type 0
HasComponent NoParts name wanted = ⊥
HasComponent (Part own syntax optional default rest) name wanted =
    (own ≡ name) × AreAlike syntax wanted ⊎ HasComponent rest name wanted

-- a SEQUENCE or SET, under any tags, with such a component
abbrev pub HasField : TypeSyntax → List ℕ → TypeSyntax → Type 0
HasField (Sequence parts) name wanted = HasComponent parts name wanted
HasField (SetType parts) name wanted = HasComponent parts name wanted
HasField _ name wanted = ⊥

pub record IsWholeField (schema : Set) (information : TypeSyntax) (field : AttributeField) : Type 0 where
  pub template : AttrRec
  pub known : Contains schema.attributes template
  pub named : template.id ≡ field.attribute
  pub there : HasField (beneath_tags information) field.component template.syntax

pub record IsWholeNotification (schema : Set) (notification : NoteRec) : Type 0 where
  pub information : IfSome notification.information IsSound
  pub reply : IfSome notification.reply IsSound
  pub fields : All (λ (field : AttributeField).
      (information : TypeSyntax) × (notification.information ≡ Some information)
      × IsWholeField schema information field) notification.fields

pub record IsWholeAction (action : ActRec) : Type 0 where
  pub information : IfSome action.information IsSound
  pub reply : IfSome action.reply IsSound
