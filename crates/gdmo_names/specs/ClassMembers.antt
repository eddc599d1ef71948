-- ClassMembers: which classes derive from which, which attributes the mandatory packages of a class have, and by
-- which attributes its objects can be named (X.720, section 5; X.722, sections 8.3, 8.4 and 8.6; docs/PROFILE.md,
-- section 12).
use Rattle.std.specs.Prelude.{◌≡◌, ◌⊎◌, List, [], ◌∷◌, Bool, true, false, Option, None, Some, Contains}
use Rattle.gdmo_names.specs.DocumentTemplates.{templates}
use Rattle.gdmo_names.specs.LabelMeaning.{Leads, LeadsNowhere, Means}
use Rattle.gdmo_names.specs.Mentions.Role.{Superclass, MandatoryPackage, PackageAttribute, SubordinateClass}
use Rattle.gdmo_names.specs.Mentions.Role.{NamingAttribute, InstanceClass, NameAttribute}
use Rattle.gdmo_names.specs.PartTerms.{Placed, PairTerm, InstanceTerm, PartTerms, body_of}
use Rattle.gdmo_names.specs.TemplateTerms.{BodyTerm}
use Rattle.gdmo_names.specs.TemplateTerms.BodyTerm.{BindingBody}
use Rattle.gdmo_names.specs.TemplateTerms.ReferenceTerm.{ByLabel}

-- a class derives from another one, directly or not
pub data Derives (parts : PartTerms) (class : Placed) : Placed → Type 0 where
  directly : {base : Placed} → Leads parts class Superclass base → Derives parts class base
  through : {middle base : Placed} → Derives parts class middle → Leads parts middle Superclass base →
      Derives parts class base

-- a class is this one, or derives from it
abbrev pub IsOrDerives : PartTerms → Placed → Placed → Type 0
IsOrDerives parts class base = (class ≡ base) ⊎ Derives parts class base

-- a mandatory package of the class, or of one that it derives from, has the attribute
pub record HasAttribute (parts : PartTerms) (class attribute : Placed) : Type 0 where
  pub base : Placed
  pub above : IsOrDerives parts class base
  pub package_of : Placed
  pub mandatory : Leads parts base MandatoryPackage package_of
  pub has : Leads parts package_of PackageAttribute attribute

-- what the mandatory packages of the class have isn't known: a superclass, a package or an attribute is missing
pub data HasUnknownAttributes (parts : PartTerms) (class : Placed) : Type 0 where
  superclass : {base : Placed} → IsOrDerives parts class base → LeadsNowhere parts base Superclass →
      HasUnknownAttributes parts class
  package_of : {base : Placed} → IsOrDerives parts class base → LeadsNowhere parts base MandatoryPackage →
      HasUnknownAttributes parts class
  attribute_of : {base in_package : Placed} → IsOrDerives parts class base →
      Leads parts base MandatoryPackage in_package → LeadsNowhere parts in_package PackageAttribute →
      HasUnknownAttributes parts class

-- AND SUBCLASSES stands behind the subordinate class of a name binding
abbrev pub names_subclasses : BodyTerm → Bool
names_subclasses (BindingBody below below_all above above_all attribute behaviours create delete) = below_all
names_subclasses _ = false

-- a name binding can name objects of the class: it is the subordinate one, or with AND SUBCLASSES derives from it
pub data CanName (parts : PartTerms) (binding class : Placed) : Type 0 where
  subordinate : Leads parts binding SubordinateClass class → CanName parts binding class
  subclass : {base : Placed} → Leads parts binding SubordinateClass base →
      names_subclasses (body_of binding.template) ≡ true → Derives parts class base → CanName parts binding class

-- the last part of a name
abbrev pub last_pair : List PairTerm → Option PairTerm
last_pair [] = None
last_pair (x ∷ []) = Some x
last_pair (x ∷ y ∷ xs) = last_pair (y ∷ xs)

-- an object of the class can be named by the attribute: by a name binding, or as the root
pub data IsNamedBy (parts : PartTerms) (class attribute : Placed) : Type 0 where
  by_binding : {binding : Placed} → Contains (templates parts) binding → CanName parts binding class →
      Leads parts binding NamingAttribute attribute → IsNamedBy parts class attribute
  as_root : {instance : InstanceTerm} {pair : PairTerm} → Contains parts.instances instance →
      instance.is_root ≡ true → last_pair instance.name ≡ Some pair →
      Means parts instance.document InstanceClass (ByLabel instance.class) class →
      Means parts instance.document NameAttribute (ByLabel pair.attribute) attribute →
      IsNamedBy parts class attribute

-- the attribute can name objects of the class, or of one of the documents that derives from it
pub record CanBeNamedBy (parts : PartTerms) (class attribute : Placed) : Type 0 where
  pub below : Placed
  pub stands : Contains (templates parts) below
  pub derives : IsOrDerives parts below class
  pub named : IsNamedBy parts below attribute
