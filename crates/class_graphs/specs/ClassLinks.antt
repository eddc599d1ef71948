-- ClassLinks: where templates lead in a role, and by which attributes name bindings and ROOTs name objects of classes
-- (X.720, section 5; X.722, sections 8.3, 8.4 and 8.6; docs/PROFILE.md, sections 9 and 12).
use Rattle.std.specs.Prelude.{◌≡◌, ◌⊎◌, ℕ, List, [], ◌∷◌, Bool, true, false, Option, None, Some}
use Rattle.link_graphs.specs.Leading.{target_lists}
use Rattle.gdmo_names.specs.ClassMembers.{last_pair, names_subclasses}
use Rattle.gdmo_names.specs.LabelMeaning.{Leads, LeadsNowhere, Means}
use Rattle.gdmo_names.specs.Mentions.{Role}
use Rattle.gdmo_names.specs.Mentions.Role.{SubordinateClass, NamingAttribute, InstanceClass, NameAttribute}
use Rattle.gdmo_names.specs.PartTerms.{Placed, PairTerm, InstanceTerm, PartTerms, body_of}
use Rattle.gdmo_names.specs.TemplateTerms.ReferenceTerm.{ByLabel}
use Rattle.class_graphs.specs.NamedLinks.{AreLinks, ByAny}
use Rattle.class_graphs.specs.declared.role_links.RoleLinks.{RoleLinks}

-- a template itself leads to another in a role
abbrev pub LeadsBy : PartTerms → Role → Placed → Placed → Placed → Type 0
LeadsBy parts role by one other = (by ≡ one) × Leads parts by role other

-- it leads nowhere there, which is told by a link to itself
abbrev pub LostBy : PartTerms → Role → Placed → Placed → Placed → Type 0
LostBy parts role by one other = (by ≡ one) × (by ≡ other) × LeadsNowhere parts by role

-- where all templates lead in a role
pub record AreRoleLinks (parts : PartTerms) (views : List Placed) (role : Role) (own : RoleLinks) : Type 0 where
  pub links : AreLinks views (ByAny views (LeadsBy parts role)) (target_lists own.links)
  pub lost : AreLinks views (ByAny views (LostBy parts role)) (target_lists own.lost)

-- a name binding names objects of its subordinate class by an attribute; where only those with AND SUBCLASSES are
-- wanted, it has that
pub record NamesBy (parts : PartTerms) (with_subclasses : Bool) (by class attribute : Placed) : Type 0 where
  pub below_too : with_subclasses ≡ true → names_subclasses (body_of by.template) ≡ true
  pub subordinate : Leads parts by SubordinateClass class
  pub naming : Leads parts by NamingAttribute attribute

-- an instance is a ROOT of the class, and the last part of its name has the attribute
pub record NamesRoot (parts : PartTerms) (by : InstanceTerm) (class attribute : Placed) : Type 0 where
  pub is_root : by.is_root ≡ true
  pub of_class : Means parts by.document InstanceClass (ByLabel by.class) class
  pub pair : PairTerm
  pub is_last : last_pair by.name ≡ Some pair
  pub means : Means parts by.document NameAttribute (ByLabel pair.attribute) attribute

-- an object of the class itself is named by the attribute
abbrev pub NamesOwn : PartTerms → List Placed → Placed → Placed → Type 0
NamesOwn parts views class attribute = ByAny views (NamesBy parts false) class attribute
    ⊎ ByAny parts.instances (NamesRoot parts) class attribute

-- one of a class that derives from it is
abbrev pub NamesBelow : PartTerms → List Placed → Placed → Placed → Type 0
NamesBelow parts views class attribute = ByAny views (NamesBy parts true) class attribute

-- the last of some numbers
abbrev pub last_number : List (Option ℕ) → Option ℕ
last_number [] = None
last_number (x ∷ []) = x
last_number (x ∷ y ∷ xs) = last_number (y ∷ xs)
