-- ClassGraphs: what a graph of classes knows, and what is told of one class: the attributes that its mandatory packages
-- have, and those by which its objects can be named (X.720, section 5; X.722, sections 8.3, 8.4 and 8.6;
-- docs/PROFILE.md, section 12).
use Rattle.std.specs.Prelude.{◌≡◌, ◌⊎◌, ◌↔◌, ℕ, List, true, Some}
use Rattle.std.specs.List.{slice_get}
use Rattle.link_graphs.specs.Leading.{target_lists}
use Rattle.link_graphs.specs.Marking.{IsMarked}
use Rattle.link_graphs.specs.Turning.{IsTurned}
use Rattle.reached_elements.specs.Reaching.{IsSomeTarget}
use Rattle.gdmo_names.specs.ClassMembers.{CanBeNamedBy, HasAttribute, HasUnknownAttributes}
use Rattle.gdmo_names.specs.DocumentTemplates.{templates}
use Rattle.gdmo_names.specs.Mentions.Role.{Superclass, MandatoryPackage, PackageAttribute}
use Rattle.gdmo_names.specs.PartTerms.{Placed, PartTerms}
use Rattle.class_graphs.specs.ClassLinks.{AreRoleLinks, NamesBelow, NamesOwn}
use Rattle.class_graphs.specs.NamedLinks.{AreLinks}
use Rattle.class_graphs.specs.declared.class_members.ClassFacts.{ClassFacts}
use Rattle.class_graphs.specs.declared.class_members.ClassGraph.{ClassGraph}
use Rattle.class_graphs.specs.declared.class_members.Held.{Held}
use Rattle.class_graphs.specs.declared.class_members.Naming.{Naming}

-- these are the templates, and the graph tells where they lead
pub record IsGraph (parts : PartTerms) (views : List Placed) (graph : ClassGraph) : Type 0 where
  pub are : views ≡ templates parts
  pub superclasses : AreRoleLinks parts views Superclass graph.superclasses
  pub packages : AreRoleLinks parts views MandatoryPackage graph.packages
  pub attributes : AreRoleLinks parts views PackageAttribute graph.attributes
  pub subclasses : IsTurned (target_lists graph.superclasses.links) (target_lists graph.subclasses)
  pub naming : AreLinks views (NamesOwn parts views) (target_lists graph.naming)
  pub naming_below : AreLinks views (NamesBelow parts views) (target_lists graph.naming_below)

-- one of these classes, or of these packages, names in its part what isn't there
pub data LackSome (graph : ClassGraph) (classes packages : List ℕ) : Type 0 where
  superclass : {t : ℕ} → IsSomeTarget (target_lists graph.superclasses.lost) classes t → LackSome graph classes packages
  in_class : {t : ℕ} → IsSomeTarget (target_lists graph.packages.lost) classes t → LackSome graph classes packages
  in_package : {t : ℕ} → IsSomeTarget (target_lists graph.attributes.lost) packages t → LackSome graph classes packages

-- the number of an attribute is told exactly where the class has it; and it is told exactly whether what the class has
-- isn't known
pub record TellsHeld (parts : PartTerms) (views : List Placed) (class : Placed) (held : Held) : Type 0 where
  pub attributes : (n : ℕ) (attribute : Placed) → slice_get views n ≡ Some attribute →
      IsMarked held.attributes.marks n ↔ HasAttribute parts class attribute
  pub missing : (held.has_missing ≡ true) ↔ HasUnknownAttributes parts class

-- it is told exactly where it can name objects of the class, or of one that derives from it
abbrev pub TellsNaming : PartTerms → List Placed → Placed → Naming → Type 0
TellsNaming parts views class naming = (n : ℕ) (attribute : Placed) → slice_get views n ≡ Some attribute →
    (IsMarked naming.own.marks n ⊎ IsMarked naming.below.marks n) ↔ CanBeNamedBy parts class attribute

pub record TellsFacts (parts : PartTerms) (views : List Placed) (class : Placed) (facts : ClassFacts) : Type 0 where
  pub held : TellsHeld parts views class facts.held
  pub naming : TellsNaming parts views class facts.naming

-- a step of a rule for the class may not name the attribute: it can name objects, or the class hasn't it, as is known
abbrev pub MayNotName : PartTerms → Placed → Placed → Type 0
MayNotName parts class attribute = CanBeNamedBy parts class attribute
    ⊎ ((¬ HasUnknownAttributes parts class) × (¬ HasAttribute parts class attribute))
