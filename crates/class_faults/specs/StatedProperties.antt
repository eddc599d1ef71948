-- StatedProperties: what packages state of an attribute for a class, and which default and initial values hold in it: a
-- value that the class itself states hides those of the classes from which it derives (X.722, section 8.4;
-- docs/PROFILE.md, section 18).
use Rattle.std.specs.Prelude.{◌≡◌, ◌≢◌, ◌⊎◌, ℕ, List, None, Some, Option, Contains, slice_get}
use Rattle.term_values.specs.Syntaxes.{TypeSyntax}
use Rattle.term_values.specs.Typed.{TypedValue}
use Rattle.asn1_names.specs.ModuleTerms.{ModuleTerm}
use Rattle.link_graphs.specs.Leading.{Reaches}
use Rattle.linked_parts.specs.declared.linked.Linked.{Linked}
use Rattle.linked_parts.specs.declared.linked.LinkedClass.{LinkedClass}
use Rattle.linked_parts.specs.declared.linked.LinkedName.{LinkedName}
use Rattle.linked_parts.specs.declared.linked.LinkedPackage.{LinkedPackage}
use Rattle.linked_parts.specs.declared.linked.LinkedUse.{LinkedUse}
use Rattle.filled_syntaxes.specs.FilledSyntaxes.{HasFilled}
use Rattle.filled_syntaxes.specs.LinkedMeanings.{AssignsValue, linked_arcs, linked_meaning}
use Rattle.class_faults.specs.CyclicClasses.{superclass_lists}

-- a package of the class at the place k, mandatory or conditional, states this of an attribute
pub record OwnStates (linked : Linked) (k : ℕ) (stated : LinkedUse) : Type 0 where
  pub of_class : LinkedClass
  pub class_at : slice_get linked.classes.items k ≡ Some of_class
  pub place : ℕ
  pub own : Contains of_class.mandatory.items place ⊎ Contains of_class.conditional.items place
  pub of_package : LinkedPackage
  pub package_at : slice_get linked.packages.items place ≡ Some of_package
  pub says : Contains of_package.attributes.items stated

-- a package of the class, or of one from which it derives, directly or not, states this
pub record States (linked : Linked) (k : ℕ) (stated : LinkedUse) : Type 0 where
  pub above : ℕ
  pub is_above : Reaches (superclass_lists linked) k above
  pub says : OwnStates linked above stated

-- the value of this name
abbrev pub HasValue : List ModuleTerm → Linked → LinkedName → TypedValue → Type 0
HasValue ms linked name value = AssignsValue ms (linked_arcs linked) (linked_meaning ms name.meaning) value

-- the syntax of the type of this name
abbrev pub TypeHas : List ModuleTerm → Linked → LinkedName → TypeSyntax → Type 0
TypeHas ms linked name syntax = HasFilled ms (linked_arcs linked) (linked_meaning ms name.meaning) syntax

-- a default, or an initial value, that holds of an attribute in a class
pub data Holds (ms : List ModuleTerm) (linked : Linked) (which : LinkedUse → Option LinkedName) (attribute : ℕ) :
    ℕ → TypedValue → Type 0 where
  own : {k : ℕ} {value : TypedValue} (stated : LinkedUse) (name : LinkedName) → OwnStates linked k stated →
      stated.attribute ≡ attribute → which stated ≡ Some name → HasValue ms linked name value →
      Holds ms linked which attribute k value
  inherited : {k above : ℕ} {value : TypedValue} (of_class : LinkedClass) →
      slice_get linked.classes.items k ≡ Some of_class →
      ((stated : LinkedUse) → OwnStates linked k stated → stated.attribute ≡ attribute → which stated ≡ None) →
      Contains of_class.superclasses.items above → Holds ms linked which attribute above value →
      Holds ms linked which attribute k value

-- two values that are unequal hold
pub record HoldsUnequal (ms : List ModuleTerm) (linked : Linked) (which : LinkedUse → Option LinkedName)
    (attribute k : ℕ) : Type 0 where
  pub one : TypedValue
  pub one_holds : Holds ms linked which attribute k one
  pub other : TypedValue
  pub other_holds : Holds ms linked which attribute k other
  pub unequal : one ≢ other
