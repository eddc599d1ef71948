-- AssignedValues: the values of the assignments of all modules, by their numbers (X.680, sections 13.1 and 16;
-- docs/PROFILE.md, sections 11 and 18).
use Rattle.std.specs.Prelude.{◌≡◌, ℕ, List, Option, None, Some, length, slice_get}
use Rattle.term_values.specs.Typed.{TypedValue}
use Rattle.asn1_names.specs.AssignmentNumbers.{Numbered, assignment_count, numbered_at}
use Rattle.asn1_names.specs.ModuleTerms.{ModuleTerm}
use Rattle.asn1_names.specs.NameMeaning.{Meaning, assigned_meaning}
use Rattle.asn1_leaf_values.specs.Arcs.{NamedArcs}
use Rattle.linked_parts.specs.declared.linked.Linked.{Linked}
use Rattle.filled_syntaxes.specs.LinkedMeanings.{AssignsValue, linked_arcs}

-- what an assignment gives its name
abbrev pub numbered_meaning : Numbered → Meaning
numbered_meaning x = assigned_meaning x.in_module x.place x.assignment.assigned

-- the value that a name is assigned, or that it is assigned none: it is a type's, its type has no syntax, or its text
-- denotes no value of this
abbrev pub TellsAssigned : List ModuleTerm → NamedArcs → Meaning → Option TypedValue → Type 0
TellsAssigned ms names meant None = (value : TypedValue) → ¬ AssignsValue ms names meant value
TellsAssigned ms names meant (Some value) = AssignsValue ms names meant value

-- what is told of the assignment with this number
pub record IsToldOf (ms : List ModuleTerm) (names : NamedArcs) (values : List (Option TypedValue)) (number : ℕ)
    (x : Numbered) : Type 0 where
  pub value : Option TypedValue
  pub at : slice_get values number ≡ Some value
  pub tells : TellsAssigned ms names (numbered_meaning x) value

-- one value, or none, for each assignment of all modules, by its number
pub record AreAssignedValues (ms : List ModuleTerm) (linked : Linked) (values : List (Option TypedValue)) : Type 0 where
  pub count : length values ≡ assignment_count ms
  pub each : (number : ℕ) (x : Numbered) → numbered_at ms number ≡ Some x →
      IsToldOf ms (linked_arcs linked) values number x
