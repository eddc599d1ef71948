-- UnequalNames: first names, with which identifiers or values begin, to which modules give unequal arcs, as a set of
-- faults; and what is told of the arcs that an assignment gives (X.680, section 32; docs/PROFILE.md, section 12).
use Rattle.std.specs.Prelude.{◌≡◌, ℕ, List, Option, None, Some, slice_get}
use Rattle.asn1_names.specs.ModuleTerms.{AssignmentTerm, ModuleTerm}
use Rattle.key_numbers.specs.NumberedLists.{IsList, Row}
use Rattle.gdmo_first_names.specs.DefinedNames.{DefinesAt, DefinesFirstAt}
use Rattle.gdmo_names.specs.BegunNames.{BeginsOne}
use Rattle.gdmo_names.specs.DoubleNames.{IsUnequalAgain, ValueHasArcs}
use Rattle.gdmo_names.specs.FirstLabelFault.{LabelFault}
use Rattle.gdmo_names.specs.FirstLabelFault.LabelFault.{LabelDouble}
use Rattle.gdmo_names.specs.PartTerms.{PartTerms, module_terms_of}
use Rattle.first_name_arcs.specs.GivenArcs.{Given}

-- a name to which an earlier module gives other arcs, where this one assigns it
pub record UnequalNames (parts : PartTerms) (kind : LabelFault) (document token : ℕ) : Type 0 where
  pub m : ℕ
  pub i : ℕ
  pub home : ModuleTerm
  pub assignment : AssignmentTerm
  pub home_at : slice_get (module_terms_of parts) m ≡ Some home
  pub at : slice_get home.assignments i ≡ Some assignment
  pub again : IsUnequalAgain parts m i assignment.name.text
  pub is_in : home.document ≡ document
  pub is_at : assignment.name.at ≡ token
  pub is_double : LabelDouble ≡ kind

-- the assignment with this number gives arcs to a name with which an identifier or a value begins
pub record IsGiven (parts : PartTerms) (row : Row) (number : ℕ) (own : Given) : Type 0 where
  pub name : List ℕ
  pub defines : DefinesAt parts name number
  pub begins : BeginsOne parts name
  pub is_first : DefinesFirstAt parts name own.first
  pub arcs : List ℕ
  pub list : IsList row own.list arcs
  pub has : ValueHasArcs parts defines.numbered.in_module defines.numbered.place arcs
  pub home : ModuleTerm
  pub home_at : slice_get (module_terms_of parts) defines.numbered.in_module ≡ Some home
  pub is_in : home.document ≡ own.document
  pub is_named : defines.numbered.assignment.name ≡ own.name.now

abbrev pub TellsGiven : PartTerms → Row → ℕ → Option Given → Type 0
TellsGiven parts row number None = (name arcs : List ℕ) (d : DefinesAt parts name number) → BeginsOne parts name →
    ¬ ValueHasArcs parts d.numbered.in_module d.numbered.place arcs
TellsGiven parts row number (Some own) = IsGiven parts row number own
