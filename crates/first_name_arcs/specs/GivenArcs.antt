-- GivenArcs: arcs that modules give to first names, in the order of the assignments, each list of arcs by its number:
-- which are other than an earlier module's (X.680, section 32; docs/PROFILE.md, section 12).
use Rattle.std.specs.Prelude.{◌≡◌, ◌≢◌, ◌==◌, ℕ, Bool, List, true, false, Option, None, Some, not, slice_get, take}
use Rattle.std.specs.Prelude.{if◌then◌else◌}
use Rattle.gdmo_names.specs.FaultSets.{FaultSet, OneFault}
use Rattle.gdmo_names.specs.FirstLabelFault.LabelFault.{LabelDouble}
use Rattle.gdmo_names.specs.SectionFaults.{NoFault}
use Rattle.first_name_arcs.specs.declared.given_arcs.GivenArcs.{GivenArcs}
use Rattle.first_name_arcs.specs.declared.given_arcs.SeenArcs.{SeenArcs}
use Rattle.first_name_arcs.specs.declared.given_arcs.SeenArcs.TheVariants.{One, Several}

-- arcs that are given, as the code has them
abbrev pub Given : Type 0
Given = GivenArcs

-- some of the given arcs are other ones, of the same name
pub record HasOther (given : List (Option Given)) (first list : ℕ) : Type 0 where
  pub k : ℕ
  pub other : Given
  pub stands : slice_get given k ≡ Some (Some other)
  pub same : other.first ≡ first
  pub unequal : other.list ≢ list

abbrev pub GivenFaults : List (Option Given) → Option Given → FaultSet
GivenFaults given None = NoFault
GivenFaults given (Some own) =
    OneFault (HasOther given own.first own.list) LabelDouble own.document own.name.now.at

-- those of the arcs at a place
abbrev pub UnequalBefore : List (Option Given) → ℕ → Option Given → FaultSet
UnequalBefore given place own = GivenFaults (take place given) own

-- what is kept of the arcs that a name was given
abbrev pub is_other : Option SeenArcs → ℕ → Bool
is_other None list = false
is_other (Some (One first)) list = not (first == list)
is_other (Some Several) list = true

abbrev pub seen_after : Option SeenArcs → ℕ → SeenArcs
seen_after None list = One list
seen_after (Some (One first)) list = if first == list then One list else Several
seen_after (Some Several) list = Several

abbrev pub UnequalAt : Option SeenArcs → Given → FaultSet
UnequalAt seen own = OneFault (is_other seen own.list ≡ true) LabelDouble own.document own.name.now.at

-- the arcs of a name are all one list, of which it has some, or unequal ones
pub record HasOne (given : List (Option Given)) (first list : ℕ) : Type 0 where
  pub k : ℕ
  pub own : Given
  pub stands : slice_get given k ≡ Some (Some own)
  pub named : own.first ≡ first
  pub is : own.list ≡ list

abbrev pub TellsSeen : List (Option Given) → ℕ → Option SeenArcs → Type 0
TellsSeen given first None = (k : ℕ) (own : Given) → slice_get given k ≡ Some (Some own) → own.first ≢ first
TellsSeen given first (Some (One list)) = HasOne given first list × ¬ HasOther given first list
TellsSeen given first (Some Several) = (list : ℕ) → HasOther given first list

abbrev pub TellSeen : List (Option Given) → (ℕ → Option SeenArcs) → Type 0
TellSeen given told = (first : ℕ) → TellsSeen given first (told first)
