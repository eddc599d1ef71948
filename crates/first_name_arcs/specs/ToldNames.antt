-- ToldNames: what is told of the first names that some assignments are the first to define, and for which arcs these
-- stand (X.680, section 32; docs/PROFILE.md, section 12).
use Rattle.std.specs.Prelude.{◌≡◌, ◌≤◌, ◌∷◌, [], ℕ, List, Option, None, Some, Contains, length, map, slice_get}
use Rattle.std.specs.declared.alloc.Global.{Global}
use Rattle.std.specs.declared.vec.Vec.{Vec}
use Rattle.asn1_names.specs.AssignmentNumbers.{Numbered}
use Rattle.linked_parts.specs.declared.linked.LinkedFirstName.{LinkedFirstName}
use Rattle.gdmo_first_names.specs.DefinedNames.{DefinesFirstAt}
use Rattle.gdmo_linking.specs.LinkedTables.{StandsForArcs}
use Rattle.gdmo_names.specs.DoubleNames.{ValueHasArcs}
use Rattle.gdmo_names.specs.PartTerms.{PartTerms}

-- a first name and its arcs
abbrev pub told_name : LinkedFirstName → List ℕ × List ℕ
told_name x = (x.name.text, x.arcs.items)

abbrev pub told_if : Option LinkedFirstName → List LinkedFirstName
told_if None = []
told_if (Some x) = x ∷ []

-- the arcs of an assignment's value, where it has some that are at most 64
abbrev pub TellsFew : PartTerms → Numbered → Option (Vec ℕ Global) → Type 0
TellsFew parts x None = (arcs : List ℕ) → ValueHasArcs parts x.in_module x.place arcs → ¬ (length arcs ≤ 64)
TellsFew parts x (Some arcs) = ValueHasArcs parts x.in_module x.place arcs.items × (length arcs.items ≤ 64)

-- for which arcs the name stands that the assignment with this number is the first to define, or that for none
pub record StandsAt (parts : PartTerms) (number : ℕ) (name arcs : List ℕ) : Type 0 where
  pub defines : DefinesFirstAt parts name number
  pub stands : StandsForArcs parts name arcs

abbrev pub TellsName : PartTerms → ℕ → Option LinkedFirstName → Type 0
TellsName parts number None = (name arcs : List ℕ) → ¬ StandsAt parts number name arcs
TellsName parts number (Some x) = StandsAt parts number x.name.text x.arcs.items

-- the names of these assignments are told, and no others
pub record TellNames (parts : PartTerms) (numbers : List ℕ) (names : List LinkedFirstName) : Type 0 where
  pub right : (name arcs : List ℕ) → Contains (map told_name names) (name, arcs) → StandsForArcs parts name arcs
  pub all : (name arcs : List ℕ) (k number : ℕ) → slice_get numbers k ≡ Some number →
      StandsAt parts number name arcs → Contains (map told_name names) (name, arcs)
