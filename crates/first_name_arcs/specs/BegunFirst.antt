-- BegunFirst: with which of the first names that modules define some identifier or value begins, told by the assignment
-- by which the first module that defines a name does (X.680, section 32; docs/PROFILE.md, section 12).
use Rattle.std.specs.Prelude.{◌≡◌, ◌↔◌, ℕ, Bool, List, true, false, Option, None, Some, get_or}
use Rattle.gdmo_first_names.specs.DefinedNames.{DefinesFirstAt}
use Rattle.gdmo_names.specs.BegunNames.{BeginsOne}
use Rattle.gdmo_names.specs.FirstNames.{DefinesName, root_arc}
use Rattle.gdmo_names.specs.PartTerms.{PartTerms}

-- the first assignment that defines some name with which an identifier or a value begins
pub record IsBegunAt (parts : PartTerms) (number : ℕ) : Type 0 where
  pub name : List ℕ
  pub defines : DefinesFirstAt parts name number
  pub begins : BeginsOne parts name

-- exactly these are marked
abbrev pub AreBegun : PartTerms → List Bool → Type 0
AreBegun parts begun = (number : ℕ) → (get_or begun number false ≡ true) ↔ IsBegunAt parts number

-- the number of this assignment of a name, where some module defines it and an identifier or a value begins with it
abbrev pub TellsBegun : PartTerms → List ℕ → Option ℕ → Type 0
TellsBegun parts name None = root_arc name ≡ None → BeginsOne parts name → (m i : ℕ) → ¬ DefinesName parts name m i
TellsBegun parts name (Some number) = DefinesFirstAt parts name number × BeginsOne parts name
