-- ModuleNames: the names of the modules that there are, CMIP-1 among them, and the faults of names that two modules
-- have, or that a module assigns twice (X.680, section 13; docs/PROFILE.md, section 12).
use Rattle.std.specs.Prelude.{◌≡◌, ◌⊎◌, ◌↔◌, ℕ, List, Bool, true, None, is_some}
use Rattle.std.specs.Borrow.{Bor}
use Rattle.indexmap.specs.IndexMap.{IndexMap}
use Rattle.asn1_names.specs.FirstNames.{found}
use Rattle.asn1_names.specs.ModuleTerms.{AssignmentTerm, ModuleTerm}
use Rattle.asn1_names.specs.NameMeaning.{module_meaning}
use Rattle.asn1_names.specs.NameMeaning.ModuleMeaning.{NoModule}
use Rattle.gdmo_names.specs.DoubleNames.{IsAssignedAgain, IsModuleAgain}
use Rattle.gdmo_names.specs.FaultSets.{Either, FaultSet, OneFault}
use Rattle.gdmo_names.specs.FirstLabelFault.LabelFault.{LabelDouble}
use Rattle.gdmo_types.specs.PlaceFaults.{AtPlaces}

-- a table has a name
abbrev pub has_name : {V S : Type 0} → IndexMap (Bor (List ℕ)) V S → List ℕ → Bool
has_name table name = is_some (found table name)

-- it has the names that it had, and a further one
abbrev pub GainsName : {V S : Type 0} → IndexMap (Bor (List ℕ)) V S → IndexMap (Bor (List ℕ)) V S → List ℕ → Type 0
GainsName before after name = (other : List ℕ) →
    (has_name after other ≡ true) ↔ ((has_name before other ≡ true) ⊎ (name ≡ other))

-- it has exactly the names of the modules, CMIP-1 among them
abbrev pub AreModuleNames : {V S : Type 0} → List ModuleTerm → IndexMap (Bor (List ℕ)) V S → Type 0
AreModuleNames ms table = (name : List ℕ) → (found table name ≡ None) ↔ (module_meaning ms name ≡ NoModule)

-- the names that a module assigns again
abbrev pub AssignedAgain : ModuleTerm → ℕ → AssignmentTerm → FaultSet
AssignedAgain x i assignment =
    OneFault (IsAssignedAgain x.assignments i assignment.name) LabelDouble x.document assignment.name.at

abbrev pub AssignedTwice : ModuleTerm → FaultSet
AssignedTwice x = AtPlaces (AssignedAgain x) x.assignments

-- what is wrong with the names of a module
abbrev pub ModuleAgain : List ModuleTerm → ℕ → ModuleTerm → FaultSet
ModuleAgain ms m x = Either (OneFault (IsModuleAgain ms m x.name) LabelDouble x.document x.name.at) (AssignedTwice x)

-- and with those of all modules
abbrev pub DoubleModuleNames : List ModuleTerm → FaultSet
DoubleModuleNames ms = AtPlaces (ModuleAgain ms) ms
