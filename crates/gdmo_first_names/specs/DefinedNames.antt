-- DefinedNames: which assignments define first names, by the numbers of the assignments through all modules, and which
-- names are assigned (X.680, section 32; docs/PROFILE.md, section 12).
use Rattle.std.specs.Prelude.{◌≡◌, ◌<◌, ◌++◌, ◌∷◌, ◌&&◌, [], ℕ, List, Bool, Option, None, Some, slice_get}
use Rattle.std.specs.Prelude.{if◌then◌else◌}
use Rattle.std.specs.Borrow.{Bor}
use Rattle.indexmap.specs.IndexMap.{IndexMap}
use Rattle.asn1_names.specs.AssignmentNumbers.{Numbered, numbered_at}
use Rattle.asn1_names.specs.FirstNames.{first_of, found}
use Rattle.asn1_names.specs.StandardModule.{is_same_name}
use Rattle.gdmo_first_names.specs.declared.assigned_names.AssignedNames.{AssignedNames}
use Rattle.gdmo_names.specs.FirstNames.{DefinesName, DefinesNameFirst, root_arc}
use Rattle.gdmo_names.specs.PartTerms.{PartTerms, module_terms_of}

-- the assignment with this number defines the name, which is no root's
pub record DefinesAt (parts : PartTerms) (name : List ℕ) (number : ℕ) : Type 0 where
  pub numbered : Numbered
  pub at : numbered_at (module_terms_of parts) number ≡ Some numbered
  pub no_root : root_arc name ≡ None
  pub defines : DefinesName parts name numbered.in_module numbered.place

-- and no module before its own defines it
pub record DefinesFirstAt (parts : PartTerms) (name : List ℕ) (number : ℕ) : Type 0 where
  pub numbered : Numbered
  pub at : numbered_at (module_terms_of parts) number ≡ Some numbered
  pub no_root : root_arc name ≡ None
  pub defines : DefinesNameFirst parts name numbered.in_module numbered.place

-- the numbers of exactly the assignments that define first names, in their order
pub record AreDefiners (parts : PartTerms) (numbers : List ℕ) : Type 0 where
  pub rise : (j k one other : ℕ) → j < k → slice_get numbers j ≡ Some one → slice_get numbers k ≡ Some other →
      one < other
  pub right : (k number : ℕ) → slice_get numbers k ≡ Some number → (name : List ℕ) × DefinesAt parts name number
  pub all : (name : List ℕ) (number : ℕ) → DefinesAt parts name number → (k : ℕ) × (slice_get numbers k ≡ Some number)

-- the number of the assignment by which the first module that defines a name does, or that none does
abbrev pub TellsDefined : PartTerms → List ℕ → Option ℕ → Type 0
TellsDefined parts name None = root_arc name ≡ None → (m i : ℕ) → ¬ DefinesName parts name m i
TellsDefined parts name (Some number) = DefinesFirstAt parts name number

abbrev pub AreDefined : {S : Type 0} → PartTerms → IndexMap (Bor (List ℕ)) ℕ S → Type 0
AreDefined parts table = (name : List ℕ) → TellsDefined parts name (found table name)

-- an assignment has the name
pub record AssignsName (parts : PartTerms) (name : List ℕ) (number : ℕ) : Type 0 where
  pub numbered : Numbered
  pub at : numbered_at (module_terms_of parts) number ≡ Some numbered
  pub named : numbered.assignment.name.text ≡ name

abbrev pub TellsAssigned : PartTerms → List ℕ → Option ℕ → Type 0
TellsAssigned parts name None = (number : ℕ) → ¬ AssignsName parts name number
TellsAssigned parts name (Some number) = AssignsName parts name number

-- of the numbers below this one the first that has the fact, or that none has
abbrev pub TellsFirstBelow : (ℕ → Type 0) → ℕ → Option ℕ → Type 0
TellsFirstBelow Has most None = (number : ℕ) → number < most → ¬ Has number
TellsFirstBelow Has most (Some number) = Has number × ((other : ℕ) → other < number → ¬ Has other)

-- the same of the assignments below a number
pub record AreDefinersBelow (parts : PartTerms) (most : ℕ) (numbers : List ℕ) : Type 0 where
  pub rise : (j k one other : ℕ) → j < k → slice_get numbers j ≡ Some one → slice_get numbers k ≡ Some other →
      one < other
  pub below : (k number : ℕ) → slice_get numbers k ≡ Some number → number < most
  pub right : (k number : ℕ) → slice_get numbers k ≡ Some number → (name : List ℕ) × DefinesAt parts name number
  pub all : (name : List ℕ) (number : ℕ) → number < most → DefinesAt parts name number →
      (k : ℕ) × (slice_get numbers k ≡ Some number)

pub record AreNamesBelow (parts : PartTerms) (most : ℕ) (assigned : AssignedNames) : Type 0 where
  pub are_assigned : (name : List ℕ) → TellsFirstBelow (AssignsName parts name) most (found assigned.names name)
  pub are_definers : AreDefinersBelow parts most assigned.definers.items
  pub are_defined : (name : List ℕ) → TellsFirstBelow (DefinesAt parts name) most (found assigned.defined name)

-- a name was told that an assignment defines, where it does
abbrev pub if_so : Bool → List ℕ → ℕ → List ℕ → Option ℕ
if_so is_definer key number name = if is_definer && is_same_name key name then Some number else None

abbrev pub more_if : Bool → List ℕ → ℕ → List ℕ
more_if is_definer numbers number = if is_definer then numbers ++ number ∷ [] else numbers

pub record TellsDefiner (is_definer : Bool) (key : List ℕ) (number : ℕ) (before after : AssignedNames) : Type 0 where
  pub names : (name : List ℕ) → found after.names name ≡ found before.names name
  pub definers : after.definers.items ≡ more_if is_definer before.definers.items number
  pub defined : (name : List ℕ) → found after.defined name ≡
      first_of (found before.defined name) (if_so is_definer key number name)

pub record AreAssignedNames (parts : PartTerms) (assigned : AssignedNames) : Type 0 where
  pub are_assigned : (name : List ℕ) → TellsAssigned parts name (found assigned.names name)
  pub are_definers : AreDefiners parts assigned.definers.items
  pub are_defined : AreDefined parts assigned.defined
