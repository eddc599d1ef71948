-- Leading: which elements of a list lead to which, by the targets of each: places in that list. A place past the end of
-- the list leads nowhere.
use Rattle.std.specs.Prelude.{◌≡◌, ◌<◌, ◌⊎◌, ℕ, List, [], length, map, Some, slice_index_or}
use Rattle.std.specs.List.{slice_get}
use Rattle.link_graphs.specs.declared.graph.Graph.{Graph}

-- the targets of each element of a graph
abbrev pub target_lists : Graph → List (List ℕ)
target_lists graph = map (λ targets. targets.items) graph.targets.items

-- the targets of an element
abbrev pub targets_of : List (List ℕ) → ℕ → List ℕ
targets_of lists element = slice_index_or lists element []

-- an element leads to another in one step
pub record LeadsAtOnce (lists : List (List ℕ)) (element target : ℕ) : Type 0 where
  pub place : ℕ
  pub stands : slice_get (targets_of lists element) place ≡ Some target
  pub within : target < length lists

-- an element leads to another, directly or not
pub data Leads (lists : List (List ℕ)) (element : ℕ) : ℕ → Type 0 where
  at_once : {target : ℕ} → LeadsAtOnce lists element target → Leads lists element target
  onward : {between target : ℕ} → Leads lists element between → LeadsAtOnce lists between target →
      Leads lists element target

-- an element leads to another, or is it
abbrev pub Reaches : List (List ℕ) → ℕ → ℕ → Type 0
Reaches lists element other = (element ≡ other) ⊎ Leads lists element other
