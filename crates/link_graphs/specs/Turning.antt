-- Turning: a graph turned round, in which each element leads to those that lead to it.
use Rattle.std.specs.Prelude.{◌≡◌, ◌↔◌, ◌++◌, ◌∷◌, [], ℕ, List, length, slice_set}
use Rattle.link_graphs.specs.Leading.{LeadsAtOnce, targets_of}

-- an element leads at once to another in the one graph where that one leads to it in the other
pub record IsTurned (lists turned : List (List ℕ)) : Type 0 where
  pub size : length turned ≡ length lists
  pub leads : (e t : ℕ) → LeadsAtOnce lists e t ↔ LeadsAtOnce turned t e

-- one more target of an element
abbrev pub with_target : List (List ℕ) → ℕ → ℕ → List (List ℕ)
with_target lists element target = slice_set lists element (targets_of lists element ++ target ∷ [])
