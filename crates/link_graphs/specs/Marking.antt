-- Marking: marks of all elements to which an element leads.
use Rattle.std.specs.Prelude.{◌≡◌, ◌<◌, ◌≤◌, ◌+◌, ◌⊎◌, ℕ, suc, List, [], ◌∷◌, Bool, true, false, length, Some}
use Rattle.std.specs.List.{slice_get}
use Rattle.link_graphs.specs.Leading.{LeadsAtOnce, targets_of}

-- an element is marked
abbrev pub IsMarked : List Bool → ℕ → Type 0
IsMarked marks element = slice_get marks element ≡ Some true

-- an element is in a list
abbrev pub IsListed : List ℕ → ℕ → Type 0
IsListed elements element = (k : ℕ) × (slice_get elements k ≡ Some element)

-- to whatever a marked element leads is marked
abbrev pub IsClosed : List (List ℕ) → List Bool → Type 0
IsClosed lists marks = (e t : ℕ) → IsMarked marks e → LeadsAtOnce lists e t → IsMarked marks t

-- how many are not marked
abbrev pub unmarked : List Bool → ℕ
unmarked [] = 0
unmarked (true ∷ marks) = unmarked marks
unmarked (false ∷ marks) = suc (unmarked marks)

-- how many steps are left at most
abbrev pub marking_steps : List Bool → List ℕ → ℕ
marking_steps marks found = unmarked marks + unmarked marks + length found

-- what was marked stays so, some elements are marked, and each that is marked anew is one of these, and was found
pub record MarksSome (IsSome : ℕ → Type 0) (before after : List Bool) (found_before found_after : List ℕ)
    : Type 0 where
  pub size : length after ≡ length before
  pub stays : (e : ℕ) → IsMarked before e → IsMarked after e
  pub marked : (e : ℕ) → IsSome e → e < length before → IsMarked after e
  pub anew : (e : ℕ) → IsMarked after e → IsMarked before e ⊎ (IsSome e × IsListed found_after e)
  pub kept : (e : ℕ) → IsListed found_before e → IsListed found_after e
  pub found : (e : ℕ) → IsListed found_after e → IsListed found_before e ⊎ IsMarked after e
  pub fewer : marking_steps after found_after ≤ marking_steps before found_before

-- the element itself
abbrev pub IsIt : ℕ → ℕ → Type 0
IsIt element e = e ≡ element

-- one of the targets of an element, before a place
abbrev pub IsTargetBefore : List (List ℕ) → ℕ → ℕ → ℕ → Type 0
IsTargetBefore lists element place e =
    (k : ℕ) × (k < place) × (slice_get (targets_of lists element) k ≡ Some e)

-- one of the targets of an element
abbrev pub IsTarget : List (List ℕ) → ℕ → ℕ → Type 0
IsTarget lists element e = IsListed (targets_of lists element) e
