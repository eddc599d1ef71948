-- Reaching: the elements that are reached from some of them, by the targets of each.
use Rattle.std.specs.Prelude.{◌≡◌, ◌<◌, ◌+◌, ◌⊎◌, ◌↔◌, ℕ, List, Bool, length, Some}
use Rattle.std.specs.List.{slice_get}
use Rattle.link_graphs.specs.Leading.{LeadsAtOnce}
use Rattle.link_graphs.specs.Marking.{IsListed, IsMarked, IsTarget, unmarked}

-- an element is one of these, or one that is reached leads to it
pub data IsReached (lists : List (List ℕ)) (from : List ℕ) : ℕ → Type 0 where
  begun : {element : ℕ} → IsListed from element → element < length lists → IsReached lists from element
  onward : {element target : ℕ} → IsReached lists from element → LeadsAtOnce lists element target →
      IsReached lists from target

-- exactly those are marked, and exactly those are listed
pub record AreReached (lists : List (List ℕ)) (from : List ℕ) (marks : List Bool) (listed : List ℕ) : Type 0 where
  pub size : length marks ≡ length lists
  pub marked : (e : ℕ) → IsMarked marks e ↔ IsReached lists from e
  pub listed_too : (e : ℕ) → IsListed listed e ↔ IsReached lists from e

-- a target of one of these elements, and of the one at a place
abbrev pub IsTargetOf : List (List ℕ) → List ℕ → ℕ → Type 0
IsTargetOf lists elements t = (e : ℕ) × IsListed elements e × IsTarget lists e t

abbrev pub IsTargetAt : List (List ℕ) → List ℕ → ℕ → ℕ → Type 0
IsTargetAt lists elements place t = (e : ℕ) × (slice_get elements place ≡ Some e) × IsTarget lists e t

-- exactly the targets of these elements are marked, and exactly those are listed
abbrev pub IsSomeTarget : List (List ℕ) → List ℕ → ℕ → Type 0
IsSomeTarget lists elements t = (t < length lists) × IsTargetOf lists elements t

pub record AreTargets (lists : List (List ℕ)) (elements : List ℕ) (marks : List Bool) (listed : List ℕ) : Type 0 where
  pub size : length marks ≡ length lists
  pub marked : (t : ℕ) → IsMarked marks t ↔ IsSomeTarget lists elements t
  pub listed_too : (t : ℕ) → IsListed listed t ↔ IsSomeTarget lists elements t

-- some elements were added to those that were marked and listed; none was taken away, and no other was added
pub record AddsSome (IsSome : ℕ → Type 0) (before after : List Bool) (listed then_listed : List ℕ) : Type 0 where
  pub size : length after ≡ length before
  pub stays : (e : ℕ) → IsMarked before e → IsMarked after e
  pub added : (e : ℕ) → IsSome e → e < length before → IsMarked after e
  pub only : (e : ℕ) → IsMarked after e → IsMarked before e ⊎ IsSome e
  pub kept : (k e : ℕ) → slice_get listed k ≡ Some e → slice_get then_listed k ≡ Some e
  pub listed_new : (k e : ℕ) → slice_get then_listed k ≡ Some e → (slice_get listed k ≡ Some e) ⊎ IsSome e
  pub listed_too : ((e : ℕ) → IsMarked before e → IsListed listed e) → (e : ℕ) → IsMarked after e →
      IsListed then_listed e
  pub marked_too : ((e : ℕ) → IsListed listed e → IsMarked before e) → (e : ℕ) → IsListed then_listed e →
      IsMarked after e
  pub count : length then_listed + unmarked after ≡ length listed + unmarked before
