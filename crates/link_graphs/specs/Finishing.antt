-- Finishing: an order of the elements such that whatever stands from an element on up to one of its targets behind it
-- is reached from that target. A search in depth finishes the elements in such an order.
use Rattle.std.specs.Prelude.{◌≡◌, ◌<◌, ◌≤◌, ℕ, List, length, Some}
use Rattle.std.specs.List.{slice_get}
use Rattle.link_graphs.specs.Leading.{LeadsAtOnce, Reaches}

-- all that stands in the order from one place up to another is reached from an element
abbrev pub ReachesAll : List (List ℕ) → List ℕ → ℕ → ℕ → ℕ → Type 0
ReachesAll lists order element low high =
    (k y : ℕ) → low ≤ k → k ≤ high → slice_get order k ≡ Some y → Reaches lists element y

-- an element stands in the order, and all that stands from a place on up to it is reached from it
pub record StandsBack (lists : List (List ℕ)) (order : List ℕ) (low element : ℕ) : Type 0 where
  pub place : ℕ
  pub stands : slice_get order place ≡ Some element
  pub reaches : ReachesAll lists order element low place

pub record IsFinishing (lists : List (List ℕ)) (order : List ℕ) : Type 0 where
  pub elements : (k e : ℕ) → slice_get order k ≡ Some e → e < length lists
  pub every : (e : ℕ) → e < length lists → (k : ℕ) × (slice_get order k ≡ Some e)
  pub once : (j k e : ℕ) → slice_get order j ≡ Some e → slice_get order k ≡ Some e → j ≡ k
  pub back : (k e t : ℕ) → slice_get order k ≡ Some e → LeadsAtOnce lists e t → StandsBack lists order k t
