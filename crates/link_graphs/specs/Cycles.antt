-- Cycles: which elements lead back to themselves, and an order in which each of the others stands behind its targets.
use Rattle.std.specs.Prelude.{◌≡◌, ◌<◌, ℕ, List, Bool, true, length, Some}
use Rattle.std.specs.List.{slice_get}
use Rattle.link_graphs.specs.Leading.{LeadsAtOnce, Leads}

-- the marks of exactly the elements that lead back to themselves
pub record MarkCycles (lists : List (List ℕ)) (marks : List Bool) : Type 0 where
  pub size : length marks ≡ length lists
  pub leads : (e : ℕ) → slice_get marks e ≡ Some true → Leads lists e e
  pub marked : (e : ℕ) → Leads lists e e → slice_get marks e ≡ Some true

-- each element once, and each that doesn't lead back to itself behind those to which it leads at once
pub record IsBehindTargets (lists : List (List ℕ)) (order : List ℕ) : Type 0 where
  pub elements : (k e : ℕ) → slice_get order k ≡ Some e → e < length lists
  pub every : (e : ℕ) → e < length lists → (k : ℕ) × (slice_get order k ≡ Some e)
  pub once : (j k e : ℕ) → slice_get order j ≡ Some e → slice_get order k ≡ Some e → j ≡ k
  pub behind : (k e t : ℕ) → slice_get order k ≡ Some e → ¬ Leads lists e e → LeadsAtOnce lists e t →
      (j : ℕ) × (j < k) × (slice_get order j ≡ Some t)
