-- NumberedTypes: which assigned types contain themselves, by the numbers of their assignments, and in which order each
-- other type stands behind those that it names (X.680, section 16; docs/PROFILE.md, section 11).
use Rattle.std.specs.Prelude.{◌≡◌, ◌<◌, ℕ, List, Bool, true, Some, length, slice_get}
use Rattle.asn1_names.specs.AssignmentNumbers.{Numbered, assignment_count, numbered_at}
use Rattle.asn1_names.specs.Containment.{IsCyclic}
use Rattle.asn1_names.specs.ModuleTerms.{ModuleTerm}
use Rattle.asn1_names.specs.TypeWalks.{LeadsTo}

-- the assignment with the number assigns a type that contains itself
pub record IsCyclicNumber (ms : List ModuleTerm) (number : ℕ) : Type 0 where
  pub numbered : Numbered
  pub at : numbered_at ms number ≡ Some numbered
  pub cyclic : IsCyclic ms numbered.in_module numbered.place

-- the marks of exactly the assignments of types that contain themselves
pub record MarkCyclic (ms : List ModuleTerm) (marks : List Bool) : Type 0 where
  pub size : length marks ≡ assignment_count ms
  pub cyclic : (number : ℕ) → slice_get marks number ≡ Some true → IsCyclicNumber ms number
  pub marked : (number : ℕ) → IsCyclicNumber ms number → slice_get marks number ≡ Some true

-- the number of each assignment once, and each whose type doesn't contain itself behind those of the types that it
-- names
pub record IsBehindNamed (ms : List ModuleTerm) (order : List ℕ) : Type 0 where
  pub numbers : (k number : ℕ) → slice_get order k ≡ Some number → number < assignment_count ms
  pub every : (number : ℕ) → number < assignment_count ms → (k : ℕ) × (slice_get order k ≡ Some number)
  pub once : (j k number : ℕ) → slice_get order j ≡ Some number → slice_get order k ≡ Some number → j ≡ k
  pub behind : (k number named : ℕ) → slice_get order k ≡ Some number → ¬ IsCyclicNumber ms number →
      LeadsTo ms number named → (j : ℕ) × (j < k) × (slice_get order j ≡ Some named)
