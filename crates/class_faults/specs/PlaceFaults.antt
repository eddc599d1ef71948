-- PlaceFaults: the faults of the elements of a list, each told with its place (docs/PROFILE.md, section 18).
use Rattle.std.specs.Prelude.{◌≡◌, ◌<◌, ℕ, List, Some, slice_get}
use Rattle.class_faults.specs.FaultSets.{FaultSet}

-- those of each element
abbrev pub AtPlaces : {X : Type 0} → (ℕ → X → FaultSet) → List X → FaultSet
AtPlaces {X} Faults xs kind document token =
    (j : ℕ) × (x : X) × (slice_get xs j ≡ Some x) × Faults j x kind document token

-- those of the elements before a place
abbrev pub BeforePlace : {X : Type 0} → (ℕ → X → FaultSet) → List X → ℕ → FaultSet
BeforePlace {X} Faults xs k kind document token =
    (j : ℕ) × (x : X) × (j < k) × (slice_get xs j ≡ Some x) × Faults j x kind document token
