-- RangeSteps: how rising pairs are made, one range after the other (X.680, sections 50 and 51).
use Rattle.std.specs.Prelude.{◌⊎◌, ◌≤ℤ◌, ◌<ℤ◌, ◌≤◌, ◌<◌, ◌+ℤ◌, ℕ, ℤ, pos, [], ◌∷◌, length, slice_index_or, int_le}
use Rattle.std.specs.Prelude.{if◌then◌else◌}
use Rattle.std.specs.Int.{int_max, int_min}
use Rattle.term_values.specs.Syntaxes.{Bounds}

-- some pair holds the number
abbrev pub Held : Bounds → ℤ → Type 0
Held [] n = ⊥
Held (pair ∷ pairs) n = ((pair.0 ≤ℤ n) × (n ≤ℤ pair.1)) ⊎ Held pairs n

-- the first pair begins behind the number next to this one
abbrev pub BeginsPast : ℤ → Bounds → Type 0
BeginsPast n [] = Unit {0}
BeginsPast n (pair ∷ pairs) = (n +ℤ pos 1) <ℤ pair.0

-- rising pairs
abbrev pub Rises : Bounds → Type 0
Rises [] = Unit {0}
Rises (pair ∷ pairs) = (pair.0 ≤ℤ pair.1) × BeginsPast pair.1 pairs × Rises pairs

-- each pair begins at the number or before it
abbrev pub BeginBy : ℤ → Bounds → Type 0
BeginBy n [] = Unit {0}
BeginBy n (pair ∷ pairs) = (pair.0 ≤ℤ n) × BeginBy n pairs

-- a range is added to rising pairs that begin no later
pub record Joins (before : Bounds) (pair : ℤ × ℤ) (after : Bounds) : Type 0 where
  pub rises : Rises before → Rises after
  pub begin : (n : ℤ) → pair.0 ≤ℤ n → BeginBy n before → BeginBy n after
  pub held : Rises before → BeginBy pair.0 before → (n : ℤ) → Held after n → Held before n ⊎ Held (pair ∷ []) n
  pub kept : Rises before → BeginBy pair.0 before → (n : ℤ) → Held before n ⊎ Held (pair ∷ []) n → Held after n

-- pairs by their first numbers
abbrev pub IsInOrder : Bounds → Type 0
IsInOrder pairs = (i j : ℕ) (other : ℤ × ℤ) → i ≤ j → j < length pairs →
    (slice_index_or pairs i other).0 ≤ℤ (slice_index_or pairs j other).0

-- what two ranges both hold
abbrev pub common_pair : ℤ × ℤ → ℤ × ℤ → Bounds
common_pair x y = if int_le (int_max x.0 y.0) (int_min x.1 y.1) then (int_max x.0 y.0, int_min x.1 y.1) ∷ [] else []
