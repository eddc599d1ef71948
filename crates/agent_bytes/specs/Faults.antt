-- Counts of faults. A count is below 2^64. At 2^64 - 1 it stays, and is taken as risen.
use Rattle.std.specs.Prelude.{◌≡◌, ℕ, ◌+◌, ◌-◌, ◌^◌, ◌<◌, ◌⊎◌, min}

-- the count after one more
abbrev pub one_more : ℕ → ℕ
one_more count = min (count + 1) (2 ^ 64 - 1)

-- the count rose between two moments
abbrev pub Rose : ℕ → ℕ → Type 0
Rose before after = (before < after) ⊎ (before + 1 ≡ 2 ^ 64)
