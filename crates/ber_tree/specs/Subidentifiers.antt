-- Subidentifiers, as they are read: X.690, section 8.19.2.
use Rattle.std.specs.Prelude.{ℕ, ◌+◌, ◌-◌, ◌*◌, ◌%◌, ◌^◌, ◌<◌, ◌≤◌, List, [], ◌∷◌, length, slice_index}

-- the number that groups of seven bits stand for, the most significant one first
abbrev pub grouped : List ℕ → ℕ
grouped [] = 0
grouped (octet ∷ octets) = (octet % 128) * 128 ^ length octets + grouped octets

-- this many octets, of which the last one alone says that no more follow
pub record IsSize (octets : List ℕ) (size : ℕ) : Type 0 where
  pub some : 0 < size
  pub few : size ≤ 5
  pub within : size ≤ length octets
  pub last : slice_index octets (size - 1) < 128
  pub more : (k : ℕ) → k + 1 < size → 128 ≤ slice_index octets k
