-- Parts of what is written: X.690, sections 8.3 and 8.19.2.
use Rattle.std.specs.Prelude.{◌≡◌, ℕ, ◌+◌, ◌-◌, ◌/◌, ◌%◌, List, [], ◌∷◌, Bool, true, false, nat_lt, map, length, take}
use Rattle.std.specs.Prelude.{if◌then◌else◌}
use Rattle.term_values.specs.Octets.{octets}

-- the group of seven bits of a number that counts units, which is left out where it and those before it are zero
abbrev pub group : ℕ → ℕ → List ℕ
group unit n = if nat_lt n unit then [] else (128 + n / unit % 128) ∷ []

-- the last octets of a number, with each bit turned or as they are
abbrev pub last_octets : Bool → ℕ → ℕ → List ℕ
last_octets true count n = map (λ octet. 255 - octet) (octets count n)
last_octets false count n = octets count n

-- what stood there before begins what stands there now
pub record Extends (old new : List ℕ) : Type 0 where
  pub begun : take (length old) new ≡ old
