-- How many octets there are, as a number of 64 bits: 2 ^ 64 - 1 where there are more.
use Rattle.std.specs.Prelude.{ℕ, List, length, min}

abbrev pub counted : ℕ → ℕ
counted n = min n 18446744073709551615

abbrev pub octet_count : List ℕ → ℕ
octet_count octets = counted (length octets)
