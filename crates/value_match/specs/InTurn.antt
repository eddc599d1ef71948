-- Lists of numbers one behind the other, one for each number in turn.
use Rattle.std.specs.Prelude.{ℕ, zero, suc, List, [], ◌++◌}

-- those of the numbers below `count`
unfoldable pub in_turn : (ℕ → List ℕ) → ℕ → List ℕ
in_turn numbers zero = []
in_turn numbers (suc count) = in_turn numbers count ++ numbers count

-- how many numbers identifier octets may be, each of which has 64 bits
unfoldable pub mark_count : ℕ
mark_count = 18446744073709551616
