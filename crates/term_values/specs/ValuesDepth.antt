-- No value of a list has as many nodes as the list.
use Rattle.std.specs.Prelude.{◌+◌, ◌≤◌, List, [], ◌∷◌}
use Rattle.std.proofs.Common.{arith}
use denote.Param.Weighed.{most}
use Rattle.term_values.specs.Typed.{TypedValue, listed}
use Rattle.term_values.specs.ValueSize.{nodes, nodes_values}

pub most_below_values : (xs : List TypedValue) → most (λ x. nodes x + 1) xs ≤ nodes_values (listed xs)
most_below_values [] = omega arith
most_below_values (x ∷ xs) = omega (arith, most_below_values xs)
