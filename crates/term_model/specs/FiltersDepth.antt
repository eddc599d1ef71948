-- No filter of a list has as many nodes as the list.
use Rattle.std.specs.Prelude.{◌+◌, ◌≤◌, List, [], ◌∷◌}
use Rattle.std.proofs.Common.{arith}
use denote.Param.Weighed.{most}
use Rattle.term_model.specs.FilterTrees.{FilterTree, filters_listed}
use Rattle.term_model.specs.FilterSize.{nodes, nodes_filters}

pub most_below_filters : (xs : List FilterTree) → most (λ x. nodes x + 1) xs ≤ nodes_filters (filters_listed xs)
most_below_filters [] = omega arith
most_below_filters (x ∷ xs) = omega (arith, most_below_filters xs)
