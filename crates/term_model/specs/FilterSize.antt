-- How many filters stand in a filter, itself among them, and one more for each list.
use Rattle.std.specs.Prelude.{ℕ, ◌+◌}
use Rattle.term_model.specs.FilterTrees.{FilterTree, FilterTrees}
use Rattle.term_model.specs.FilterTrees.FilterTree.{OfItem, And, Or, Not}
use Rattle.term_model.specs.FilterTrees.FilterTrees.{Nothing, Then}

abbrev mutual
  pub nodes : FilterTree → ℕ
  nodes (OfItem item) = 1
  nodes (And filters) = nodes_filters filters + 1
  nodes (Or filters) = nodes_filters filters + 1
  nodes (Not filter) = nodes filter + 1

  pub nodes_filters : FilterTrees → ℕ
  nodes_filters Nothing = 1
  nodes_filters (Then x xs) = nodes x + 1 + nodes_filters xs
