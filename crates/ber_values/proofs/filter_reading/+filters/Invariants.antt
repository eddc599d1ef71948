use Rattle.std.proofs.Common.{◌≡◌, drop}
use Rattle.term_values.specs.FilterTrees.{are_filters}
use Rattle.term_values.specs.Tree.{listed}
use Rattle.ber_values.proofs.filter_reading.+filters.Given as goal

abbrev pub invariant-are_filters-loop-tree : goal.invariant-are_filters-loop-tree
invariant-are_filters-loop-tree l =
    are_filters (listed l.tree-items) ≡ are_filters (listed (drop l.tree-index l.tree-items))
