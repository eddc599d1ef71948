use Rattle.std.proofs.Common.{◌≡◌, drop}
use Rattle.term_values.specs.Tree.{listed}
use Rattle.cmis_filter.specs.TreeLimits.{all_items_left}
use Rattle.cmis_filter.proofs.filter_limits.+items.Given as goal

abbrev pub invariant-all_items_left-loop-tree : goal.invariant-all_items_left-loop-tree
invariant-all_items_left-loop-tree l =
    all_items_left l.most (listed l.tree-items) ≡ all_items_left l.left (listed (drop l.tree-index l.tree-items))
