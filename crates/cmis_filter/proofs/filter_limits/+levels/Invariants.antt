use Rattle.std.proofs.Common.{◌≡◌, drop}
use Rattle.term_values.specs.Tree.{listed}
use Rattle.cmis_filter.specs.TreeLimits.{is_some_deeper}
use Rattle.cmis_filter.proofs.filter_limits.+levels.Given as goal

abbrev pub invariant-is_some_deeper-loop-tree : goal.invariant-is_some_deeper-loop-tree
invariant-is_some_deeper-loop-tree l =
    is_some_deeper l.most (listed l.tree-items) ≡ is_some_deeper l.most (listed (drop l.tree-index l.tree-items))
