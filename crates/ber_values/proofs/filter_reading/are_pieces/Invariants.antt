use Rattle.std.proofs.Common.{◌≡◌, drop}
use Rattle.term_values.specs.FilterTrees.{are_pieces}
use Rattle.term_values.specs.Tree.{listed}
use Rattle.ber_values.proofs.filter_reading.are_pieces.Given as goal

abbrev pub invariant-loop-tree : goal.invariant-loop-tree
invariant-loop-tree l = are_pieces (listed l.tree-items) ≡ are_pieces (listed (drop l.tree-index l.tree-items))
