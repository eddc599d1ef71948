use Rattle.std.proofs.Common.{◌≡◌, ◌++◌, drop, reverse}
use Rattle.term_values.specs.Der.{written_all}
use Rattle.term_values.specs.Tree.{listed}
use Rattle.ber_tree.specs.Writing.{Extends}
use Rattle.ber_tree.proofs.tree_writing.+writing.Given as goal

abbrev pub invariant-write_trees_backwards-loop-i : goal.invariant-write_trees_backwards-loop-i
invariant-write_trees_backwards-loop-i l =
    (l.into.items ≡ l.fn.into.items ++ reverse (written_all (listed (drop l.i l.items))))
    × Extends l.fn.into.items l.into.items
