use Rattle.std.proofs.Common.{◌≡◌, take}
use Rattle.rose_frames.proofs.tree_copying.+copying_trees.Given as goal

abbrev pub invariant-copy_trees-loop-tree : goal.invariant-copy_trees-loop-tree
invariant-copy_trees-loop-tree l = l.items.items ≡ take l.tree-index l.tree-items
