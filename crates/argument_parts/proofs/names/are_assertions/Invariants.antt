-- What is left to be tested.
use Rattle.std.proofs.Common.{◌≡◌, drop}
use Rattle.term_values.specs.Tree.{listed}
use Rattle.term_model.specs.InstanceNames.{are_assertions}
use Rattle.argument_parts.proofs.names.are_assertions.Given as goal

abbrev pub invariant-loop-tree : goal.invariant-loop-tree
invariant-loop-tree l = are_assertions (listed l.trees) ≡ are_assertions (listed (drop l.tree-index l.trees))
