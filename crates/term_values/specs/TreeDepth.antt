-- What stands inside a tree has fewer nodes than the tree.
use Rattle.std.specs.Prelude.{◌≤◌, max}
use Rattle.std.proofs.Common.{arith}
use Rattle.term_values.specs.declared.tag.Tag.{Tag}
use Rattle.term_values.specs.declared.tree.Body.{Body}
use Rattle.term_values.specs.declared.tree.Body.TheVariants.{Prim, Cons}
use Rattle.term_values.specs.declared.tree.Tree.TheDeep.{deep-Body}
use Rattle.term_values.specs.Tree.{nodes}
use Rattle.term_values.specs.TreeView.{tree_of}

pub depth_below_nodes : (tag : Tag) (body : Body) → max (deep-Body body) 0 ≤ nodes (tree_of tag body)
depth_below_nodes tag (Prim contents) = omega arith
depth_below_nodes tag (Cons inside) = omega arith
