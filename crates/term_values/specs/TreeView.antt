-- How a tree of the program is seen: its tag with its contents octets, or with the values inside it.
use Rattle.term_values.specs.declared.tag.Tag.{Tag}
use Rattle.term_values.specs.declared.tree.Body.{Body}
use Rattle.term_values.specs.declared.tree.Body.TheVariants.{Prim, Cons}
use Rattle.term_values.specs.Tree.{TreeValue}
use Rattle.term_values.specs.Tree.TreeValue.{Primitive, Constructed}

abbrev pub tree_of : Tag → Body → TreeValue
tree_of tag (Prim contents) = Primitive tag contents
tree_of tag (Cons inside) = Constructed tag inside
