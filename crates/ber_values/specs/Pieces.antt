-- One piece of a substrings item: X.711, section 7.5.
use Rattle.std.specs.Prelude.{Bool, false, ◌&&◌, ◌||◌}
use Rattle.term_values.specs.FilterTrees.{is_context, are_attribute_parts}
use Rattle.term_values.specs.Tree.{TreeValue}
use Rattle.term_values.specs.Tree.TreeValue.{Primitive, Constructed}

abbrev pub is_piece : TreeValue → Bool
is_piece (Constructed tag inside) = (is_context 0 tag || is_context 1 tag || is_context 2 tag) && are_attribute_parts
    inside
is_piece (Primitive tag contents) = false
