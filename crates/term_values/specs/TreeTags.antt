-- The tag of a tree, and the tag that is due: X.690, section 8.14. An implicit tag takes the place of the tag of what
-- is tagged, and the contents stay.
use Rattle.std.specs.Prelude.{Option, None, Some}
use Rattle.term_values.specs.Tree.{TreeValue}
use Rattle.term_values.specs.Tree.TreeValue.{Primitive, Constructed}
use Rattle.term_values.specs.declared.tag.Tag.{Tag}

abbrev pub tag_of : TreeValue → Tag
tag_of (Primitive tag contents) = tag
tag_of (Constructed tag inside) = tag

-- the tag of a value: its own, or the implicit one in its place
abbrev pub due : Option Tag → Tag → Tag
due None own = own
due (Some tag) own = tag
