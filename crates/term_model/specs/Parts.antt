-- The parts of a tree under a tag: what stands inside it, its contents octets, and the identifier that these denote;
-- X.690, section 8.1.
use Rattle.std.specs.Prelude.{ℕ, ℤ, List, Option, None, Some, option_and_then, if◌then◌else◌}
use Rattle.term_values.specs.declared.tag.Tag.{Tag}
use Rattle.term_values.specs.Octets.{integer_in}
use Rattle.term_values.specs.Oid.{oid_in}
use Rattle.term_values.specs.Tag.{is_same_tag}
use Rattle.term_values.specs.Tree.{TreeValue, TreeValues}
use Rattle.term_values.specs.Tree.TreeValue.{Primitive, Constructed}
use Rattle.term_values.specs.Tree.TreeValues.{Nothing, Then}

abbrev pub inside_under : Tag → TreeValue → Option TreeValues
inside_under tag (Constructed own inside) = if is_same_tag own tag then Some inside else None
inside_under tag (Primitive own contents) = None

abbrev pub contents_under : Tag → TreeValue → Option (List ℕ)
contents_under tag (Primitive own contents) = if is_same_tag own tag then Some contents else None
contents_under tag (Constructed own inside) = None

abbrev pub oid_under : Tag → TreeValue → Option (List ℕ)
oid_under tag tree = option_and_then oid_in (contents_under tag tree)

abbrev pub integer_under : Tag → TreeValue → Option ℤ
integer_under tag tree = option_and_then integer_in (contents_under tag tree)

-- exactly one value, or two values
abbrev pub one : TreeValues → Option TreeValue
one (Then first Nothing) = Some first
one _ = None

abbrev pub two : TreeValues → Option (TreeValue × TreeValue)
two (Then first (Then second Nothing)) = Some (first, second)
two _ = None

abbrev pub one_under : Tag → TreeValue → Option TreeValue
one_under tag tree = option_and_then one (inside_under tag tree)

abbrev pub two_under : Tag → TreeValue → Option (TreeValue × TreeValue)
two_under tag tree = option_and_then two (inside_under tag tree)
