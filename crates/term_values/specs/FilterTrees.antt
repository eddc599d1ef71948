-- Which trees are a CMISFilter: X.711, section 7.5, type CMISFilter; docs/PROFILE.md. Attribute values are of any
-- syntax.
use Rattle.std.specs.Prelude.{ℕ, Bool, true, false, ◌&&◌, ◌||◌, is_some}
use Rattle.term_values.specs.Octets.{integer_in}
use Rattle.term_values.specs.Oid.{oid_in}
use Rattle.term_values.specs.Tag.{context, is_same_tag}
use Rattle.term_values.specs.Tree.{TreeValue, TreeValues}
use Rattle.term_values.specs.Tree.TreeValue.{Primitive, Constructed}
use Rattle.term_values.specs.Tree.TreeValues.{Nothing, Then}
use Rattle.term_values.specs.declared.tag.Tag.{Tag}

abbrev pub is_context : ℕ → Tag → Bool
is_context number tag = is_same_tag (context number) tag

-- AttributeId: globalForm [0] OBJECT IDENTIFIER or localForm [1] INTEGER
abbrev pub is_attribute_id : TreeValue → Bool
is_attribute_id (Primitive tag contents) =
    is_context 0 tag && is_some (oid_in contents) || is_context 1 tag && is_some (integer_in contents)
is_attribute_id (Constructed tag inside) = false

-- the components of Attribute: AttributeId, ANY
abbrev pub are_attribute_parts : TreeValues → Bool
are_attribute_parts (Then id (Then value Nothing)) = is_attribute_id id
are_attribute_parts _ = false

-- pieces: initial [0], any [1], final [2]
abbrev pub are_pieces : TreeValues → Bool
are_pieces Nothing = true
are_pieces (Then (Constructed tag inside) rest) =
    (is_context 0 tag || is_context 1 tag || is_context 2 tag) && are_attribute_parts inside && are_pieces rest
are_pieces (Then (Primitive tag contents) rest) = false

abbrev pub is_one_attribute_id : TreeValues → Bool
is_one_attribute_id (Then id Nothing) = is_attribute_id id
is_one_attribute_id _ = false

-- an assertion about one attribute, by its number: equality 0, greaterOrEqual 2, lessOrEqual 3, subsetOf 5, supersetOf
-- 6, nonNullSetIntersection 7
abbrev pub is_assertion : Tag → Bool
is_assertion tag =
    is_context 0 tag || is_context 2 tag || is_context 3 tag || is_context 5 tag || is_context 6 tag || is_context 7 tag

-- an item: an assertion, substrings 1, or present 4, which is explicit
abbrev pub is_item : TreeValue → Bool
is_item (Primitive tag contents) = false
is_item (Constructed tag inside) =
    is_assertion tag && are_attribute_parts inside || is_context 1 tag && are_pieces inside
    || is_context 4 tag && is_one_attribute_id inside

abbrev pub is_one_item : TreeValues → Bool
is_one_item (Then item Nothing) = is_item item
is_one_item _ = false

abbrev mutual
  -- item [8] explicit, and [9], or [10], not [11] explicit
  pub is_filter : TreeValue → Bool
  is_filter (Primitive tag contents) = false
  is_filter (Constructed tag inside) =
      is_context 8 tag && is_one_item inside || (is_context 9 tag || is_context 10 tag) && are_filters inside
      || is_context 11 tag && is_one_filter inside

  pub are_filters : TreeValues → Bool
  are_filters Nothing = true
  are_filters (Then x xs) = is_filter x && are_filters xs

  pub is_one_filter : TreeValues → Bool
  is_one_filter Nothing = false
  is_one_filter (Then x Nothing) = is_filter x
  is_one_filter (Then x (Then y ys)) = false
