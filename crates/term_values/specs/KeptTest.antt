-- A test whether octets are one value, in the form in which an ANY is kept: X.690, sections 8.1 and 10.1. The relation
-- is `IsKept` of term_values.
use Rattle.std.specs.Prelude.{ℕ, ◌+◌, ◌^◌, List, Bool, true, false, ◌&&◌, nat_lt, Option, None, Some, option_and_then}
use Rattle.std.specs.Prelude.{length}
use Rattle.term_values.specs.BerReading.{tree_at, alone}
use Rattle.term_values.specs.Der.{written, written_all}
use Rattle.term_values.specs.FilterTrees.{is_filter}
use Rattle.term_values.specs.SameValue.{same_octets}
use Rattle.term_values.specs.Tree.{TreeValue, TreeValues}
use Rattle.term_values.specs.Tree.TreeValue.{Primitive, Constructed}
use Rattle.term_values.specs.Tree.TreeValues.{Nothing, Then}
use Rattle.term_values.specs.Typed.{TypedValue}
use Rattle.term_values.specs.Typed.TypedValue.{Raw}
use Rattle.term_values.specs.declared.tag.Tag.{Tag}

-- one of the four classes and a number of 32 bits, but universal 0
abbrev pub is_tag : Tag → Bool
is_tag tag = nat_lt tag.class 4 && (nat_lt tag.number (2 ^ 32) && nat_lt 0 (tag.class + tag.number))

abbrev mutual
  -- such tags, and lengths of 32 bits
  pub is_writable : TreeValue → Bool
  is_writable (Primitive tag contents) = is_tag tag && nat_lt (length contents) (2 ^ 32)
  is_writable (Constructed tag inside) =
      is_tag tag && (nat_lt (length (written_all inside)) (2 ^ 32) && are_writable inside)

  pub are_writable : TreeValues → Bool
  are_writable Nothing = true
  are_writable (Then x xs) = is_writable x && are_writable xs

-- the contents octets in their one form
abbrev pub tree_contents : TreeValue → List ℕ
tree_contents (Primitive tag contents) = contents
tree_contents (Constructed tag inside) = written_all inside

-- their length has 32 bits
abbrev pub is_short : TreeValue → Bool
is_short tree = nat_lt (length (tree_contents tree)) (2 ^ 32)

-- the one value that the octets are, of any depth: no value has as many others round it as there are octets
abbrev pub tree_of : List ℕ → Option TreeValue
tree_of octets = option_and_then alone (tree_at (length octets) octets)

-- a tree was found, and these octets are the one form in which it is written
abbrev pub kept_as : List ℕ → (TreeValue → Bool) → Option TreeValue → Bool
kept_as octets which None = false
kept_as octets which (Some tree) = which tree && (is_writable tree && same_octets octets (written tree))

abbrev pub is_kept : List ℕ → (TreeValue → Bool) → Bool
is_kept octets which = kept_as octets which (tree_of octets)

abbrev pub any_fits : TypedValue → Bool
any_fits (Raw octets) = is_kept octets (λ tree. true)
any_fits _ = false

abbrev pub filter_fits : TypedValue → Bool
filter_fits (Raw octets) = is_kept octets is_filter
filter_fits _ = false
