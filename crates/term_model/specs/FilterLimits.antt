-- How deep a filter may be and how many items it may have: docs/PROFILE.md, section 13.
use Rattle.std.specs.Prelude.{ℕ, suc, ◌+◌, max, Bool, ◌&&◌, nat_le}
use Rattle.term_model.specs.FilterTrees.{FilterTree, FilterTrees}
use Rattle.term_model.specs.FilterTrees.FilterTree.{OfItem, And, Or, Not}
use Rattle.term_model.specs.FilterTrees.FilterTrees.{Nothing, Then}

-- how many filters stand inside one another, the outermost and the item counted
abbrev mutual
  pub levels : FilterTree → ℕ
  levels (OfItem item) = 1
  levels (And filters) = suc (most_levels filters)
  levels (Or filters) = suc (most_levels filters)
  levels (Not filter) = suc (levels filter)

  pub most_levels : FilterTrees → ℕ
  most_levels Nothing = 0
  most_levels (Then filter filters) = max (levels filter) (most_levels filters)

-- how many items a filter has; a substrings item is one, whatever pieces it has
abbrev mutual
  pub item_count : FilterTree → ℕ
  item_count (OfItem item) = 1
  item_count (And filters) = item_counts filters
  item_count (Or filters) = item_counts filters
  item_count (Not filter) = item_count filter

  pub item_counts : FilterTrees → ℕ
  item_counts Nothing = 0
  item_counts (Then filter filters) = item_count filter + item_counts filters

-- at most 16 levels and at most 256 items
abbrev pub is_within_limits : FilterTree → Bool
is_within_limits filter = nat_le (levels filter) 16 && nat_le (item_count filter) 256
