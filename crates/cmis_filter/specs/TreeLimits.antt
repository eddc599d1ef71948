-- How deep the filter that a tree gives is, and how many items it has, told from the tree alone: docs/PROFILE.md,
-- section 13.
use Rattle.std.specs.Prelude.{ℕ, ◌-◌, ◌==◌, Bool, false, ◌&&◌, ◌||◌, not, Option, None, Some, option_and_then}
use Rattle.std.specs.Prelude.{if◌then◌else◌, is_some}
use Rattle.term_values.specs.FilterTrees.{is_context}
use Rattle.term_values.specs.Tree.{TreeValue, TreeValues}
use Rattle.term_values.specs.Tree.TreeValue.{Primitive, Constructed}
use Rattle.term_values.specs.Tree.TreeValues.{Nothing, Then}

-- the filter has more than so many levels: an item [8] has one, any other form one more than what it holds
abbrev mutual
  pub is_deeper : ℕ → TreeValue → Bool
  is_deeper most (Primitive tag contents) = most == 0
  is_deeper most (Constructed tag inside) = most == 0 || not (is_context 8 tag) && is_some_deeper (most - 1) inside

  pub is_some_deeper : ℕ → TreeValues → Bool
  is_some_deeper most Nothing = false
  is_some_deeper most (Then x xs) = is_deeper most x || is_some_deeper most xs

-- how many items there may be beside those of the filter where there may be so many: none where it has more
abbrev mutual
  pub items_left : ℕ → TreeValue → Option ℕ
  items_left most (Primitive tag contents) = Some most
  items_left most (Constructed tag inside) =
      if is_context 8 tag then (if most == 0 then None else Some (most - 1)) else all_items_left most inside

  pub all_items_left : ℕ → TreeValues → Option ℕ
  all_items_left most Nothing = Some most
  all_items_left most (Then x xs) = option_and_then (λ left. all_items_left left xs) (items_left most x)

-- more than 16 levels or more than 256 items
abbrev pub is_large : TreeValue → Bool
is_large tree = is_deeper 16 tree || not (is_some (items_left 256 tree))
