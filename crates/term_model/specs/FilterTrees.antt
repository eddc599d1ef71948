-- Filters, as contracts see `Filter` and `Filters`: X.711, section 7.5, type CMISFilter.
use Rattle.std.specs.Prelude.{List, [], ◌∷◌}
use Rattle.term_model.specs.declared.filter_item.Item.{Item}

mutual
  pub data FilterTree : Type 0 where
    -- a condition on one attribute
    OfItem : Item → FilterTree
    -- all of these, some of these, not this
    And : FilterTrees → FilterTree
    Or : FilterTrees → FilterTree
    Not : FilterTree → FilterTree

  pub data FilterTrees : Type 0 where
    Nothing : FilterTrees
    Then : FilterTree → FilterTrees → FilterTrees

-- the filters of a list
abbrev pub filters_listed : List FilterTree → FilterTrees
filters_listed [] = Nothing
filters_listed (x ∷ xs) = Then x (filters_listed xs)
