-- How many constructed values stand inside one another in a tree, the outermost counted: X.690, section 8.1.
use Rattle.std.specs.Prelude.{ℕ, suc, max}
use Rattle.term_values.specs.Tree.{TreeValue, TreeValues}
use Rattle.term_values.specs.Tree.TreeValue.{Primitive, Constructed}
use Rattle.term_values.specs.Tree.TreeValues.{Nothing, Then}

abbrev mutual
  pub nesting : TreeValue → ℕ
  nesting (Primitive tag contents) = 0
  nesting (Constructed tag inside) = suc (nesting_inside inside)

  pub nesting_inside : TreeValues → ℕ
  nesting_inside Nothing = 0
  nesting_inside (Then x xs) = max (nesting x) (nesting_inside xs)
