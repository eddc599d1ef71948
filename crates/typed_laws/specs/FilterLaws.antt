-- A CMISFilter by its form is one by its alternatives: X.711, section 7.5.
use Rattle.std.specs.Prelude.{◌≡◌, is_some}
use Rattle.term_values.specs.CmipTypes.{filter_choice}
use Rattle.term_values.specs.Decoding.{value_in}
use Rattle.term_values.specs.FilterTrees.{is_filter}
use Rattle.term_values.specs.Tree.{TreeValue}

-- a tree is a filter exactly where a value of the CHOICE is read from it
abbrev pub FilterIsChoice : Type 0
FilterIsChoice = (tree : TreeValue) → is_some (value_in filter_choice tree) ≡ is_filter tree
