-- The truth of a filter, as a test that computes: X.711, section 7.5, type CMISFilter.
use Rattle.std.specs.Prelude.{List, Bool, true, false, Option, Some, is_some, ◌&&◌, ◌||◌, not}
use Rattle.term_values.specs.Typed.{TypedValue}
use Rattle.term_values.specs.MatchingKinds.MatchingRule.{Equality, Ordering, Substrings, Comparison, Intersection}
use Rattle.term_model.specs.declared.filter_item.Item.{Item}
use Rattle.term_model.specs.declared.filter_item.Item.TheVariants as items
use Rattle.term_model.specs.declared.object.Attribute.{Attribute}
use Rattle.term_model.specs.declared.schema.AttrRec.{AttrRec}
use Rattle.term_model.specs.FilterTrees.{FilterTree, FilterTrees}
use Rattle.term_model.specs.FilterTrees.FilterTree.{OfItem, And, Or, Not}
use Rattle.term_model.specs.FilterTrees.FilterTrees.{Nothing, Then}
use Rattle.term_model.specs.FilterTruth.{held_value, pieces_value}
use Rattle.term_model.specs.MatchTests.{do_match}

abbrev pub do_meet : (TypedValue → TypedValue → Bool) → Option TypedValue → Option TypedValue → Bool
do_meet matched (Some asserted) (Some held) = matched asserted held
do_meet matched _ _ = false

abbrev pub is_true_item : List AttrRec → List Attribute → Item → Bool
is_true_item records attributes (items.Equality given) =
    do_meet (do_match Equality) given.value (held_value records attributes given.id)
is_true_item records attributes (items.Substrings pieces value) =
    do_meet (do_match Substrings) value (pieces_value records attributes pieces)
is_true_item records attributes (items.GreaterOrEqual given) =
    do_meet (λ asserted held. do_match Ordering held asserted) given.value (held_value records attributes given.id)
is_true_item records attributes (items.LessOrEqual given) =
    do_meet (do_match Ordering) given.value (held_value records attributes given.id)
is_true_item records attributes (items.Present id) = is_some (held_value records attributes id)
is_true_item records attributes (items.SubsetOf given) =
    do_meet (do_match Comparison) given.value (held_value records attributes given.id)
is_true_item records attributes (items.SupersetOf given) =
    do_meet (λ asserted held. do_match Comparison held asserted) given.value (held_value records attributes given.id)
is_true_item records attributes (items.Meets given) =
    do_meet (do_match Intersection) given.value (held_value records attributes given.id)

abbrev mutual
  pub is_true_of : List AttrRec → List Attribute → FilterTree → Bool
  is_true_of records attributes (OfItem item) = is_true_item records attributes item
  is_true_of records attributes (And filters) = are_true_of records attributes filters
  is_true_of records attributes (Or filters) = is_some_true_of records attributes filters
  is_true_of records attributes (Not filter) = not (is_true_of records attributes filter)

  pub are_true_of : List AttrRec → List Attribute → FilterTrees → Bool
  are_true_of records attributes Nothing = true
  are_true_of records attributes (Then filter filters) =
      is_true_of records attributes filter && are_true_of records attributes filters

  pub is_some_true_of : List AttrRec → List Attribute → FilterTrees → Bool
  is_some_true_of records attributes Nothing = false
  is_some_true_of records attributes (Then filter filters) =
      is_true_of records attributes filter || is_some_true_of records attributes filters
