-- Attributes of an object in their order: X.720, section 5; the order is this project's own.
use Rattle.std.specs.Prelude.{◌&&◌, Bool, List, [], ◌∷◌, true}
use Rattle.std.specs.Cmp.Lexicographic.{slice_cmp}
use Rattle.std.specs.List.Sorted.{IsStrictlySortedBy}
use Rattle.std.specs.Ordering.{is_lt, nat_cmp}
use Rattle.term_model.specs.declared.object.Attribute.{Attribute}
use Rattle.term_model.specs.ObjectAttributes.{identifiers}

-- they stand by rising identifier, each identifier once
abbrev pub AreRising : List Attribute → Type 0
AreRising attributes = IsStrictlySortedBy (slice_cmp nat_cmp) (identifiers attributes)

-- each of them stands before the next one
abbrev pub do_rise : List Attribute → Bool
do_rise [] = true
do_rise (first ∷ []) = true
do_rise (first ∷ (second ∷ others)) = is_lt (slice_cmp nat_cmp first.id second.id) && do_rise (second ∷ others)
