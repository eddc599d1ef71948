-- Examples of trees whose levels and items are counted, computed: docs/PROFILE.md, section 13.
use Rattle.std.specs.Prelude.{◌≡◌, true, false, None, Some, refl}
use Rattle.term_values.specs.Tag.{context}
use Rattle.term_values.specs.Tree.{TreeValue}
use Rattle.term_values.specs.Tree.TreeValue.{Constructed}
use Rattle.term_values.specs.Tree.TreeValues.{Nothing, Then}
use Rattle.cmis_filter.specs.TreeLimits.{is_deeper, items_left}

-- an item [8], and not [11] of an or [10] of two of them
abbrev item : TreeValue
item = Constructed (context 8) Nothing

abbrev joined : TreeValue
joined = Constructed (context 11) (Then (Constructed (context 10) (Then item (Then item Nothing))) Nothing)

one_level : is_deeper 1 item ≡ false
one_level = refl

no_level : is_deeper 0 item ≡ true
no_level = refl

three_levels : is_deeper 3 joined ≡ false
three_levels = refl

not_two : is_deeper 2 joined ≡ true
not_two = refl

one_more : items_left 3 joined ≡ Some 1
one_more = refl

too_many : items_left 1 joined ≡ None
too_many = refl
