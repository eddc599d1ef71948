-- Examples of filters that trees give, computed: X.711, section 7.5, type CMISFilter; docs/PROFILE.md, section 13.
use Rattle.std.specs.Prelude.{◌≡◌, ℕ, zero, suc, pos, List, [], ◌∷◌, None, Some, true, false, refl}
use Rattle.std.proofs.Common.{arith}
use Rattle.term_values.specs.Der.{identifier_octets, length_octets}
use Rattle.term_values.specs.Octets.{integer_contents, integer_in}
use Rattle.term_values.specs.Oid.{oid_in, subidentifier}
use Rattle.term_values.specs.Tag.{context, universal}
use Rattle.term_values.specs.Tree.{TreeValue, TreeValues}
use Rattle.term_values.specs.Tree.TreeValue.{Constructed, Primitive}
use Rattle.term_values.specs.Tree.TreeValues.{Nothing, Then}
use Rattle.term_values.specs.Typed.TypedValue.{Int}
use Rattle.term_model.specs.declared.filter.Asked.TheVariants as asked
use Rattle.term_model.specs.declared.filter_item.Given.{Given}
use Rattle.term_model.specs.declared.filter_item.Item.{Item}
use Rattle.term_model.specs.declared.filter_item.Item.TheVariants as items
use Rattle.term_model.specs.declared.request.IdRef.TheVariants.{Global, Local}
use Rattle.term_model.specs.FilterDenoting.{DenotesFilter}
use Rattle.term_model.specs.FilterLimits.{is_within_limits, item_count, levels}
use Rattle.term_model.specs.FilterReading.{asked_in, filter_in}
use Rattle.term_model.specs.FilterTrees.{FilterTree, FilterTrees}
use Rattle.term_model.specs.FilterTrees.FilterTree.{OfItem, And, Or, Not}
use Rattle.term_model.specs.FilterTrees.FilterTrees.{Nothing as NoFilters, Then as AndFilters}
use Rattle.term_model.proofs.ExampleNetwork.{load_oid, load_template}

abbrev load : TreeValue
load = Primitive (context 0) (0x88 ∷ 0x37 ∷ 7 ∷ 2 ∷ [])

abbrev seven : TreeValue
seven = Primitive (universal 2) (7 ∷ [])

abbrev given : Given
given = record { id = Global load_oid; value = Some (Int (pos 7)); raw = 2 ∷ 1 ∷ 7 ∷ [] }

abbrev attribute : TreeValues
attribute = Then load (Then seven Nothing)

-- item [8] with equality [0], and the same with subsetOf [5], for which load has no rule
abbrev equal : TreeValue
equal = Constructed (context 8) (Then (Constructed (context 0) attribute) Nothing)

abbrev subset : TreeValue
subset = Constructed (context 8) (Then (Constructed (context 5) attribute) Nothing)

equal_example : asked_in (load_template ∷ []) equal ≡ Some (asked.Good (OfItem (items.Equality given)))
unfolding oid_in subidentifier integer_in identifier_octets length_octets
equal_example = refl

equal_denoted : DenotesFilter (load_template ∷ []) equal (OfItem (items.Equality given))
unfolding subidentifier integer_contents identifier_octets length_octets
equal_denoted = (
  Constructed (context 0) attribute,
  refl,
  (
    attribute,
    refl,
    (
      load,
      seven,
      refl,
      (0, _, (load_oid, (refl, refl, refl), refl), refl),
      (refl, refl, (pos 7, (refl, omega arith), refl, refl)),
    ),
  ),
)

-- not [11] of it, and or [10] of the local number 5 being present [4]
not_example : asked_in (load_template ∷ []) (Constructed (context 11) (Then equal Nothing))
    ≡ Some (asked.Good (Not (OfItem (items.Equality given))))
unfolding oid_in subidentifier integer_in identifier_octets length_octets
not_example = refl

or_example : asked_in [] (Constructed (context 10) (Then (Constructed (context 8) (Then (Constructed (context 4)
    (Then (Primitive (context 1) (5 ∷ [])) Nothing)) Nothing)) Nothing))
    ≡ Some (asked.Good (Or (AndFilters (OfItem (items.Present (Local (pos 5)))) NoFilters)))
unfolding integer_in
or_example = refl

-- an invalid item, with the octets with which its filter is given back
bad_example : asked_in (load_template ∷ []) subset
    ≡ Some (asked.Bad (0xA8 ∷ 0x0B ∷ 0xA5 ∷ 0x09 ∷ 0x80 ∷ 0x04 ∷ 0x88 ∷ 0x37 ∷ 7 ∷ 2 ∷ 2 ∷ 1 ∷ 7 ∷ []))
unfolding oid_in subidentifier integer_in identifier_octets length_octets
bad_example = refl

-- no filter: a SEQUENCE, and not of two
no_filter : filter_in [] (Constructed (universal 16) Nothing) ≡ None
no_filter = refl

not_of_two : filter_in [] (Constructed (context 11) (Then (Constructed (context 9) Nothing)
    (Then (Constructed (context 9) Nothing) Nothing))) ≡ None
not_of_two = refl

-- so many of and round the empty and, 16 levels and 17
abbrev nested : ℕ → FilterTree
nested zero = And NoFilters
nested (suc n) = And (AndFilters (nested n) NoFilters)

deepest : is_within_limits (nested 15) ≡ true
deepest = refl

too_deep : is_within_limits (nested 16) ≡ false
too_deep = refl

-- an item is a level, and one item
item_levels : (item : Item) → levels (And (AndFilters (OfItem item) NoFilters)) ≡ 2
item_levels item = refl

two_items : (item : Item) → item_count (Or (AndFilters (OfItem item) (AndFilters (Not (OfItem item)) NoFilters))) ≡ 2
two_items item = refl
