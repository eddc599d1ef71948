-- Examples of scopes and filters as relations, and of the tests of matching rules, computed: X.711, section 7.5;
-- docs/PROFILE.md, sections 10 and 13.
use Rattle.std.specs.Prelude.{◌≡◌, ℕ, ℤ, pos, negsuc, List, [], ◌∷◌, true, false, length, Some, codes, refl}
use Rattle.std.proofs.Common.{◌∙◌, ap, arith, inl, inr}
use Rattle.std.proofs.lemmas.Bool.{false≢true}
use Rattle.term_values.specs.MatchingKinds.MatchingRule.{Comparison, Equality, Intersection, Ordering, Substrings}
use Rattle.term_values.specs.Typed.{TypedValue}
use Rattle.term_values.specs.Typed.TypedValue.{Int, Many, Octets, Pick, Text}
use Rattle.term_values.specs.Typed.TypedValues.{Nothing as NoMembers, Then as AndMembers}
use Rattle.term_model.specs.declared.filter_item.Given.{Given}
use Rattle.term_model.specs.declared.filter_item.Item.TheVariants as items
use Rattle.term_model.specs.declared.name.Rdn.{Rdn}
use Rattle.term_model.specs.declared.objects.NamedObject.{NamedObject}
use Rattle.term_model.specs.declared.request.IdRef.TheVariants.{Global, Local}
use Rattle.term_model.specs.declared.scope.Scope.TheVariants.{Plain, Level, Upto}
use Rattle.term_model.specs.FilterSize.{nodes}
use Rattle.term_model.specs.FilterTrees.{FilterTree, filters_listed}
use Rattle.term_model.specs.FilterTrees.FilterTree.{OfItem, And, Or, Not}
use Rattle.term_model.specs.FilterTrees.FilterTrees.{Nothing, Then}
use Rattle.term_model.specs.FilterTruth.{IsTrueOf}
use Rattle.term_model.specs.MatchTests.{do_match, places, stand_in}
use Rattle.term_model.specs.Scope.{IsInScope, has_level, level_below}
use Rattle.term_model.specs.Selection.{IsSelected, selected}
use Rattle.term_model.proofs.ExampleNetwork.{element, id_oid, load_oid, network}

-- the root, an element 5 below it, and an element 6 below that one
abbrev part : ℕ → Rdn
part n = record { attribute = id_oid; value = 2 ∷ 1 ∷ n ∷ [] }

abbrev five : List Rdn
five = part 5 ∷ []

abbrev five_six : List Rdn
five_six = part 5 ∷ part 6 ∷ []

abbrev system : List NamedObject
system =
    record { name = []; object = element } ∷ record { name = five; object = element }
    ∷ record { name = five_six; object = element } ∷ []

two_below : level_below [] five_six ≡ Some 2
two_below = refl

one_below : level_below five five_six ≡ Some 1
one_below = refl

-- the whole subtree has the base object itself, and what is two levels below it
base_in_subtree : IsInScope system [] (Plain (pos 2)) []
base_in_subtree = ((0, omega arith, refl), ([], refl, refl))

six_in_subtree : IsInScope system [] (Plain (pos 2)) five_six
six_in_subtree = ((2, omega arith, refl), (five_six, refl, refl))

-- individualLevels 2 has what is two levels below, and nothing else
six_at_level : IsInScope system [] (Level (pos 2)) five_six
six_at_level = ((2, omega arith, refl), (five_six, refl, refl))

five_not_at_level : ¬ IsInScope system [] (Level (pos 2)) five
five_not_at_level within =
    false≢true (ap (λ behind. has_level (Level (pos 2)) (length behind)) within.1.1
    ∙ within.1.2)

-- baseToNthLevel 2 has it too
five_down_to_level : IsInScope system [] (Upto (pos 2)) five
five_down_to_level = ((1, omega arith, refl), (five, refl, refl))

-- the element's load is 7: so 8 is greater or equal and 6 is not, and the empty or is not true
abbrev load_is : ℤ → Given
load_is number = record { id = Global load_oid; value = Some (Int number); raw = [] }

abbrev True : FilterTree → Type 0
True tree = IsTrueOf network.attributes element.attrs tree

eight_is_greater : True (OfItem (items.GreaterOrEqual (load_is (pos 8))))
eight_is_greater = refl

six_is_not_greater : ¬ True (OfItem (items.GreaterOrEqual (load_is (pos 6))))
six_is_not_greater is = false≢true is

six_is_less : True (OfItem (items.LessOrEqual (load_is (pos 6))))
six_is_less = refl

seven_is_equal : True (OfItem (items.Equality (load_is (pos 7))))
seven_is_equal = refl

load_is_present : True (OfItem (items.Present (Global load_oid)))
load_is_present = refl

local_is_not : ¬ True (OfItem (items.Present (Local (pos 2))))
local_is_not is = false≢true is

empty_and : True (And Nothing)
empty_and = tt

empty_or : ¬ True (Or Nothing)
empty_or is = is

not_empty_or : True (Not (Or Nothing))
not_empty_or is = is

both : True (And (Then (OfItem (items.Present (Global load_oid))) (Then (Not (Or Nothing)) Nothing)))
both = (refl, ((λ is. is), tt))

second_of_two : True (Or (Then (Or Nothing) (Then (OfItem (items.Equality (load_is (pos 7)))) Nothing)))
second_of_two = inr (inl refl)

-- the whole subtree with the empty and selects the object 5
selected_five : IsSelected network system [] (Plain (pos 2)) (And Nothing) five
selected_five = (((1, omega arith, refl), (five, refl, refl)), (element, refl, tt))

-- and with load <= 6 too, as 6 <= 7; the empty or selects nothing
selected_by_load : IsSelected network system [] (Plain (pos 2)) (OfItem (items.LessOrEqual (load_is (pos 6)))) five
selected_by_load = (((1, omega arith, refl), (five, refl, refl)), (element, refl, refl))

none_selected : (name : List Rdn) → ¬ IsSelected network system [] (Plain (pos 2)) (Or Nothing) name
none_selected name is = is.1.2

-- the root with elementId 1 and an element 5 below it, both with load 7: the whole subtree without a filter, which is
-- the empty and, has both, with the empty or none, and with `not` of the empty or both
abbrev root_and_five : List NamedObject
root_and_five = record { name = []; object = element } ∷ record { name = five; object = element } ∷ []

both_without_filter : selected network root_and_five [] (Plain (pos 2)) (And Nothing) ≡ [] ∷ five ∷ []
both_without_filter = refl

none_by_empty_or : selected network root_and_five [] (Plain (pos 2)) (Or Nothing) ≡ []
none_by_empty_or = refl

both_by_not_or : selected network root_and_five [] (Plain (pos 2)) (Not (Or Nothing)) ≡ [] ∷ five ∷ []
both_by_not_or = refl

-- with an element 6 below 5: individualLevels 2 has it alone, 0 the root, and -1 nothing
at_level_two : selected network system [] (Level (pos 2)) (And Nothing) ≡ five_six ∷ []
at_level_two = refl

at_level_nought : selected network system [] (Level (pos 0)) (And Nothing) ≡ [] ∷ []
at_level_nought = refl

at_no_level : selected network system [] (Level (negsuc 0)) (And Nothing) ≡ []
at_no_level = refl

-- a list of filters, and how many filters stand in one: `not` and the `or` in it, and the list of that
listed : filters_listed (And Nothing ∷ Or Nothing ∷ []) ≡ Then (And Nothing) (Then (Or Nothing) Nothing)
listed = refl

three_nodes : nodes (Not (Or Nothing)) ≡ 3
three_nodes = refl

-- each rule as a test. EQUALITY and ORDERING of whole numbers:
equal : do_match Equality (Int (pos 7)) (Int (pos 7)) ≡ true
equal = refl

at_most : do_match Ordering (Int (pos 6)) (Int (pos 7)) ≡ true
at_most = refl

not_at_most : do_match Ordering (Int (pos 8)) (Int (pos 7)) ≡ false
not_at_most = refl

-- SUBSTRINGS: initial ab and final ba stand in abba, but not in aba, where they would overlap
abbrev ab_ba : TypedValue
ab_ba = Many (AndMembers (Pick 0 (Text (codes "ab"))) (AndMembers (Pick 2 (Text (codes "ba"))) NoMembers))

they_stand : do_match Substrings ab_ba (Text (codes "abba")) ≡ true
they_stand = refl

they_overlap : do_match Substrings ab_ba (Text (codes "aba")) ≡ false
they_overlap = refl

-- any b stands in abba twice, and not three times
abbrev b : TypedValue
b = Pick 1 (Text (codes "b"))

twice : stand_in (Text (codes "abba")) (AndMembers b (AndMembers b NoMembers)) ≡ true
twice = refl

not_thrice : stand_in (Text (codes "abba")) (AndMembers b (AndMembers b (AndMembers b NoMembers))) ≡ false
not_thrice = refl

-- octets have pieces too, and a whole number has none
octets_stand : stand_in (Octets (1 ∷ 2 ∷ [])) (AndMembers (Pick 2 (Octets (2 ∷ []))) NoMembers) ≡ true
octets_stand = refl

no_text : stand_in (Int (pos 7)) NoMembers ≡ false
no_text = refl

places_from_one : places 1 (codes "ab") ≡ 1 ∷ 2 ∷ []
places_from_one = refl

-- SET-COMPARISON: {2} is within {1, 2}, and {1, 2} is not within {2}; SET-INTERSECTION: they have a common member
abbrev one_two : TypedValue
one_two = Many (AndMembers (Int (pos 1)) (AndMembers (Int (pos 2)) NoMembers))

abbrev just_two : TypedValue
just_two = Many (AndMembers (Int (pos 2)) NoMembers)

within : do_match Comparison just_two one_two ≡ true
within = refl

not_within : do_match Comparison one_two just_two ≡ false
not_within = refl

meeting : do_match Intersection one_two just_two ≡ true
meeting = refl

not_meeting : do_match Intersection (Many NoMembers) just_two ≡ false
not_meeting = refl
