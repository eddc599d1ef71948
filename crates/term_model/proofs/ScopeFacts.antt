-- Scopes and filters of two small systems, computed from the definitions alone.
use Rattle.std.specs.Prelude.{◌≡◌, ℕ, ℤ, pos, negsuc, List, [], ◌∷◌, Bool, true, false, Option, None, Some, codes, refl}
use Rattle.term_values.specs.declared.charset.Charset.TheVariants.{Ia5}
use Rattle.term_values.specs.Syntaxes.TypeSyntax.{Integer, SetOf, TextString}
use Rattle.term_values.specs.Typed.{TypedValue}
use Rattle.term_values.specs.Typed.TypedValue.{Int, Many, Pick, Text}
use Rattle.term_values.specs.Typed.TypedValues.{Nothing as NoMembers, Then as AndMembers}
use Rattle.term_model.specs.declared.filter_item.Given.{Given}
use Rattle.term_model.specs.declared.filter_item.Item.TheVariants as items
use Rattle.term_model.specs.declared.filter_item.Piece.{Piece}
use Rattle.term_model.specs.declared.name.Rdn.{Rdn}
use Rattle.term_model.specs.declared.object.Attribute.{Attribute}
use Rattle.term_model.specs.declared.objects.NamedObject.{NamedObject}
use Rattle.term_model.specs.declared.request.IdRef.{IdRef}
use Rattle.term_model.specs.declared.request.IdRef.TheVariants.{Global, Local}
use Rattle.term_model.specs.declared.schema.AttrRec.{AttrRec}
use Rattle.term_model.specs.declared.scope.Scope.TheVariants.{Plain, Level, Upto}
use Rattle.term_model.specs.FilterTests.{is_true_of}
use Rattle.term_model.specs.FilterTrees.{FilterTree, FilterTrees}
use Rattle.term_model.specs.FilterTrees.FilterTree.{OfItem, And, Or, Not}
use Rattle.term_model.specs.FilterTrees.FilterTrees.{Nothing, Then}
use Rattle.term_model.specs.FilterTruth.{asserted_pieces, is_valid}
use Rattle.term_model.specs.Scope.{names_in_scope}
use Rattle.term_model.specs.Selection.{selected}
use Rattle.term_model.proofs.ExampleNetwork.{element, id_oid, load_oid, network, ordered}

-- the root, an element 5 below it, and an element 6 below that one; beside 5 an element 50
abbrev part : ℕ → Rdn
part n = record { attribute = id_oid; value = 2 ∷ 1 ∷ n ∷ [] }

abbrev five_six : List Rdn
five_six = part 5 ∷ part 6 ∷ []

abbrev system : List NamedObject
system =
    record { name = []; object = element } ∷ record { name = part 5 ∷ []; object = element }
    ∷ record { name = five_six; object = element } ∷ record { name = part 50 ∷ []; object = element } ∷ []

base_object_alone : names_in_scope system [] (Plain (pos 0)) ≡ [] ∷ []
base_object_alone = refl

first_level : names_in_scope system [] (Plain (pos 1)) ≡ (part 5 ∷ []) ∷ (part 50 ∷ []) ∷ []
first_level = refl

subtree : names_in_scope system (part 5 ∷ []) (Plain (pos 2)) ≡ (part 5 ∷ []) ∷ five_six ∷ []
subtree = refl

-- individualLevels
second_level : names_in_scope system [] (Level (pos 2)) ≡ five_six ∷ []
second_level = refl

level_of_the_base : names_in_scope system [] (Level (pos 0)) ≡ [] ∷ []
level_of_the_base = refl

no_level : names_in_scope system [] (Level (negsuc 0)) ≡ []
no_level = refl

-- baseToNthLevel
to_first_level : names_in_scope system [] (Upto (pos 1)) ≡ [] ∷ (part 5 ∷ []) ∷ (part 50 ∷ []) ∷ []
to_first_level = refl

-- a tree of five: the root, 5 below it, 6 below that, 7 below that, and 50 beside 5
abbrev five_six_seven : List Rdn
five_six_seven = part 5 ∷ part 6 ∷ part 7 ∷ []

abbrev tree : List NamedObject
tree =
    record { name = []; object = element } ∷ record { name = part 5 ∷ []; object = element }
    ∷ record { name = five_six; object = element } ∷ record { name = five_six_seven; object = element }
    ∷ record { name = part 50 ∷ []; object = element } ∷ []

all_of_it : names_in_scope tree [] (Plain (pos 2)) ≡ [] ∷ (part 5 ∷ []) ∷ five_six ∷ five_six_seven
    ∷ (part 50 ∷ []) ∷ []
all_of_it = refl

level_one : names_in_scope tree [] (Level (pos 1)) ≡ (part 5 ∷ []) ∷ (part 50 ∷ []) ∷ []
level_one = refl

level_two : names_in_scope tree [] (Level (pos 2)) ≡ five_six ∷ []
level_two = refl

level_three : names_in_scope tree [] (Level (pos 3)) ≡ five_six_seven ∷ []
level_three = refl

level_four : names_in_scope tree [] (Level (pos 4)) ≡ []
level_four = refl

to_level_nought : names_in_scope tree [] (Upto (pos 0)) ≡ [] ∷ []
to_level_nought = refl

to_level_two : names_in_scope tree [] (Upto (pos 2)) ≡ [] ∷ (part 5 ∷ []) ∷ five_six ∷ (part 50 ∷ []) ∷ []
to_level_two = refl

to_level_three : names_in_scope tree [] (Upto (pos 3)) ≡ [] ∷ (part 5 ∷ []) ∷ five_six ∷ five_six_seven
    ∷ (part 50 ∷ []) ∷ []
to_level_three = refl

-- from a base that isn't the root
below_five : names_in_scope tree (part 5 ∷ []) (Plain (pos 1)) ≡ five_six ∷ []
below_five = refl

two_below_five : names_in_scope tree (part 5 ∷ []) (Level (pos 2)) ≡ five_six_seven ∷ []
two_below_five = refl

to_one_below_five : names_in_scope tree (part 5 ∷ []) (Upto (pos 1)) ≡ (part 5 ∷ []) ∷ five_six ∷ []
to_one_below_five = refl

leaf_alone : names_in_scope tree five_six_seven (Plain (pos 2)) ≡ five_six_seven ∷ []
leaf_alone = refl

-- no object is in a scope of another number, nor of a level below zero
no_such_scope : names_in_scope tree [] (Plain (pos 3)) ≡ []
no_such_scope = refl

to_no_level : names_in_scope tree [] (Upto (negsuc 0)) ≡ []
to_no_level = refl

-- load is 7 everywhere
abbrev load_is : ℤ → Given
load_is number = record { id = Global load_oid; value = Some (Int number); raw = [] }

abbrev holds : FilterTree → Bool
holds tree = is_true_of network.attributes element.attrs tree

abbrev stands : FilterTree → Bool
stands tree = is_valid network.attributes tree

abbrev two : FilterTree → FilterTree → FilterTrees
two x y = Then x (Then y Nothing)

empty_and : holds (And Nothing) ≡ true
empty_and = refl

-- so `not` of the empty `or` selects each object in scope
not_empty_or : selected network system (part 5 ∷ []) (Plain (pos 2)) (Not (Or Nothing)) ≡ (part 5 ∷ []) ∷ five_six ∷ []
not_empty_or = refl

empty_or : selected network system [] (Plain (pos 2)) (Or Nothing) ≡ []
empty_or = refl

-- asserted value >= attribute value, and asserted value <= attribute value
eight_is_greater : holds (OfItem (items.GreaterOrEqual (load_is (pos 8)))) ≡ true
eight_is_greater = refl

six_is_not_greater : holds (OfItem (items.GreaterOrEqual (load_is (pos 6)))) ≡ false
six_is_not_greater = refl

six_is_less : holds (OfItem (items.LessOrEqual (load_is (pos 6)))) ≡ true
six_is_less = refl

seven_is_equal : holds (And
    (two (OfItem (items.Equality (load_is (pos 7)))) (OfItem (items.Present (Global load_oid))))) ≡ true
seven_is_equal = refl

-- load has no SUBSTRINGS: invalid, wherever the item stands
abbrev in_load : FilterTree
in_load = OfItem (items.Substrings (record { kind = 1; given = load_is (pos 7) } ∷ []) (Some (Int (pos 7))))

invalid_beside_true : stands (Or (two (And Nothing) in_load)) ≡ false
invalid_beside_true = refl

invalid_beneath_not : stands (Not in_load) ≡ false
invalid_beneath_not = refl

-- a value that doesn't fit is invalid
unfit : stands (OfItem (items.Equality (record { id = Global load_oid; value = None; raw = 1 ∷ 1 ∷ 0 ∷ [] }))) ≡ false
unfit = refl

-- an attribute that is unknown or named in local form: valid and false
abbrev unknown : IdRef → FilterTree
unknown id = OfItem (items.Equality (record { id = id; value = None; raw = 2 ∷ 1 ∷ 7 ∷ [] }))

unknown_is_valid : stands (And (two (unknown (Global (2 ∷ 999 ∷ 7 ∷ 9 ∷ []))) (unknown (Local (pos 2))))) ≡ true
unknown_is_valid = refl

unknown_is_false : holds (Or (two (unknown (Global (2 ∷ 999 ∷ 7 ∷ 9 ∷ []))) (unknown (Local (pos 2))))) ≡ false
unknown_is_false = refl

-- pieces of one item that name two attributes, and no piece
abbrev piece_of : IdRef → Piece
piece_of id = record { kind = 1; given = record { id = id; value = None; raw = [] } }

two_attributes : stands (OfItem
    (items.Substrings (piece_of (Local (pos 1)) ∷ piece_of (Local (pos 2)) ∷ []) None)) ≡ false
two_attributes = refl

one_attribute : stands (OfItem
    (items.Substrings (piece_of (Local (pos 1)) ∷ piece_of (Local (pos 1)) ∷ []) None)) ≡ true
one_attribute = refl

no_piece : stands (OfItem (items.Substrings [] None)) ≡ false
no_piece = refl

-- an attribute with a text, and one with a set of numbers
abbrev text_oid : List ℕ
text_oid = 2 ∷ 999 ∷ 7 ∷ 3 ∷ []

abbrev set_oid : List ℕ
set_oid = 2 ∷ 999 ∷ 7 ∷ 4 ∷ []

abbrev records : List AttrRec
records =
    record {
      id = text_oid;
      label = codes "userLabel";
      syntax = TextString Ia5 [];
      rules = record ordered { substrings = true };
    } ∷
    record {
      id = set_oid;
      label = codes "ports";
      syntax = SetOf (Integer [] []) [];
      rules = record ordered { comparison = true; intersection = true };
    } ∷ []

abbrev one_two : TypedValue
one_two = Many (AndMembers (Int (pos 1)) (AndMembers (Int (pos 2)) NoMembers))

abbrev just_two : TypedValue
just_two = Many (AndMembers (Int (pos 2)) NoMembers)

abbrev held : List Attribute
held = record { id = text_oid; value = Text (codes "port 5") } ∷ record { id = set_oid; value = one_two } ∷ []

abbrev text_is : List ℕ → Given
text_is text = record { id = Global text_oid; value = Some (Text text); raw = [] }

abbrev pieces : List Piece
pieces = record { kind = 0; given = text_is (codes "po") } ∷ record { kind = 2; given = text_is (codes "5") } ∷ []

abbrev pieces_value : Option TypedValue
pieces_value =
    Some (Many (AndMembers (Pick 0 (Text (codes "po"))) (AndMembers (Pick 2 (Text (codes "5"))) NoMembers)))

their_value : asserted_pieces pieces ≡ pieces_value
their_value = refl

pieces_stand : is_true_of records held (OfItem (items.Substrings pieces pieces_value)) ≡ true
pieces_stand = refl

pieces_are_valid : is_valid records (OfItem (items.Substrings pieces pieces_value)) ≡ true
pieces_are_valid = refl

abbrev set_is : TypedValue → Given
set_is value = record { id = Global set_oid; value = Some value; raw = [] }

-- {2} is within {1, 2}; {1, 2} is not within {2}, and has it within; they have a common member
two_is_subset : is_true_of records held (OfItem (items.SubsetOf (set_is just_two))) ≡ true
two_is_subset = refl

two_is_no_superset : is_true_of records held (OfItem (items.SupersetOf (set_is just_two))) ≡ false
two_is_no_superset = refl

both_are_superset : is_true_of records held (OfItem (items.SupersetOf (set_is one_two))) ≡ true
both_are_superset = refl

they_meet : is_true_of records held (OfItem (items.Meets (set_is just_two))) ≡ true
they_meet = refl
