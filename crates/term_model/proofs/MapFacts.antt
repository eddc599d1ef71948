-- Examples of identifiers, names, their order and the map from names to objects, computed: X.501; X.720, section 5;
-- docs/PROFILE.md, section 4.
use Rattle.std.specs.Prelude.{◌≡◌, ℕ, true, false, List, [], ◌∷◌, None, Some, refl}
use Rattle.std.specs.BTreeMap.{BTreeMap, get}
use Rattle.std.specs.Cmp.Lexicographic.{slice_cmp}
use Rattle.std.specs.List.Sorted.{IsStrictlySortedBy}
use Rattle.std.specs.Ordering.{nat_cmp}
use Rattle.std.specs.declared.cmp.Ordering.TheVariants.{Less, Equal, Greater}
use Rattle.term_model.specs.declared.name.Rdn.{Rdn}
use Rattle.term_model.specs.declared.object.Object.{Object}
use Rattle.term_model.specs.declared.objects.NamedObject.{NamedObject}
use Rattle.term_model.specs.Comparing.{is_same_name, is_same_octets, is_same_oid, is_same_rdn}
use Rattle.term_model.specs.NameOrder.{name_cmp, rdn_cmp}
use Rattle.term_model.specs.NamedObjects.{IsByName, is_named_at, names, object_at, stored}
use Rattle.term_model.specs.Places.{HasPlaces, place_with}
use Rattle.term_model.proofs.ExampleNetwork.{element, element_oid, id_oid, load_oid}

-- the parts elementId = 9, elementId = 256 and load = 1
abbrev nine : Rdn
nine = record { attribute = id_oid; value = 2 ∷ 1 ∷ 9 ∷ [] }

abbrev two_octets : Rdn
two_octets = record { attribute = id_oid; value = 2 ∷ 2 ∷ 1 ∷ 0 ∷ [] }

abbrev loaded : Rdn
loaded = record { attribute = load_oid; value = 2 ∷ 1 ∷ 1 ∷ [] }

-- identifiers, octets and parts are the same where each of their numbers is
same_oid : is_same_oid id_oid (2 ∷ 999 ∷ 7 ∷ 1 ∷ []) ≡ true
same_oid = refl

other_oid : is_same_oid id_oid load_oid ≡ false
other_oid = refl

other_octets : is_same_octets (2 ∷ 1 ∷ 9 ∷ []) (2 ∷ 1 ∷ []) ≡ false
other_octets = refl

other_value : is_same_rdn nine two_octets ≡ false
other_value = refl

-- the parts of a name stand in their order
same_name : is_same_name (nine ∷ loaded ∷ []) (nine ∷ loaded ∷ []) ≡ true
same_name = refl

turned_name : is_same_name (nine ∷ loaded ∷ []) (loaded ∷ nine ∷ []) ≡ false
turned_name = refl

-- the root stands before all others, and a name before those that it begins
root_first : name_cmp [] (nine ∷ []) ≡ Less
root_first = refl

superior_first : name_cmp (nine ∷ []) (nine ∷ loaded ∷ []) ≡ Less
superior_first = refl

-- a part goes by its attribute, then by the length of its value, then by the value's octets
by_attribute : rdn_cmp two_octets loaded ≡ Less
by_attribute = refl

by_length : rdn_cmp two_octets nine ≡ Greater
by_length = refl

by_octets : rdn_cmp nine (record nine { value = 2 ∷ 1 ∷ 8 ∷ [] }) ≡ Greater
by_octets = refl

same_place : rdn_cmp nine nine ≡ Equal
same_place = refl

-- an object under the root, one under that, and the root, stored in this order, stand by rising name
abbrev at : List Rdn → NamedObject
at name = record { name = name; object = element }

abbrev three : List NamedObject
three = stored (at []) (stored (at (nine ∷ loaded ∷ [])) (stored (at (nine ∷ [])) []))

three_in_order : names three ≡ [] ∷ (nine ∷ []) ∷ (nine ∷ loaded ∷ []) ∷ []
three_in_order = refl

three_rise : IsByName three
unfolding IsStrictlySortedBy
three_rise = ((refl, (refl, tt)), ((refl, tt), (tt, tt)))

-- each is found under its name, and none under another one
found : object_at three (nine ∷ []) ≡ Some element
found = refl

not_found : object_at three (loaded ∷ []) ≡ None
not_found = refl

second_named : is_named_at three 1 (nine ∷ []) ≡ true
second_named = refl

none_behind : is_named_at three 3 (nine ∷ []) ≡ false
none_behind = refl

-- a name that is stored again keeps one object, the last one
abbrev other : Object
other = record element { class = 2 ∷ 999 ∷ 3 ∷ 2 ∷ [] }

stored_again : stored (record { name = nine ∷ []; object = other }) three
    ≡ at [] ∷ record { name = nine ∷ []; object = other } ∷ at (nine ∷ loaded ∷ []) ∷ []
stored_again = refl

-- an identifier keeps its first place, and another one gets the new place
first_place : place_with id_oid 5 id_oid (Some 2) ≡ Some 2
first_place = refl

new_place : place_with id_oid 5 id_oid None ≡ Some 5
new_place = refl

no_place : place_with id_oid 5 load_oid None ≡ None
no_place = refl

-- a map in which the identifier of the only record was placed has the places of the records
placed : (places : BTreeMap (List ℕ) ℕ)
    → ((q : List ℕ) → get (slice_cmp nat_cmp) places q ≡ place_with id_oid 0 q None)
    → HasPlaces places (id_oid ∷ [])
placed places is q = is q
