-- Examples of superiors, of what follows a name, of what is left once one is taken out, and of the visits of a call,
-- computed: X.720, section 6; docs/PROFILE.md, section 4.
use Rattle.std.specs.Prelude.{◌≡◌, ◌<◌, ◌≤◌, ℕ, Bool, false, List, [], ◌∷◌, None, Some, refl}
use Rattle.std.specs.List.Sorted.{IsStrictlySortedBy}
use Rattle.std.proofs.Common.{ap, arith}
use Rattle.std.proofs.lemmas.Bool.{false≢true}
use Rattle.term_model.specs.declared.name.Rdn.{Rdn}
use Rattle.term_model.specs.declared.objects.NamedObject.{NamedObject}
use Rattle.term_model.specs.Comparing.{is_same_rdn}
use Rattle.term_model.specs.Following.{IsLeastGreater, entry_after}
use Rattle.term_model.specs.NamedObjects.{IsByName, removed}
use Rattle.term_model.specs.StepCounts.{IsOneCall}
use Rattle.term_model.specs.Superiors.{BeginsWith, IsSuperior}
use Rattle.term_model.proofs.ExampleNetwork.{element, id_oid}
use Rattle.term_model.proofs.FollowingLaws.{next_is_least}

-- elementId = 5, 6 and 50
abbrev part : ℕ → Rdn
part n = record { attribute = id_oid; value = 2 ∷ 1 ∷ n ∷ [] }

abbrev five : List Rdn
five = part 5 ∷ []

abbrev five_six : List Rdn
five_six = part 5 ∷ part 6 ∷ []

abbrev fifty : List Rdn
fifty = part 50 ∷ []

-- the root is the superior of 5, and 5 that of the object 6 below it
superior_of_five : IsSuperior [] five
superior_of_five = (part 5, refl)

superior_of_six : IsSuperior five five_six
superior_of_six = (part 6, refl)

-- it is the next one above, and the root has none
not_of_six : ¬ IsSuperior [] five_six
not_of_six is = absurd (let e : five_six ≡ is.0 ∷ [] = is.1 in cc)

root_has_none : (superior : List Rdn) → ¬ IsSuperior superior []
root_has_none [] is = absurd (let e : [] ≡ is.0 ∷ [] = is.1 in cc)
root_has_none (x ∷ xs) is = absurd (let e = is.1 in cc)

-- the object 6 stands below 5 and below the root, and each name begins with itself
below_five : BeginsWith five_six five
below_five = (part 6 ∷ [], refl)

below_root : BeginsWith five_six []
below_root = (five_six, refl)

itself : BeginsWith five five
itself = ([], refl)

-- 50 does not stand below 5
abbrev is_five : List Rdn → Bool
is_five [] = false
is_five (x ∷ xs) = is_same_rdn x (part 5)

not_below_five : ¬ BeginsWith fifty five
not_below_five below = false≢true (ap is_five below.1)

-- the root, 5, 6 below it, and 50
abbrev at : List Rdn → NamedObject
at name = record { name = name; object = element }

abbrev four : List NamedObject
four = at [] ∷ at five ∷ at five_six ∷ at fifty ∷ []

four_rise : IsByName four
unfolding IsStrictlySortedBy
four_rise = ((refl, (refl, (refl, tt))), ((refl, (refl, tt)), ((refl, tt), (tt, tt))))

-- 5 follows the root, the object 6 below it follows 5, then comes 50, and nothing behind it
behind_root : entry_after four [] ≡ Some (at five)
behind_root = refl

behind_five : entry_after four five ≡ Some (at five_six)
behind_five = refl

behind_six : entry_after four five_six ≡ Some (at fifty)
behind_six = refl

behind_fifty : entry_after four fifty ≡ None
behind_fifty = refl

-- a name need not be there for one to follow it
behind_seven : entry_after four (part 7 ∷ []) ≡ Some (at fifty)
behind_seven = refl

least_behind_five : IsLeastGreater four five (at five_six)
least_behind_five = next_is_least four five (at five_six) four_rise refl

-- the objects without 5, below which 6 stays: the map asks for no superior
without_five : removed five four ≡ at [] ∷ at five_six ∷ at fifty ∷ []
without_five = refl

without_another : removed (part 7 ∷ []) four ≡ four
without_another = refl

-- a call on four objects visits one at least, and 128 at the most
one_visit : IsOneCall four 5 6
one_visit = record { rises = omega arith; some = λ there. omega arith; few = λ few. omega arith }

most_visits : IsOneCall four 5 133
most_visits = record { rises = omega arith; some = λ there. omega arith; few = λ few. omega arith }

no_visit : ¬ IsOneCall four 5 5
no_visit is = let rose : 5 < 5 = is.some (omega arith) in omega arith

too_many : ¬ IsOneCall four 5 134
too_many is = let few : 134 ≤ 133 = is.few (omega arith) in omega arith

-- a map of nothing need not be visited
none_to_visit : IsOneCall [] 5 5
none_to_visit = record { rises = omega arith; some = λ there. omega arith; few = λ few. omega arith }
