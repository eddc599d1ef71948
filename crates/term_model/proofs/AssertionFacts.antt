-- Examples of identifiers and assertions, computed: X.711, section 7.5.
use Rattle.std.specs.Prelude.{◌≡◌, ℕ, pos, List, [], ◌∷◌, None, Some, refl}
use Rattle.std.proofs.Common.{arith}
use Rattle.term_values.specs.Der.{identifier_octets, length_octets}
use Rattle.term_values.specs.Octets.{integer_contents, integer_in}
use Rattle.term_values.specs.Oid.{oid_in, subidentifier}
use Rattle.term_values.specs.Syntaxes.TypeSyntax.{Integer}
use Rattle.term_values.specs.Tag.{context, universal}
use Rattle.term_values.specs.Tree.{TreeValue, TreeValues}
use Rattle.term_values.specs.Tree.TreeValue.{Constructed, Primitive}
use Rattle.term_values.specs.Tree.TreeValues.{Nothing, Then}
use Rattle.term_values.specs.Typed.TypedValue.{Int}
use Rattle.term_model.specs.declared.request.IdRef.TheVariants.{Global, Local}
use Rattle.term_model.specs.Assertions.{IsGiven, IsIdRef, given_in, given_of, id_in}
use Rattle.term_model.proofs.ExampleNetwork.{load_oid, load_template}

abbrev load_octets : List ℕ
load_octets = 0x88 ∷ 0x37 ∷ 7 ∷ 2 ∷ []

-- AttributeId [0] 2.999.7.2 and [1] 5; the same of ActionTypeId and EventTypeId with their tags
global_example : id_in 0 1 (Primitive (context 0) load_octets) ≡ Some (Global load_oid)
unfolding oid_in subidentifier
global_example = refl

global_denoted : IsIdRef 0 1 (Primitive (context 0) load_octets) (Global load_oid)
unfolding subidentifier
global_denoted = (0, _, (load_oid, (refl, refl, refl), refl), refl)

local_example : id_in 0 1 (Primitive (context 1) (5 ∷ [])) ≡ Some (Local (pos 5))
unfolding integer_in
local_example = refl

action_example : id_in 2 3 (Primitive (context 2) load_octets) ≡ Some (Global load_oid)
unfolding oid_in subidentifier
action_example = refl

event_example : id_in 6 7 (Primitive (context 7) (5 ∷ [])) ≡ Some (Local (pos 5))
unfolding integer_in
event_example = refl

-- none by another tag, by contents that aren't the least ones, and by a constructed value
other_tag : id_in 0 1 (Primitive (context 2) load_octets) ≡ None
other_tag = refl

long_number : id_in 0 1 (Primitive (context 1) (0 ∷ 5 ∷ [])) ≡ None
unfolding integer_in
long_number = refl

constructed_id : id_in 0 1 (Constructed (context 0) Nothing) ≡ None
constructed_id = refl

-- the assertion that load is 7: the value by the attribute's syntax, and its octets
abbrev seven : TreeValue
seven = Primitive (universal 2) (7 ∷ [])

abbrev asserted : TreeValues
asserted = Then (Primitive (context 0) load_octets) (Then seven Nothing)

known_example : given_in (load_template ∷ []) asserted
    ≡ Some (record { id = Global load_oid; value = Some (Int (pos 7)); raw = 2 ∷ 1 ∷ 7 ∷ [] })
unfolding oid_in subidentifier integer_in identifier_octets length_octets
known_example = refl

known_denoted : IsGiven (Some (Integer [] [])) (Global load_oid) seven
    (record { id = Global load_oid; value = Some (Int (pos 7)); raw = 2 ∷ 1 ∷ 7 ∷ [] })
unfolding integer_contents identifier_octets length_octets
known_denoted = (refl, refl, (pos 7, (refl, omega arith), refl, refl))

-- where no record describes the attribute, and where the value is none of its syntax
unknown_example : given_in [] asserted ≡ Some (record { id = Global load_oid; value = None; raw = 2 ∷ 1 ∷ 7 ∷ [] })
unfolding oid_in subidentifier identifier_octets length_octets
unknown_example = refl

misfit_example : given_of (Some (Integer [] [])) (Global load_oid) (Primitive (universal 5) [])
    ≡ record { id = Global load_oid; value = None; raw = 5 ∷ 0 ∷ [] }
unfolding identifier_octets length_octets
misfit_example = refl

-- an identifier alone is no assertion
no_value : given_in (load_template ∷ []) (Then (Primitive (context 0) load_octets) Nothing) ≡ None
no_value = refl
