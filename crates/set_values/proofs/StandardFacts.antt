-- Examples of members added and removed, computed from the definitions: X.711, type ModifyOperator.
use Rattle.std.proofs.Common.{◌≡◌, ℕ, List, [], ◌∷◌, false, refl}
use Rattle.std.specs.Prelude.{pos, map}
use Rattle.term_values.specs.Der.{identifier_octets, length_octets}
use Rattle.term_values.specs.Octets.{integer_contents}
use Rattle.term_values.specs.Syntaxes.{TypeSyntax}
use Rattle.term_values.specs.Syntaxes.TypeSyntax.{Integer, SetOf, SequenceOf, Tagged}
use Rattle.term_values.specs.Tag.{context}
use Rattle.term_values.specs.Typed.{TypedValue, listed}
use Rattle.term_values.specs.Typed.TypedValue.{Int, Many}
use Rattle.set_values.specs.MemberLaws.{times}
use Rattle.term_values.specs.SetMembers.{with_members, without_members}

-- [0] IMPLICIT SET OF INTEGER
abbrev numbers : TypeSyntax
numbers = Tagged (context 0) false (SetOf (Integer [] []) [])

abbrev of_numbers : List ℕ → TypedValue
of_numbers ns = Many (listed (map (λ n. Int (pos n)) ns))

-- {1, 3} with 3, 2 and 2 is {1, 2, 3}
union : with_members numbers (of_numbers (1 ∷ 3 ∷ [])) (of_numbers (3 ∷ 2 ∷ 2 ∷ [])) ≡ of_numbers (1 ∷ 2 ∷ 3 ∷ [])
unfolding identifier_octets length_octets integer_contents
union = refl

-- what is held twice stays so
twice_held : with_members numbers (of_numbers (1 ∷ 1 ∷ [])) (of_numbers (1 ∷ [])) ≡ of_numbers (1 ∷ 1 ∷ [])
unfolding identifier_octets length_octets integer_contents
twice_held = refl

-- {1, 1, 2} without 1 and 3 is {2}
difference : without_members numbers (of_numbers (1 ∷ 1 ∷ 2 ∷ [])) (of_numbers (1 ∷ 3 ∷ [])) ≡ of_numbers (2 ∷ [])
unfolding identifier_octets length_octets integer_contents
difference = refl

-- a SEQUENCE OF stays as it is
list_stays : with_members (SequenceOf (Integer [] []) []) (of_numbers (1 ∷ [])) (of_numbers (2 ∷ []))
    ≡ of_numbers (1 ∷ [])
list_stays = refl

-- 5 stands twice among 5, 6 and 5
two_fives : times (5 ∷ []) ((5 ∷ []) ∷ (6 ∷ []) ∷ (5 ∷ []) ∷ []) ≡ 2
two_fives = refl
