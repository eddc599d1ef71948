-- Examples of numbers by which members are compared, computed from the definitions: X.690, section 8.1.2.
use Rattle.std.proofs.Common.{◌≡◌, true, false, [], ◌∷◌, None, refl}
use Rattle.std.specs.Prelude.{pos, ◌*◌}
use Rattle.term_values.specs.Der.{identifier_octets, length_octets}
use Rattle.term_values.specs.Octets.{integer_contents}
use Rattle.term_values.specs.Syntaxes.TypeSyntax.{Boolean, Integer, Choice, Tagged, Any, Filter}
use Rattle.term_values.specs.Syntaxes.TypeParts.{NoParts, Part}
use Rattle.term_values.specs.Tag.{context}
use Rattle.term_values.specs.Typed.TypedValue.{Int, Pick, Raw}
use Rattle.term_values.specs.UniversalTags.{set}
use Rattle.value_match.specs.FirstSizes.{first_size}
use Rattle.value_match.specs.Marks.{first_octets, mark, mark_as}

-- 31 00 begins as a SET does, and 9F 1F as the tag [31], primitive
of_set : first_octets (49 ∷ (0 ∷ [])) ≡ mark true set
of_set = refl

of_long_tag : first_octets (159 ∷ (31 ∷ [])) ≡ mark false (context 31)
of_long_tag = refl

-- an ANY and a CMISFilter begin with their own octets: 05 00, and A9 00, an empty [9], constructed
of_any : mark_as None Any (Raw (5 ∷ (0 ∷ []))) ≡ 5 * 1099511627776
of_any = refl

of_filter : mark_as None Filter (Raw (169 ∷ (0 ∷ []))) ≡ mark true (context 9)
of_filter = refl

-- a CHOICE begins as its alternative does, also where that has a tag of its own
of_alternative : mark_as None (Choice (Part [] Boolean false None (Part [] (Tagged (context 3) false (Integer [] []))
    false None NoParts))) (Pick 1 (Int (pos 5))) ≡ mark false (context 3)
of_alternative = refl

-- [1] EXPLICIT INTEGER 5 holds three octets, 02 01 05, and INTEGER 5 alone has no size in front
of_explicit : first_size (Tagged (context 1) true (Integer [] [])) (Int (pos 5)) ≡ 3
unfolding identifier_octets length_octets integer_contents
of_explicit = refl

of_integer : first_size (Integer [] []) (Int (pos 5)) ≡ 0
of_integer = refl
