-- Examples of BINDs and their answers, computed; docs/PROFILE.md, section 4.
use Rattle.std.proofs.Common.{inl}
use Rattle.std.specs.Prelude.{◌≡◌, ℕ, List, [], ◌∷◌, None, Some, refl}
use Rattle.term_values.specs.BerReading.{front_of, identifier_of, length_at}
use Rattle.term_values.specs.Der.{identifier_octets, length_octets}
use Rattle.term_values.specs.Octets.{integer_contents}
use Rattle.term_values.specs.Oid.{oid_in, subidentifier}
use Rattle.term_values.specs.Tag.{universal}
use Rattle.term_values.specs.Tree.{TreeValue}
use Rattle.term_values.specs.Tree.TreeValue.{Constructed, Primitive}
use Rattle.term_values.specs.Tree.TreeValues.{Nothing, Then}
use Rattle.term_model.proofs.ExampleNetwork.{element_oid}
use Rattle.agent_model.specs.Bind.{IsBind, bind_answer, title_in}

-- OBJECT IDENTIFIER 2.999.3.1
abbrev class : TreeValue
class = Primitive (universal 6) (0x88 ∷ 0x37 ∷ 3 ∷ 1 ∷ [])

-- the BIND of the title 2.999.11.1, a SEQUENCE without a title, and the answers accepted(0) and badBind(2)
abbrev bind_octets : List ℕ
bind_octets = 0x30 ∷ 0x06 ∷ 0x06 ∷ 0x04 ∷ 0x88 ∷ 0x37 ∷ 0x0B ∷ 0x01 ∷ []

title_example : title_in bind_octets ≡ Some (2 ∷ 999 ∷ 11 ∷ 1 ∷ [])
unfolding oid_in subidentifier identifier_of length_at front_of
title_example = refl

no_title : title_in (0x30 ∷ 0x00 ∷ []) ≡ None
unfolding oid_in subidentifier identifier_of length_at front_of
no_title = refl

-- SEQUENCE { OBJECT IDENTIFIER 2.999.3.1 } is the BIND of that title
bind_denoted : IsBind (Constructed (universal 16) (Then class Nothing)) element_oid
unfolding subidentifier
bind_denoted = (class ∷ [], _, refl, inl ((element_oid, (refl, refl, refl), refl), (refl, refl)), refl)

answer_example : bind_answer 0 1 ≡ 0x30 ∷ 0x06 ∷ 0x0A ∷ 0x01 ∷ 0x00 ∷ 0x02 ∷ 0x01 ∷ 0x01 ∷ []
unfolding identifier_octets length_octets integer_contents
answer_example = refl

bad_example : bind_answer 2 1 ≡ 0x30 ∷ 0x06 ∷ 0x0A ∷ 0x01 ∷ 0x02 ∷ 0x02 ∷ 0x01 ∷ 0x01 ∷ []
unfolding identifier_octets length_octets integer_contents
bad_example = refl
