-- Examples of values that have a syntax and that haven't, computed from the tests: X.680, sections 19 to 28; X.690,
-- sections 8.1 and 11.6; docs/PROFILE.md, section 3.
use Rattle.std.proofs.Common.{◌≡◌, [], ◌∷◌, true, false, Some, None, refl}
use Rattle.std.specs.Prelude.{pos, negsuc}
use Rattle.term_values.specs.BerReading.{front_of, length_at, identifier_of}
use Rattle.term_values.specs.Der.{identifier_octets, length_octets}
use Rattle.term_values.specs.Octets.{integer_contents}
use Rattle.term_values.specs.Syntaxes.{TypeSyntax, TypeParts}
use Rattle.term_values.specs.Syntaxes.TypeSyntax.{Boolean, Integer, Sequence, SetOf, Choice, Tagged, Any}
use Rattle.term_values.specs.Syntaxes.TypeSyntax.{Filter}
use Rattle.term_values.specs.Syntaxes.TypeParts.{NoParts, Part}
use Rattle.term_values.specs.Tag.{context}
use Rattle.term_values.specs.Typed.{listed}
use Rattle.term_values.specs.Typed.TypedValue.{Truth, Int, Parts, Many, Pick, Raw}
use Rattle.term_values.specs.Typed.TypedSlots.{NoSlots, Filled, Empty}
use Rattle.term_values.specs.FitTest.{value_fits}
use Rattle.term_values.specs.LeafTests.{are_bits}

-- INTEGER (0..9)
abbrev digit : TypeSyntax
digit = Integer [] ((pos 0, pos 9) ∷ [])

digit_fits : value_fits digit (Int (pos 9)) ≡ true
digit_fits = refl

no_digit : value_fits digit (Int (negsuc 0)) ≡ false
no_digit = refl

-- tags have no part in it
tagged_fits : value_fits (Tagged (context 0) true digit) (Int (pos 9)) ≡ true
tagged_fits = refl

-- A0 has four unused bits that are 0, A8 has one that is 1
four_bits : are_bits (0xA0 ∷ []) 4 ≡ true
four_bits = refl

used_bits : are_bits (0xA8 ∷ []) 4 ≡ false
used_bits = refl

-- SEQUENCE { a INTEGER DEFAULT 5, b BOOLEAN OPTIONAL }: a is always there
abbrev pair : TypeParts
pair = Part [] (Integer [] []) false (Some (Int (pos 5))) (Part [] Boolean true None NoParts)

five_fits : value_fits (Sequence pair) (Parts (Filled (Int (pos 5)) (Empty NoSlots))) ≡ true
five_fits = refl

empty_misfit : value_fits (Sequence pair) (Parts (Empty (Empty NoSlots))) ≡ false
empty_misfit = refl

second_fits : value_fits (Choice pair) (Pick 1 (Truth true)) ≡ true
second_fits = refl

-- members by the rising order of 020101 and 020102
rising_fits : value_fits (SetOf (Integer [] []) []) (Many (listed (Int (pos 1) ∷ Int (pos 2) ∷ []))) ≡ true
unfolding identifier_octets length_octets integer_contents
rising_fits = refl

falling_misfit : value_fits (SetOf (Integer [] []) []) (Many (listed (Int (pos 2) ∷ Int (pos 1) ∷ []))) ≡ false
unfolding identifier_octets length_octets integer_contents
falling_misfit = refl

-- 04 01 AB is kept so, with a long form of its length it isn't; the empty conjunction A9 00 is a filter
kept_fits : value_fits Any (Raw (0x04 ∷ 0x01 ∷ 0xAB ∷ [])) ≡ true
unfolding identifier_octets length_octets front_of length_at identifier_of
kept_fits = refl

long_misfit : value_fits Any (Raw (0x04 ∷ 0x81 ∷ 0x01 ∷ 0xAB ∷ [])) ≡ false
unfolding identifier_octets length_octets front_of length_at identifier_of
long_misfit = refl

filter_fits : value_fits Filter (Raw (0xA9 ∷ 0x00 ∷ [])) ≡ true
unfolding identifier_octets length_octets front_of length_at identifier_of
filter_fits = refl

null_misfit : value_fits Filter (Raw (0x05 ∷ 0x00 ∷ [])) ≡ false
unfolding identifier_octets length_octets front_of length_at identifier_of
null_misfit = refl
