-- Examples of X.690 and X.680 on typed values, computed from the definitions.
use Rattle.std.specs.Prelude.{◌≡◌, ℕ, List, [], ◌∷◌, true, false, pos, negsuc, Some, None, Option, option_and_then}
use Rattle.std.specs.Prelude.{refl, codes}
use Rattle.std.proofs.Common.{arith, inl, inr}
use Rattle.term_values.specs.Bounded.{allowed, has_character}
use Rattle.term_values.specs.BerReading.{tree_in, front_of, length_at, identifier_of}
use Rattle.term_values.specs.Decoding.{value_in}
use Rattle.term_values.specs.Denotes.{Denotes}
use Rattle.term_values.specs.Der.{identifier_octets, length_octets}
use Rattle.term_values.specs.Fits.{Fits}
use Rattle.term_values.specs.Octets.{integer_contents, integer_in}
use Rattle.term_values.specs.Oid.{subidentifier, oid_in}
use Rattle.term_values.specs.Soundness.{has_clear_tags, IsSound}
use Rattle.term_values.specs.Syntaxes.{TypeSyntax}
use Rattle.term_values.specs.Syntaxes.TypeSyntax.{Boolean, Integer, Enumerated, BitString, OctetString}
use Rattle.term_values.specs.Syntaxes.TypeSyntax.{ObjectIdentifier, TextString, Sequence, SetType, SetOf, Choice}
use Rattle.term_values.specs.Syntaxes.TypeSyntax.{Tagged, Any}
use Rattle.term_values.specs.Syntaxes.TypeParts.{NoParts, Part}
use Rattle.term_values.specs.Tag.{context}
use Rattle.term_values.specs.Tree.TreeValue.{Primitive, Constructed}
use Rattle.term_values.specs.Tree.TreeValues.{Nothing as NoTrees, Then as AndTrees}
use Rattle.term_values.specs.Typed.{TypedValue, listed}
use Rattle.term_values.specs.Typed.TypedValue.{Truth, Int, Bits, Octets, Identifier, Text, Parts, Many, Raw}
use Rattle.term_values.specs.Typed.TypedSlots.{NoSlots, Filled, Empty}
use Rattle.term_values.specs.UniversalTags.{integer, bit_string, octet_string, sequence, set, universal}
use Rattle.term_values.specs.Written.{der}
use Rattle.term_values.specs.declared.charset.Charset.TheVariants.{Numeric, Printable, Ia5, Visible}

-- the value that octets denote
abbrev value_at : TypeSyntax → List ℕ → Option TypedValue
value_at syntax octets = option_and_then (value_in syntax) (tree_in octets)

abbrev whole : TypeSyntax
whole = Integer [] []

-- X.690, section 8.3: 128 and -129
integer_written : der whole (Int (pos 128)) ≡ 0x02 ∷ 0x02 ∷ 0x00 ∷ 0x80 ∷ []
unfolding identifier_octets length_octets integer_contents
integer_written = refl

negative_written : der whole (Int (negsuc 128)) ≡ 0x02 ∷ 0x02 ∷ 0xFF ∷ 0x7F ∷ []
unfolding identifier_octets length_octets integer_contents
negative_written = refl

-- a long form for a short length is read
integer_read : value_at whole (0x02 ∷ 0x81 ∷ 0x02 ∷ 0x00 ∷ 0x80 ∷ []) ≡ Some (Int (pos 128))
unfolding front_of length_at identifier_of integer_in
integer_read = refl

-- not as few octets as hold the number, and more than 64 bits
padded_misfit : value_at whole (0x02 ∷ 0x02 ∷ 0x00 ∷ 0x01 ∷ []) ≡ None
unfolding front_of length_at identifier_of integer_in
padded_misfit = refl

long_misfit : value_at whole (0x02 ∷ 0x09 ∷ 0x01 ∷ 0 ∷ 0 ∷ 0 ∷ 0 ∷ 0 ∷ 0 ∷ 0 ∷ 0 ∷ []) ≡ None
unfolding front_of length_at identifier_of integer_in
long_misfit = refl

-- X.690, section 8.2 and 11.1: TRUE is written FF, and read from any octet but 0
true_written : der Boolean (Truth true) ≡ 0x01 ∷ 0x01 ∷ 0xFF ∷ []
unfolding identifier_octets length_octets
true_written = refl

true_read : value_at Boolean (0x01 ∷ 0x01 ∷ 0x01 ∷ []) ≡ Some (Truth true)
unfolding front_of length_at identifier_of
true_read = refl

-- X.690, section 11.6: the members of a SET OF stand by rising encodings, in whatever order they came
set_written : der (SetOf whole []) (Many (listed (Int (pos 1) ∷ Int (pos 2) ∷ [])))
    ≡ 0x31 ∷ 0x06 ∷ 0x02 ∷ 0x01 ∷ 0x01 ∷ 0x02 ∷ 0x01 ∷ 0x02 ∷ []
unfolding identifier_octets length_octets integer_contents
set_written = refl

set_read : value_at (SetOf whole []) (0x31 ∷ 0x06 ∷ 0x02 ∷ 0x01 ∷ 0x02 ∷ 0x02 ∷ 0x01 ∷ 0x01 ∷ [])
    ≡ Some (Many (listed (Int (pos 1) ∷ Int (pos 2) ∷ [])))
unfolding front_of length_at identifier_of integer_in identifier_octets length_octets integer_contents
set_read = refl

-- and as the relation has it
set_denoted : Denotes (SetOf whole [])
    (Constructed set (AndTrees (Primitive integer (2 ∷ [])) (AndTrees (Primitive integer (1 ∷ [])) NoTrees)))
    (Many (listed (Int (pos 1) ∷ Int (pos 2) ∷ [])))
unfolding identifier_octets length_octets integer_contents
set_denoted = (
  Primitive integer (2 ∷ []) ∷ Primitive integer (1 ∷ []) ∷ [],
  Int (pos 2) ∷ Int (pos 1) ∷ [],
  Int (pos 1) ∷ Int (pos 2) ∷ [],
  refl,
  ((pos 2, (refl, omega arith), refl, refl), ((pos 1, (refl, omega arith), refl, refl), tt)),
  (Int (pos 1) ∷ [], inr ([], refl, inl (refl, refl)), ([], inl (refl, refl), refl)),
  (refl, tt),
  refl,
  refl,
)

-- X.690, section 8.19.5 has 2.100.3
identifier_written : der ObjectIdentifier (Identifier (2 ∷ 100 ∷ 3 ∷ [])) ≡ 0x06 ∷ 0x03 ∷ 0x81 ∷ 0x34 ∷ 0x03 ∷ []
unfolding identifier_octets length_octets subidentifier
identifier_written = refl

identifier_read : value_at ObjectIdentifier (0x06 ∷ 0x03 ∷ 0x88 ∷ 0x37 ∷ 0x09 ∷ [])
    ≡ Some (Identifier (2 ∷ 999 ∷ 9 ∷ []))
unfolding front_of length_at identifier_of oid_in subidentifier
identifier_read = refl

-- an OCTET STRING in two segments is one string
segments_read : value_in (OctetString [])
    (Constructed octet_string (AndTrees (Primitive octet_string (0xAB ∷ []))
    (AndTrees (Primitive octet_string (0xCD ∷ [])) NoTrees)))
    ≡ Some (Octets (0xAB ∷ 0xCD ∷ []))
segments_read = refl

octets_written : der (OctetString []) (Octets (0xAB ∷ 0xCD ∷ [])) ≡ 0x04 ∷ 0x02 ∷ 0xAB ∷ 0xCD ∷ []
unfolding identifier_octets length_octets
octets_written = refl

-- X.690, section 8.6.4.2: '0A3B5F291CD'H, primitive and in two segments; the unused bits are kept 0
abbrev bits : TypedValue
bits = Bits (0x0A ∷ 0x3B ∷ 0x5F ∷ 0x29 ∷ 0x1C ∷ 0xD0 ∷ []) 4

bits_written : der (BitString [] []) bits ≡ 0x03 ∷ 0x07 ∷ 0x04 ∷ 0x0A ∷ 0x3B ∷ 0x5F ∷ 0x29 ∷ 0x1C ∷ 0xD0 ∷ []
unfolding identifier_octets length_octets
bits_written = refl

bits_read : value_in (BitString [] [])
    (Constructed bit_string (AndTrees (Primitive bit_string (0x00 ∷ 0x0A ∷ 0x3B ∷ []))
    (AndTrees (Primitive bit_string (0x04 ∷ 0x5F ∷ 0x29 ∷ 0x1C ∷ 0xDF ∷ [])) NoTrees))) ≡ Some bits
bits_read = refl

-- only the last segment may have unused bits
bits_misfit : value_in (BitString [] [])
    (Constructed bit_string (AndTrees (Primitive bit_string (0x04 ∷ 0xD0 ∷ []))
    (AndTrees (Primitive bit_string (0x00 ∷ 0x3B ∷ [])) NoTrees))) ≡ None
bits_misfit = refl

bits_fit : Fits (BitString [] ((pos 44, pos 44) ∷ [])) bits
bits_fit = ((omega arith, λ empty. absurd (cc), refl), refl)

-- X.690, section 8.14: Type1 VisibleString "Jones", Type2 [APPLICATION 3] IMPLICIT, Type3 [2] explicit, Type5 [2]
-- IMPLICIT
abbrev jones : TypedValue
jones = Text (0x4A ∷ 0x6F ∷ 0x6E ∷ 0x65 ∷ 0x73 ∷ [])

abbrev type_1 : TypeSyntax
type_1 = TextString Visible []

abbrev type_2 : TypeSyntax
type_2 = Tagged (record { class = 1; number = 3 }) false type_1

abbrev type_3 : TypeSyntax
type_3 = Tagged (context 2) true type_2

abbrev type_5 : TypeSyntax
type_5 = Tagged (context 2) false type_2

type_1_written : der type_1 jones ≡ 0x1A ∷ 0x05 ∷ 0x4A ∷ 0x6F ∷ 0x6E ∷ 0x65 ∷ 0x73 ∷ []
unfolding identifier_octets length_octets
type_1_written = refl

type_2_written : der type_2 jones ≡ 0x43 ∷ 0x05 ∷ 0x4A ∷ 0x6F ∷ 0x6E ∷ 0x65 ∷ 0x73 ∷ []
unfolding identifier_octets length_octets
type_2_written = refl

type_3_written : der type_3 jones ≡ 0xA2 ∷ 0x07 ∷ 0x43 ∷ 0x05 ∷ 0x4A ∷ 0x6F ∷ 0x6E ∷ 0x65 ∷ 0x73 ∷ []
unfolding identifier_octets length_octets
type_3_written = refl

type_5_written : der type_5 jones ≡ 0x82 ∷ 0x05 ∷ 0x4A ∷ 0x6F ∷ 0x6E ∷ 0x65 ∷ 0x73 ∷ []
unfolding identifier_octets length_octets
type_5_written = refl

type_3_read : value_at type_3 (0xA2 ∷ 0x07 ∷ 0x43 ∷ 0x05 ∷ 0x4A ∷ 0x6F ∷ 0x6E ∷ 0x65 ∷ 0x73 ∷ []) ≡ Some jones
unfolding front_of length_at identifier_of
type_3_read = refl

-- X.690, section 11.5: a component that is its DEFAULT is not written, and where none comes it is there
abbrev pair : TypeSyntax
pair = Sequence (Part (codes "a") whole false (Some (Int (pos 5))) (Part (codes "b") Boolean true None NoParts))

default_written : der pair (Parts (Filled (Int (pos 5)) (Filled (Truth true) NoSlots)))
    ≡ 0x30 ∷ 0x03 ∷ 0x01 ∷ 0x01 ∷ 0xFF ∷ []
unfolding identifier_octets length_octets integer_contents
default_written = refl

default_read : value_at pair (0x30 ∷ 0x00 ∷ []) ≡ Some (Parts (Filled (Int (pos 5)) (Empty NoSlots)))
unfolding front_of length_at identifier_of integer_in
default_read = refl

default_denoted : Denotes pair (Constructed sequence NoTrees) (Parts (Filled (Int (pos 5)) (Empty NoSlots)))
default_denoted = ([], Filled (Int (pos 5)) (Empty NoSlots), refl, inr (refl, inr (refl, refl)), refl)

-- a component with a DEFAULT is always there, an OPTIONAL one may be absent
default_fits : Fits pair (Parts (Filled (Int (pos 6)) (Empty NoSlots)))
default_fits = ((omega arith, refl), tt)

pair_sound : IsSound pair
pair_sound = (refl, ((omega arith, refl), tt, (tt, tt, tt)))

-- a SET is written by rising encodings, and read in any order
abbrev unordered : TypeSyntax
unordered = SetType (Part (codes "a") whole false None (Part (codes "b") Boolean false None NoParts))

unordered_written : der unordered (Parts (Filled (Int (pos 5)) (Filled (Truth true) NoSlots)))
    ≡ 0x31 ∷ 0x06 ∷ 0x01 ∷ 0x01 ∷ 0xFF ∷ 0x02 ∷ 0x01 ∷ 0x05 ∷ []
unfolding identifier_octets length_octets integer_contents
unordered_written = refl

unordered_read : value_at unordered (0x31 ∷ 0x06 ∷ 0x01 ∷ 0x01 ∷ 0xFF ∷ 0x02 ∷ 0x01 ∷ 0x05 ∷ [])
    ≡ Some (Parts (Filled (Int (pos 5)) (Filled (Truth true) NoSlots)))
unfolding front_of length_at identifier_of integer_in
unordered_read = refl

-- X.680, section 19.5 and 20.1: an INTEGER with names has any number, an ENUMERATED only those
any_number : Fits (Integer ((codes "one", pos 1) ∷ []) []) (Int (pos 2))
any_number = (omega arith, refl)

named_number : value_at (Enumerated ((codes "one", pos 1) ∷ [])) (0x0A ∷ 0x01 ∷ 0x02 ∷ []) ≡ None
unfolding front_of length_at identifier_of integer_in
named_number = refl

-- no pairs state no bound, and a pair (1, 0) leaves no number
no_bound : allowed [] (pos 7) ≡ true
no_bound = refl

empty_rest : allowed ((pos 1, pos 0) ∷ []) (pos 1) ≡ false
empty_rest = refl

two_ranges : allowed ((negsuc 0, pos 0) ∷ ((pos 5, pos 7) ∷ [])) (pos 7) ≡ true
two_ranges = refl

-- X.680, section 28.3: alternatives of one tag, and an ANY beside another alternative
same_tags : has_clear_tags (Choice (Part (codes "a") whole false None (Part (codes "b") whole false None NoParts)))
    ≡ false
same_tags = refl

any_beside : has_clear_tags (Choice (Part (codes "a") whole false None (Part (codes "b") Any false None NoParts)))
    ≡ false
any_beside = refl

-- an optional component and the next one share a tag; an ANY that may be left out stands last
run_ambiguous :
    has_clear_tags (Sequence (Part (codes "a") whole true None (Part (codes "b") whole false None NoParts))) ≡ false
run_ambiguous = refl

any_last : has_clear_tags (Sequence (Part (codes "a") whole false None (Part (codes "b") Any true None NoParts))) ≡ true
any_last = refl

-- X.680, section 30.6: no CHOICE under an implicit tag
implicit_choice : has_clear_tags (Tagged (context 0) false (Choice (Part (codes "a") whole false None NoParts))) ≡ false
implicit_choice = refl

-- an ANY is kept with the shortest lengths: 30 81 03 02 01 05 as 30 03 02 01 05
any_read : value_at Any (0x30 ∷ 0x81 ∷ 0x03 ∷ 0x02 ∷ 0x01 ∷ 0x05 ∷ [])
    ≡ Some (Raw (0x30 ∷ 0x03 ∷ 0x02 ∷ 0x01 ∷ 0x05 ∷ []))
unfolding front_of length_at identifier_of identifier_octets length_octets
any_read = refl

-- X.680, section 41: the characters of the string types
digits : value_in (TextString Numeric []) (Primitive (universal 18) (0x31 ∷ 0x20 ∷ [])) ≡ Some (Text (0x31 ∷ 0x20 ∷ []))
digits = refl

no_digit : value_in (TextString Numeric []) (Primitive (universal 18) (0x41 ∷ [])) ≡ None
no_digit = refl

no_asterisk : has_character Printable 0x2A ≡ false
no_asterisk = refl

last_visible : has_character Visible 127 ≡ false
last_visible = refl

last_ia5 : has_character Ia5 127 ≡ true
last_ia5 = refl
