-- Examples of the parts from which the reading and the writing of values are made, computed: X.690, sections 8 and 11;
-- X.680, section 8.6.
use Rattle.std.specs.Prelude.{◌≡◌, ℕ, pos, List, [], ◌∷◌, true, false, None, Some, codes, refl}
use Rattle.std.proofs.Common.{arith, inl, inr}
use Rattle.term_values.specs.Beginnings.{begins, first_tags}
use Rattle.term_values.specs.Components.{is_default, slot_encodings, slot_octets}
use Rattle.term_values.specs.Der.{identifier_octets, length_octets}
use Rattle.term_values.specs.LeafReading.{bits_of, named_in, null_in, octets_in, octet_string_in, truth_in, whole_in}
use Rattle.term_values.specs.Octets.{integer_contents, integer_in}
use Rattle.term_values.specs.Rearranged.{IsRearrangement, IsRising, joined, may_precede, rising}
use Rattle.term_values.specs.SameParts.{same_slot}
use Rattle.term_values.specs.SameValue.{same_value}
use Rattle.term_values.specs.Strings.{AreBits, SpellsOctets, cleared}
use Rattle.term_values.specs.Syntaxes.{TypeSyntax}
use Rattle.term_values.specs.Syntaxes.TypeParts.{NoParts, Part}
use Rattle.term_values.specs.Syntaxes.TypeSyntax.{Any, Boolean, Choice, Filter, Integer, Tagged}
use Rattle.term_values.specs.Tag.{context}
use Rattle.term_values.specs.Tree.{TreeValue}
use Rattle.term_values.specs.Tree.TreeValue.{Constructed, Primitive}
use Rattle.term_values.specs.Tree.TreeValues.{Nothing as NoTrees, Then as AndTrees}
use Rattle.term_values.specs.TreeTags.{due, tag_of}
use Rattle.term_values.specs.Typed.{listed}
use Rattle.term_values.specs.Typed.TypedSlots.{Empty, Filled, NoSlots}
use Rattle.term_values.specs.Typed.TypedValue.{Bits, Int, Many, Null, Octets, Parts, Raw, Text, Truth}
use Rattle.term_values.specs.UniversalTags.{boolean, integer, null, octet_string, set}
use Rattle.term_values.specs.ValueContents.{bits_contents, of_members, raw_octets, truth_contents}
use Rattle.term_values.specs.Written.{der}
use Rattle.term_values.specs.declared.value.Slot.TheVariants.{Absent, Present}

abbrev whole : TypeSyntax
whole = Integer [] []

-- CHOICE { a BOOLEAN, b [3] INTEGER } begins with either tag
abbrev a_or_b : TypeSyntax
a_or_b =
    Choice (Part (codes "a") Boolean false None
    (Part (codes "b") (Tagged (context 3) false whole) false None NoParts))

either_tag : first_tags a_or_b ≡ Some (boolean ∷ context 3 ∷ [])
either_tag = refl

begins_with_b : begins a_or_b (context 3) ≡ true
begins_with_b = refl

not_with_integer : begins a_or_b integer ≡ false
not_with_integer = refl

-- an ANY begins with any tag, and a CMISFilter with those from [8] to [11]
any_tag : begins Any (context 12) ≡ true
any_tag = refl

filter_tag : begins Filter (context 11) ≡ true
filter_tag = refl

no_filter_tag : begins Filter (context 12) ≡ false
no_filter_tag = refl

-- an implicit tag takes the place of the own one
own_tag : due None integer ≡ integer
own_tag = refl

implicit_tag : due (Some (context 3)) integer ≡ context 3
implicit_tag = refl

tag_of_set : tag_of (Constructed set NoTrees) ≡ set
tag_of_set = refl

-- a component that equals its default is not written, nor one that is left out
default_example : is_default (Some (Int (pos 1))) (Int (pos 1)) ≡ true
default_example = refl

no_default : is_default None (Int (pos 1)) ≡ false
no_default = refl

default_unwritten : slot_encodings (Some (Int (pos 1))) (der whole) (Present (Int (pos 1))) ≡ []
default_unwritten = refl

other_written : slot_encodings (Some (Int (pos 1))) (der whole) (Present (Int (pos 2)))
    ≡ (0x02 ∷ 0x01 ∷ 0x02 ∷ []) ∷ []
unfolding identifier_octets length_octets integer_contents
other_written = refl

absent_unwritten : slot_octets None (der whole) Absent ≡ []
absent_unwritten = refl

present_written : slot_octets None (der whole) (Present (Int (pos 1))) ≡ 0x02 ∷ 0x01 ∷ 0x01 ∷ []
unfolding identifier_octets length_octets integer_contents
present_written = refl

-- values are the same where their forms and their parts are
same_numbers : same_value (Int (pos 1)) (Int (pos 1)) ≡ true
same_numbers = refl

other_form : same_value (Text (codes "a")) (Octets (codes "a")) ≡ false
other_form = refl

same_parts : same_value (Parts (Filled Null (Empty NoSlots))) (Parts (Filled Null (Empty NoSlots))) ≡ true
same_parts = refl

other_parts : same_value (Parts (Filled Null NoSlots)) (Parts (Empty NoSlots)) ≡ false
other_parts = refl

turned_members : same_value (Many (listed (Int (pos 1) ∷ Null ∷ []))) (Many (listed (Null ∷ Int (pos 1) ∷ []))) ≡ false
turned_members = refl

same_component : same_slot (Present Null) (Present Null) ≡ true
same_component = refl

other_component : same_slot (Present Null) Absent ≡ false
other_component = refl

-- the encodings of 1, of 2 and of TRUE, in rising order and one after the other
abbrev one : List ℕ
one = 0x02 ∷ 0x01 ∷ 0x01 ∷ []

abbrev two : List ℕ
two = 0x02 ∷ 0x01 ∷ 0x02 ∷ []

abbrev yes_octets : List ℕ
yes_octets = 0x01 ∷ 0x01 ∷ 0xFF ∷ []

one_first : may_precede one two ≡ true
one_first = refl

not_two_first : may_precede two one ≡ false
not_two_first = refl

in_order : rising (two ∷ one ∷ yes_octets ∷ []) ≡ yes_octets ∷ one ∷ two ∷ []
in_order = refl

order_rises : IsRising (yes_octets ∷ one ∷ two ∷ [])
order_rises = (refl, (refl, tt))

one_after_the_other : joined (one ∷ two ∷ []) ≡ 0x02 ∷ 0x01 ∷ 0x01 ∷ 0x02 ∷ 0x01 ∷ 0x02 ∷ []
one_after_the_other = refl

turned_round : IsRearrangement (one ∷ two ∷ []) (two ∷ one ∷ [])
turned_round = (two ∷ [], inr ([], refl, inl (refl, refl)), ([], inl (refl, refl), refl))

-- X.690, section 8.6: four bits of the last octet are unused and cleared; eight can't be, nor one of no octet
cleared_bits : cleared 4 (0x5F ∷ 0xDF ∷ []) ≡ 0x5F ∷ 0xD0 ∷ []
cleared_bits = refl

are_bits : AreBits (0x5F ∷ 0xD0 ∷ []) 4
are_bits = (omega arith, λ empty. absurd (cc), refl)

bits_example : bits_of (4 ∷ 0x5F ∷ 0xDF ∷ []) ≡ Some (0x5F ∷ 0xD0 ∷ [], 4)
bits_example = refl

eight_unused : bits_of (8 ∷ 0xD0 ∷ []) ≡ None
eight_unused = refl

none_unused : bits_of (1 ∷ []) ≡ None
none_unused = refl

no_bits : bits_of (0 ∷ []) ≡ Some ([], 0)
no_bits = refl

-- a string in two segments, which are OCTET STRINGs
abbrev segment : ℕ → TreeValue
segment octet = Primitive octet_string (octet ∷ [])

abbrev segments : TreeValue
segments = Constructed octet_string (AndTrees (segment 0xAB) (AndTrees (segment 0xCD) NoTrees))

segments_spell : SpellsOctets segments (0xAB ∷ 0xCD ∷ [])
segments_spell =
    (0xAB ∷ [], 0xCD ∷ [], refl, refl, refl, (0xCD ∷ [], [], refl, refl, refl, refl))

segments_read : octets_in segments ≡ Some (0xAB ∷ 0xCD ∷ [])
segments_read = refl

other_segment : octets_in (Constructed octet_string (AndTrees (Primitive integer (1 ∷ [])) NoTrees)) ≡ None
other_segment = refl

-- at most one octet may stand there
too_long : octet_string_in ((pos 0, pos 1) ∷ []) segments ≡ None
too_long = refl

-- values that hold no others: TRUE of any octet but 0, NULL of no octet, a number within its bounds and one by its name
true_read : truth_in (Primitive boolean (0x01 ∷ [])) ≡ Some (Truth true)
true_read = refl

false_read : truth_in (Primitive boolean (0x00 ∷ [])) ≡ Some (Truth false)
false_read = refl

two_octets : truth_in (Primitive boolean (0x01 ∷ 0x01 ∷ [])) ≡ None
two_octets = refl

null_read : null_in (Primitive null []) ≡ Some Null
null_read = refl

null_misfit : null_in (Primitive null (0 ∷ [])) ≡ None
null_misfit = refl

within_bounds : whole_in ((pos 0, pos 5) ∷ []) (Primitive integer (5 ∷ [])) ≡ Some (Int (pos 5))
unfolding integer_in
within_bounds = refl

past_bounds : whole_in ((pos 0, pos 5) ∷ []) (Primitive integer (6 ∷ [])) ≡ None
unfolding integer_in
past_bounds = refl

named_number : named_in ((codes "off", pos 0) ∷ (codes "on", pos 1) ∷ []) (Primitive integer (1 ∷ []))
    ≡ Some (Int (pos 1))
unfolding integer_in
named_number = refl

number_without_name : named_in ((codes "off", pos 0) ∷ (codes "on", pos 1) ∷ []) (Primitive integer (2 ∷ [])) ≡ None
unfolding integer_in
number_without_name = refl

-- the contents octets of values; a value of another form has none
true_contents : truth_contents (Truth true) ≡ 0xFF ∷ []
true_contents = refl

no_truth : truth_contents Null ≡ []
no_truth = refl

contents_of_bits : bits_contents (Bits (0xD0 ∷ []) 4) ≡ 0x04 ∷ 0xD0 ∷ []
contents_of_bits = refl

octets_of_any : raw_octets (Raw (0x05 ∷ 0x00 ∷ [])) ≡ 0x05 ∷ 0x00 ∷ []
octets_of_any = refl

encodings_of_members : of_members (der whole) (Many (listed (Int (pos 1) ∷ Int (pos 2) ∷ []))) ≡ one ∷ two ∷ []
unfolding identifier_octets length_octets integer_contents
encodings_of_members = refl
