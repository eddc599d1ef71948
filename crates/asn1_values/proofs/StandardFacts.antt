-- Examples of the standards and of docs/PROFILE.md, computed.
use Rattle.std.proofs.Common.{◌≡◌, ℕ, true, false, List, [], ◌∷◌, Option, None, Some, refl}
use Rattle.std.specs.Prelude.{codes, pos, negsuc}
use Rattle.term_values.specs.BerReading.{identifier_of, length_at, front_of}
use Rattle.term_values.specs.Der.{identifier_octets, length_octets}
use Rattle.term_values.specs.Octets.{integer_contents}
use Rattle.term_values.specs.Oid.{subidentifier}
use Rattle.term_values.specs.CmipTypes.{rdn_sequence}
use Rattle.term_values.specs.Syntaxes.TypeSyntax.{Boolean, Integer, Enumerated, BitString, OctetString}
use Rattle.term_values.specs.Syntaxes.TypeSyntax.{ObjectIdentifier, TextString, GeneralizedTime, Sequence, SetType}
use Rattle.term_values.specs.Syntaxes.TypeSyntax.{SetOf, Choice, Any, Filter}
use Rattle.term_values.specs.Syntaxes.{TypeParts}
use Rattle.term_values.specs.Syntaxes.TypeParts.{NoParts, Part}
use Rattle.term_values.specs.Typed.TypedValue.{Truth, Int, Bits, Octets, Identifier, Text, Time, Parts, Many, Pick, Raw}
use Rattle.term_values.specs.Typed.TypedSlots.{NoSlots, Filled, Empty}
use Rattle.term_values.specs.Typed.TypedValues.{Nothing, Then}
use Rattle.term_values.specs.declared.charset.Charset.TheVariants as charsets
use Rattle.token_grammar.specs.declared.token.Token.{Token}
use Rattle.std.specs.Prelude.{if◌then◌else◌}
use Rattle.asn1_leaf_values.specs.Arcs.{NamedArcs}
use Rattle.asn1_values.specs.Filters.{value_named, value_said}
use Rattle.asn1_leaf_values.specs.Literals.{same_name}
use Rattle.asn1_leaf_values.specs.TextValues.{TextValue, TextParts}
use Rattle.asn1_leaf_values.specs.TextValues.TextValue.{Literal, Number, Name, Chosen, InBraces, InArcs}
use Rattle.asn1_leaf_values.specs.TextValues.TextParts.{NoTexts, AndText}

abbrev literal : ℕ → List ℕ → TextValue
literal kind text = Literal (record { kind = kind; at = 0; text = text })

-- a part without a name
abbrev one : TextValue → TextParts → TextParts
one text others = AndText [] text others

abbrev number : List ℕ → TextValue
number digits = Number false digits

-- X.680, sections 18.3 and 19.9
truth : value_said Boolean (literal 0 (codes "TRUE")) ≡ Some (Truth true)
truth = refl

below_zero : value_said (Integer [] []) (Number true (codes "5")) ≡ Some (Int (negsuc 4))
below_zero = refl

greatest : value_said (Integer [] []) (number (codes "9223372036854775807")) ≡ Some (Int (pos 9223372036854775807))
greatest = refl

past_64_bits : value_said (Integer [] []) (number (codes "9223372036854775808")) ≡ None
past_64_bits = refl

-- of two names that are one, the first
first_name : value_said (Integer ((codes "a", pos 7) ∷ (codes "a", pos 8) ∷ []) []) (Name (codes "a")) ≡ Some
    (Int (pos 7))
first_name = refl

no_number : value_said (Enumerated ((codes "a", pos 7) ∷ [])) (number (codes "7")) ≡ None
no_number = refl

-- X.680, section 22.9: bits in digits, and by their names
bits_in_digits : value_said (BitString [] []) (literal 4 (codes "'10110'B")) ≡ Some (Bits (176 ∷ []) 3)
bits_in_digits = refl

bits_by_names : value_said (BitString ((codes "a", pos 0) ∷ (codes "b", pos 9) ∷ []) [])
    (InBraces (one (Name (codes "b")) (one (Name (codes "a")) NoTexts))) ≡ Some (Bits (128 ∷ 64 ∷ []) 6)
bits_by_names = refl

-- X.680, section 23.3
filled_up : value_said (OctetString []) (literal 3 (codes "'ABC'H")) ≡ Some (Octets (171 ∷ 192 ∷ []))
filled_up = refl

-- X.680, section 32.3
iso_3 : value_said ObjectIdentifier (InBraces (AndText (codes "iso") (number (codes "3")) NoTexts))
    ≡ Some (Identifier (1 ∷ 3 ∷ []))
iso_3 = refl

numbers : value_said ObjectIdentifier (InArcs None (codes "2" ∷ codes "999" ∷ [])) ≡ Some (Identifier (2 ∷ 999 ∷ []))
numbers = refl

other_name : value_said ObjectIdentifier (InArcs (Some (codes "dmi")) (codes "3" ∷ [])) ≡ None
other_name = refl

-- X.680, section 12.14: a doubled quotation mark stands for one
doubled : value_said (TextString charsets.Ia5 []) (literal 2 (34 ∷ 97 ∷ 34 ∷ 34 ∷ 98 ∷ 34 ∷ []))
    ≡ Some (Text (97 ∷ 34 ∷ 98 ∷ []))
doubled = refl

-- X.208, section 20.5: a component that is left out holds its default
with_default : value_said (Sequence (Part (codes "a") (Integer [] []) false (Some (Int (pos 5)))
    (Part (codes "b") Boolean true None NoParts))) (InBraces NoTexts)
    ≡ Some (Parts (Filled (Int (pos 5)) (Empty NoSlots)))
with_default = refl

-- two components of one name: the first text of the name is the first one's, the next that of the next one
abbrev twice : TypeParts
twice = Part (codes "a") (Integer [] []) true None (Part (codes "b") Boolean true None
    (Part (codes "a") Boolean true None NoParts))

abbrev part : List ℕ → TextValue → TextParts → TextParts
part name text others = AndText name text others

both_given : value_said (Sequence twice)
    (InBraces (part (codes "a") (number (codes "1")) (part (codes "a") (literal 0 (codes "TRUE")) NoTexts)))
    ≡ Some (Parts (Filled (Int (pos 1)) (Empty (Filled (Truth true) NoSlots))))
both_given = refl

one_given : value_said (Sequence twice) (InBraces (part (codes "a") (number (codes "1")) NoTexts))
    ≡ Some (Parts (Filled (Int (pos 1)) (Empty (Empty NoSlots))))
one_given = refl

second_alone : value_said (Sequence twice) (InBraces (part (codes "a") (literal 0 (codes "TRUE")) NoTexts)) ≡ None
second_alone = refl

-- behind b only the second one of the name is left
first_passed : value_said (Sequence twice) (InBraces (part (codes "b") (literal 0 (codes "FALSE"))
    (part (codes "a") (literal 0 (codes "TRUE")) NoTexts)))
    ≡ Some (Parts (Empty (Filled (Truth false) (Filled (Truth true) NoSlots))))
first_passed = refl

any_order : value_said (SetType
    (Part (codes "a") (Integer [] []) false None (Part (codes "b") Boolean false None NoParts)))
    (InBraces (AndText (codes "b") (literal 0 (codes "FALSE")) (AndText (codes "a") (number (codes "1")) NoTexts)))
    ≡ Some (Parts (Filled (Int (pos 1)) (Filled (Truth false) NoSlots)))
any_order = refl

both_given_of_a_set : value_said (SetType twice)
    (InBraces (part (codes "a") (number (codes "1")) (part (codes "a") (literal 0 (codes "TRUE"))
    (part (codes "b") (literal 0 (codes "FALSE")) NoTexts))))
    ≡ Some (Parts (Filled (Int (pos 1)) (Filled (Truth false) (Filled (Truth true) NoSlots))))
both_given_of_a_set = refl

one_given_of_a_set : value_said (SetType twice)
    (InBraces (part (codes "b") (literal 0 (codes "FALSE")) (part (codes "a") (number (codes "1")) NoTexts)))
    ≡ Some (Parts (Filled (Int (pos 1)) (Filled (Truth false) (Empty NoSlots))))
one_given_of_a_set = refl

-- of a set the first text of the name is the first one's wherever it stands
other_order_of_a_set : value_said (SetType twice)
    (InBraces (part (codes "a") (literal 0 (codes "TRUE")) (part (codes "a") (number (codes "1")) NoTexts))) ≡ None
other_order_of_a_set = refl

-- X.690, section 11.6
rising : value_said (SetOf (Integer [] []) []) (InBraces (one (number (codes "2")) (one (number (codes "1")) NoTexts)))
    ≡ Some (Many (Then (Int (pos 1)) (Then (Int (pos 2)) Nothing)))
unfolding identifier_octets length_octets integer_contents subidentifier identifier_of length_at front_of
rising = refl

-- X.680, section 29.11
chosen : value_said (Choice (Part (codes "a") Boolean false None (Part (codes "b") (Integer [] []) false None NoParts)))
    (Chosen (codes "b") (number (codes "1"))) ≡ Some (Pick 1 (Int (pos 1)))
chosen = refl

-- X.208, section 27: of indefinite length, kept with definite lengths
kept : value_said Any (literal 3 (codes "'30800201050000'H")) ≡ Some (Raw (48 ∷ 3 ∷ 2 ∷ 1 ∷ 5 ∷ []))
unfolding identifier_octets length_octets integer_contents subidentifier identifier_of length_at front_of
kept = refl

-- X.711, section 7.5, type CMISFilter
empty_and : value_said Filter (Chosen (codes "and") (InBraces NoTexts)) ≡ Some (Raw (169 ∷ 0 ∷ []))
unfolding identifier_octets length_octets integer_contents subidentifier identifier_of length_at front_of
empty_and = refl

present : value_said Filter
    (Chosen (codes "item") (Chosen (codes "present") (Chosen (codes "localForm") (number (codes "5")))))
    ≡ Some (Raw (168 ∷ 5 ∷ 164 ∷ 3 ∷ 129 ∷ 1 ∷ 5 ∷ []))
unfolding identifier_octets length_octets integer_contents subidentifier identifier_of length_at front_of
present = refl

filters_rising : value_said Filter (Chosen (codes "and") (InBraces (one (Chosen (codes "or") (InBraces NoTexts))
    (one (Chosen (codes "and") (InBraces NoTexts)) NoTexts)))) ≡ Some (Raw (169 ∷ 4 ∷ 169 ∷ 0 ∷ 170 ∷ 0 ∷ []))
unfolding identifier_octets length_octets integer_contents subidentifier identifier_of length_at front_of
filters_rising = refl

-- X.501, section 9.2: components without names
name : value_said rdn_sequence (InBraces (one (InBraces (one (InBraces
    (one (InArcs None (codes "2" ∷ codes "999" ∷ [])) (one (literal 3 (codes "'0500'H")) NoTexts))) NoTexts)) NoTexts))
    ≡ Some (Many (Then (Many (Then (Parts (Filled (Identifier (2 ∷ 999 ∷ [])) (Filled (Raw (5 ∷ 0 ∷ [])) NoSlots)))
    Nothing)) Nothing))
unfolding identifier_octets length_octets integer_contents subidentifier identifier_of length_at front_of
name = refl

-- X.680, section 32.3: names that modules define, alone and before numbers
abbrev defined : NamedArcs
defined given = if same_name given (codes "dmi") then Some (2 ∷ 9 ∷ 3 ∷ []) else None

behind_defined : value_named defined ObjectIdentifier (InArcs (Some (codes "dmi")) (codes "3" ∷ []))
    ≡ Some (Identifier (2 ∷ 9 ∷ 3 ∷ 3 ∷ []))
behind_defined = refl

defined_alone : value_named defined ObjectIdentifier (InBraces (one (Name (codes "dmi")) NoTexts))
    ≡ Some (Identifier (2 ∷ 9 ∷ 3 ∷ []))
defined_alone = refl

defined_with_number : value_named defined ObjectIdentifier
    (InBraces (AndText (codes "dmi") (number (codes "2")) NoTexts)) ≡ Some (Identifier (2 ∷ 9 ∷ 3 ∷ 2 ∷ []))
defined_with_number = refl
