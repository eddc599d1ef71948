-- LeafTexts: the values of types that hold no others, and the texts that denote them (X.680, sections 18 to 24, 32, 41
-- and 46; X.208, section 27, for ANY).
use Rattle.std.specs.Prelude.{ℕ, zero, suc, ◌%◌, ◌+◌, List, [], ◌∷◌, Bool, true, false, ◌==◌, ◌&&◌, ℤ, pos, negsuc}
use Rattle.std.specs.Prelude.{Option, None, Some, codes, length, map, option_map, option_and_then, if◌then◌else◌}
use Rattle.std.specs.List.{list_all, list_any}
use Rattle.term_values.specs.BerReading.{tree_at, alone}
use Rattle.term_values.specs.Bounded.{allowed, allowed_size, bit_count, has_character}
use Rattle.term_values.specs.Der.{written}
use Rattle.term_values.specs.LeafReading.{where_it}
use Rattle.term_values.specs.Syntaxes.{Named, Bounds}
use Rattle.term_values.specs.Times.{is_time}
use Rattle.term_values.specs.Tree.{TreeValue}
use Rattle.term_values.specs.Typed.{TypedValue}
use Rattle.term_values.specs.Typed.TypedValue.{Truth, Int, Bits, Octets, Null, Identifier, Text, Time, Raw}
use Rattle.term_values.specs.declared.charset.Charset.{Charset}
use Rattle.token_grammar.specs.Kinds.{hexadecimal_kind}
use Rattle.token_grammar.specs.TokenTests.{is_word_of}
use Rattle.token_grammar.specs.declared.token.Token.{Token}
use Rattle.asn1_leaf_values.specs.Arcs.{NamedArcs, arcs_said, where_oid}
use Rattle.asn1_leaf_values.specs.Bits.{bits_of, packed, filled}
use Rattle.asn1_leaf_values.specs.Literals.{number_said, named_number, string_of}
use Rattle.asn1_leaf_values.specs.TextValues.{TextValue, TextParts}
use Rattle.asn1_leaf_values.specs.TextValues.TextValue.{Literal, Number, Name, InBraces}
use Rattle.asn1_leaf_values.specs.TextValues.TextParts.{NoTexts, AndText}

-- X.680, section 18.3
abbrev pub truth_said : TextValue → Option TypedValue
truth_said (Literal token) =
    if is_word_of (codes "TRUE") token then Some (Truth true)
    else where_it (is_word_of (codes "FALSE") token) (Truth false)
truth_said _ = None

-- X.680, section 24.3
abbrev pub null_said : TextValue → Option TypedValue
null_said (Literal token) = where_it (is_word_of (codes "NULL") token) Null
null_said _ = None

-- X.680, section 19.9: a number with its sign, or the name of one
abbrev pub number_of : Named → TextValue → Option ℤ
number_of names (Number minus digits) = number_said minus digits
number_of names (Name name) = named_number names name
number_of names _ = None

abbrev pub whole_said : Named → Bounds → TextValue → Option TypedValue
whole_said names ranges text = option_and_then (λ n. where_it (allowed ranges n) (Int n)) (number_of names text)

-- X.680, section 20.9: the name alone
abbrev pub enumerated_said : Named → TextValue → Option TypedValue
enumerated_said names (Name name) = option_map Int (named_number names name)
enumerated_said names _ = None

-- digits between apostrophes
abbrev pub literal_bits : TextValue → Option (List Bool)
literal_bits (Literal token) = bits_of token
literal_bits _ = None

-- the number of a bit
abbrev pub bit_number : ℤ → Option ℕ
bit_number (pos n) = Some n
bit_number (negsuc n) = None

-- the number of the bit that a part without a name says by its name
abbrev pub bit_of : Named → List ℕ → TextValue → Option ℕ
bit_of names [] (Name name) = option_and_then bit_number (named_number names name)
bit_of names _ _ = None

-- the numbers of the bits that are named
abbrev pub bit_numbers : Named → TextParts → Option (List ℕ)
bit_numbers names NoTexts = Some []
bit_numbers names (AndText own text others) =
    option_and_then (λ n. option_map (λ ns. n ∷ ns) (bit_numbers names others)) (bit_of names own text)

-- bits of which the one of this number is 1 too
abbrev pub with_bit : ℕ → List Bool → List Bool
with_bit zero [] = true ∷ []
with_bit zero (bit ∷ bits) = true ∷ bits
with_bit (suc n) [] = false ∷ with_bit n []
with_bit (suc n) (bit ∷ bits) = bit ∷ with_bit n bits

-- the bits of these numbers are 1, all others 0, and the last one is 1: X.680, section 22.13
abbrev pub bits_named : List ℕ → List Bool
bits_named [] = []
bits_named (n ∷ ns) = with_bit n (bits_named ns)

-- X.680, section 22.9
abbrev pub bits_said : Named → TextValue → Option (List Bool)
bits_said names (Literal token) = bits_of token
bits_said names (InBraces parts) = option_map bits_named (bit_numbers names parts)
bits_said names _ = None

abbrev pub bit_string : Bounds → List Bool → Option TypedValue
bit_string sizes bits =
    where_it (allowed_size sizes (bit_count (packed bits) (filled bits))) (Bits (packed bits) (filled bits))

abbrev pub bit_string_said : Named → Bounds → TextValue → Option TypedValue
bit_string_said names sizes text = option_and_then (bit_string sizes) (bits_said names text)

-- X.680, section 23.3: the last octet is filled up with 0 bits
abbrev pub octet_string_said : Bounds → TextValue → Option TypedValue
octet_string_said sizes text =
    option_and_then (λ bits. where_it (allowed_size sizes (length (packed bits))) (Octets (packed bits)))
    (literal_bits text)

-- X.680, section 32.3
abbrev pub identifier_said : NamedArcs → TextValue → Option TypedValue
identifier_said names text = option_map Identifier (option_and_then where_oid (arcs_said names text))

abbrev pub string_said : TextValue → Option (List ℕ)
string_said (Literal token) = string_of token
string_said _ = None

-- X.680, section 41.8
abbrev pub text_said : Charset → Bounds → TextValue → Option TypedValue
text_said charset sizes text =
    option_and_then (λ octets.
    where_it (list_all (has_character charset) octets && allowed_size sizes (length octets)) (Text octets))
    (string_said text)

-- X.680, section 46.3
abbrev pub time_said : TextValue → Option TypedValue
time_said text = option_and_then (λ octets. where_it (is_time octets) (Time octets)) (string_said text)

-- the octets of whole octets in hexadecimal digits
abbrev pub whole_octets : TextValue → Option (List ℕ)
whole_octets (Literal token) =
    if token.kind == hexadecimal_kind
    then option_and_then (λ bits. if length bits % 8 == 0 then Some (packed bits) else None) (bits_of token)
    else None
whole_octets _ = None

-- the one value that the octets are, of any depth: no value has as many others round it as there are octets
abbrev pub tree_of : List ℕ → Option TreeValue
tree_of octets = option_and_then alone (tree_at (length octets) octets)

-- an ANY by the octets of one value, kept with definite lengths, as short as may be
abbrev pub any_said : TextValue → Option TypedValue
any_said text = option_map (λ tree. Raw (written tree)) (option_and_then tree_of (whole_octets text))
