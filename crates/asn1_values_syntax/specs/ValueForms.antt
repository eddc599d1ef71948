-- ValueForms: the forms of numbers and of values in ASN.1 (X.680; where X.680 has no such form, its forerunner
-- X.208; docs/PROFILE.md, section 8). The table of all forms stands in Asn1.
use Rattle.std.specs.Prelude.{ℕ, Bool, [], ◌∷◌, ◌||◌, ◌==◌, codes}
use Rattle.token_grammar.specs.declared.token.Token.{Token}
use Rattle.token_grammar.specs.Kinds.{binary_kind, hexadecimal_kind, string_kind}
use Rattle.token_grammar.specs.Form.{Form, Keep, Then, Or, Maybe, Listed, Many, Named, Empty}
use Rattle.token_grammar.specs.TokenTests.{is_one_of, is_sign_of, is_name, is_number}
use Rattle.token_grammar.specs.Parts.{either, sign, arc, named_number}

-- the numbers of the forms that stand in themselves, and of the whole
abbrev pub modules : ℕ
modules = 0

abbrev pub types : ℕ
types = 1

abbrev pub values : ℕ
values = 2

abbrev pub comma : Token → Bool
comma = is_sign_of (codes ",")

abbrev pub minus : Token → Bool
minus = is_sign_of (codes "-")

-- what stands between a name and the value that it chooses
abbrev pub colon : Token → Bool
colon = is_sign_of (codes ":")

-- X.680, sections 18.3, 24.3, 22.16, 23.3 and 41.8: BooleanValue, NullValue, bstring, hstring, cstring
abbrev pub is_literal : Token → Bool
is_literal token = is_one_of (codes "TRUE" ∷ codes "FALSE" ∷ codes "NULL" ∷ []) token ||
    (token.kind == string_kind || (token.kind == hexadecimal_kind || token.kind == binary_kind))

-- X.680, section 19.1: SignedNumber ::= number | "-" number
abbrev pub signed_number : Form
signed_number = Then (Maybe (Keep minus)) (Keep is_number)

-- X.680, section 19.1: NamedNumber ::= identifier "(" SignedNumber ")" | identifier "(" DefinedValue ")";
-- section 51: a bound. A defined value is a name of this module or an imported one.
abbrev pub bound : Form
bound = Or signed_number (Keep is_name)

-- X.680, section 32.3: ObjectIdentifierValue, where it can't be a list of parts. Behind a number stands a
-- further arc, or the number is in parentheses behind its name. Behind a first name without a number stand
-- such arcs.
abbrev pub sure_arcs : Form
sure_arcs = Or (Then (Keep is_number) (Then arc (Many Empty arc))) (Then named_number (Many Empty arc))

-- the tokens with which a value begins
abbrev pub is_value_start : Token → Bool
is_value_start token = is_literal token || ((minus token || is_number token) ||
    (is_name token || is_sign_of (codes "{") token))

-- X.208, section 20.5: NamedValue ::= identifier Value | Value; the same for elements, names of bits, and an
-- object identifier that is written as `{number}`, `{name}` or `{name number}`
abbrev pub part : Form
part = Or (Then (Keep is_name) (Named values)) (Named values)

-- A part may go on where its value might, or where a name was its value and a value follows.
abbrev pub is_part_end : Token → Bool
is_part_end = either colon is_value_start

abbrev pub is_parts_end : Token → Bool
is_parts_end = either comma is_part_end

abbrev pub parts_end : Form
parts_end = Then (Listed comma Empty part) (sign (codes "}"))

abbrev pub arcs_end : Form
arcs_end = Then sure_arcs (sign (codes "}"))

-- X.208, sections 17.5, 20.5, 21.3, 22.3 and 28.7: SequenceValue ::= "{" "}" | "{" ElementValueList "}", and so on
abbrev pub braces_content : Form
braces_content = Or (sign (codes "}")) (Or parts_end (Or arcs_end (Then (Keep is_name) arcs_end)))

abbrev pub braces : Form
braces = Then (Keep (is_sign_of (codes "{"))) braces_content

-- X.680, section 29.11: ChoiceValue ::= identifier ":" Value; sections 19.9 and 20.9: the name of a number
abbrev pub named_value : Form
named_value = Then (Keep is_name) (Maybe (Then (sign (codes ":")) (Named values)))

-- X.680, section 17.7: Value
abbrev pub value_form : Form
value_form = Or (Keep is_literal) (Or signed_number (Or named_value braces))
