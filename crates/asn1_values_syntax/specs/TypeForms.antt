-- TypeForms: the forms of types and constraints in ASN.1 (X.680; where X.680 has no such form, its forerunner
-- X.208; docs/PROFILE.md, section 8). The table of all forms stands in Asn1.
use Rattle.std.specs.Prelude.{ℕ, Bool, List, [], ◌∷◌, codes}
use Rattle.token_grammar.specs.declared.token.Token.{Token}
use Rattle.token_grammar.specs.Form.{Form, Marks, Keep, Then, Or, Maybe, Listed, Many, Named, Empty}
use Rattle.token_grammar.specs.TokenTests.{is_word_of, is_one_of, is_sign_of, is_name, is_arc_start}
use Rattle.token_grammar.specs.Parts.{words, sign}
use Rattle.asn1_values_syntax.specs.ValueForms.{types, values, comma, bound}

-- a word that is kept for its place
abbrev pub keyword : List ℕ → Form
keyword text = Keep (is_one_of (text ∷ []))

abbrev pub bar : Token → Bool
bar = is_sign_of (codes "|")

abbrev pub dots : Token → Bool
dots = is_sign_of (codes "..")

abbrev pub parenthesis : Token → Bool
parenthesis = is_sign_of (codes "(")

abbrev pub brace : Token → Bool
brace = is_sign_of (codes "{")

abbrev pub point : Token → Bool
point = is_sign_of (codes ".")

abbrev pub defined : Token → Bool
defined = is_word_of (codes "DEFINED")

-- a number, or a name that stands in its place
abbrev pub is_number_or_name : Token → Bool
is_number_or_name = is_arc_start

-- X.208, section 37.3.1, 37.3.3: SingleValue | ValueRange; 37.2: SubtypeValueSet "|" ..
abbrev pub range : Form
range = Then bound (Maybe (Then (sign (codes "..")) bound))

abbrev pub ranges : Form
ranges = Listed bar Empty range

-- X.680, section 51.5: SizeConstraint ::= SIZE Constraint
abbrev pub size : Form
size = Then (Marks (words (codes "SIZE" ∷ []))) (Then (sign (codes "(")) (Then ranges (sign (codes ")"))))

-- X.680, section 49.6: Constraint ::= "(" ConstraintSpec ")"
abbrev pub constraint : Form
constraint = Then (sign (codes "(")) (Then (Or size ranges) (sign (codes ")")))

abbrev pub constraints : Form
constraints = Many Empty constraint

-- X.680, section 19.1: "{" NamedNumberList "}"; section 20.1: "{" Enumerations "}"
abbrev pub named_integer : Form
named_integer = Then (Keep is_name) (Then (sign (codes "(")) (Then bound (sign (codes ")"))))

abbrev pub named_integers : Form
named_integers = Then (sign (codes "{")) (Then (Listed comma Empty named_integer) (sign (codes "}")))

-- X.680, section 22.1: NamedBit ::= identifier "(" number ")" | identifier "(" DefinedValue ")"
abbrev pub named_bit : Form
named_bit = Then (Keep is_name) (Then (sign (codes "(")) (Then (Keep is_number_or_name) (sign (codes ")"))))

abbrev pub named_bits : Form
named_bits = Then (sign (codes "{")) (Then (Listed comma Empty named_bit) (sign (codes "}")))

-- X.680, sections 18.1, 24.1, 41.1 and 46.2: types of one word
abbrev pub is_simple_type : Token → Bool
is_simple_type = is_one_of (codes "BOOLEAN" ∷ codes "NULL" ∷ codes "IA5String" ∷ codes "PrintableString" ∷ codes
    "NumericString" ∷ codes "VisibleString" ∷ codes "GraphicString" ∷ codes "GeneralizedTime" ∷ [])

-- X.680, sections 19.1, 20.1, 22.1, 23.1 and 32.1
abbrev pub integer_type : Form
integer_type = Then (keyword (codes "INTEGER")) (Maybe named_integers)

abbrev pub enumerated_type : Form
enumerated_type = Then (keyword (codes "ENUMERATED")) named_integers

abbrev pub bit_string_type : Form
bit_string_type = Then (keyword (codes "BIT")) (Then (Marks (words (codes "STRING" ∷ []))) (Maybe named_bits))

abbrev pub octet_string_type : Form
octet_string_type = Then (keyword (codes "OCTET")) (Marks (words (codes "STRING" ∷ [])))

abbrev pub object_identifier_type : Form
object_identifier_type = Then (keyword (codes "OBJECT")) (Marks (words (codes "IDENTIFIER" ∷ [])))

-- X.208, section 27.1: AnyType ::= ANY | ANY DEFINED BY identifier
abbrev pub any_type : Form
any_type = Then (keyword (codes "ANY")) (Maybe (Then (Marks (words (codes "DEFINED" ∷ codes "BY" ∷ [])))
    (Keep is_name)))

-- X.680, sections 14.1 and 14.6: typereference, or ExternalTypeReference ::= modulereference "." typereference
abbrev pub type_name : Form
type_name = Then (Keep is_name) (Maybe (Then (sign (codes ".")) (Keep is_name)))

abbrev pub plain_type : Form
plain_type = Or (Keep is_simple_type) (Or integer_type (Or enumerated_type
    (Or bit_string_type (Or octet_string_type (Or object_identifier_type (Or any_type type_name))))))

-- X.680, section 31.2.1: Tag ::= "[" Class ClassNumber "]"; no class is the class of a context
abbrev pub is_class : Token → Bool
is_class = is_one_of (codes "UNIVERSAL" ∷ codes "APPLICATION" ∷ codes "PRIVATE" ∷ [])

abbrev pub tag : Form
tag = Then (Keep (is_sign_of (codes "["))) (Then (Maybe (Keep is_class))
    (Then (Keep is_number_or_name) (sign (codes "]"))))

abbrev pub is_tag_mode : Token → Bool
is_tag_mode = is_one_of (codes "IMPLICIT" ∷ codes "EXPLICIT" ∷ [])

-- X.680, section 31.2.1: TaggedType ::= Tag Type | Tag IMPLICIT Type | Tag EXPLICIT Type
abbrev pub tagged_type : Form
tagged_type = Then tag (Then (Maybe (Keep is_tag_mode)) (Named types))

-- X.208, section 20.1: NamedType OPTIONAL | NamedType DEFAULT Value, where each component has a name
abbrev pub presence : Form
presence = Or (keyword (codes "OPTIONAL")) (Then (Marks (words (codes "DEFAULT" ∷ []))) (Named values))

abbrev pub component : Form
component = Then (Keep is_name) (Then (Named types) (Maybe presence))

-- X.208, sections 20.1 and 22.1: "{" "}" | "{" ElementTypeList "}", and constraints of the whole
abbrev pub components : Form
components = Then (sign (codes "{")) (Then (Maybe (Listed comma Empty component))
    (Then (sign (codes "}")) constraints))

-- X.680, sections 26.1, 28.1 and 49.7: OF Type | SizeConstraint OF Type, the latter in parentheses
abbrev pub list_size : Form
list_size = Then (sign (codes "(")) (Then size (sign (codes ")")))

abbrev pub list_of : Form
list_of = Then (Maybe list_size) (Then (Marks (words (codes "OF" ∷ []))) (Named types))

abbrev pub is_structure : Token → Bool
is_structure = is_one_of (codes "SEQUENCE" ∷ codes "SET" ∷ [])

abbrev pub structured_type : Form
structured_type = Then (Keep is_structure) (Or components list_of)

-- X.680, section 29.1: ChoiceType ::= CHOICE "{" AlternativeTypeLists "}"
abbrev pub alternative : Form
alternative = Then (Keep is_name) (Named types)

abbrev pub choice_type : Form
choice_type = Then (keyword (codes "CHOICE")) (Then (sign (codes "{"))
    (Then (Listed comma Empty alternative) (Then (sign (codes "}")) constraints)))

-- X.680, sections 17.1, 17.2 and 49.1: Type, with constraints
abbrev pub type_form : Form
type_form = Or tagged_type (Or structured_type (Or choice_type (Then plain_type constraints)))
