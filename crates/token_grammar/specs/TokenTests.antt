-- Tests of one token: which words, signs, labels and names there are (X.722, section 8.2; X.680,
-- section 12; docs/PROFILE.md, section 2).
use Rattle.std.specs.Prelude.{ℕ, Bool, List, [], ◌∷◌, ◌&&◌, ◌||◌, not, ◌==◌, nat_le, codes}
use Rattle.std.specs.List.{list_any}
use Rattle.std.specs.Cmp.Lexicographic.{pointwise}
use Rattle.token_grammar.specs.declared.token.Token.{Token}
use Rattle.token_grammar.specs.Kinds.{word_kind, number_kind, string_kind, sign_kind}

-- this word
abbrev pub is_word_of : List ℕ → Token → Bool
is_word_of text token = (token.kind == word_kind) && pointwise ◌==◌ token.text text

-- one of these words
abbrev pub is_one_of : List (List ℕ) → Token → Bool
is_one_of texts token = list_any (λ text. is_word_of text token) texts

-- this sign
abbrev pub is_sign_of : List ℕ → Token → Bool
is_sign_of text token = (token.kind == sign_kind) && pointwise ◌==◌ token.text text

-- any word
abbrev pub is_word : Token → Bool
is_word token = token.kind == word_kind

abbrev pub is_number : Token → Bool
is_number token = token.kind == number_kind

abbrev pub is_string : Token → Bool
is_string token = token.kind == string_kind

abbrev pub lower_a_octet : ℕ
lower_a_octet = 97

abbrev pub lower_z_octet : ℕ
lower_z_octet = 122

-- a letter from a to z
abbrev pub is_lower_case : ℕ → Bool
is_lower_case octet = nat_le lower_a_octet octet && nat_le octet lower_z_octet

-- A label of a template is a word that isn't in capitals: one with a lower-case letter.
abbrev pub is_label : Token → Bool
is_label token = (token.kind == word_kind) && list_any is_lower_case token.text

-- the words of ASN.1 that name no module, type, value, component or number
abbrev pub reserved_words : List (List ℕ)
reserved_words = codes "DEFINITIONS" ∷ codes "EXPLICIT" ∷ codes "IMPLICIT" ∷ codes "TAGS" ∷ codes "BEGIN" ∷ codes
    "EXPORTS" ∷ codes "IMPORTS" ∷ codes "FROM" ∷ codes "END" ∷ codes "BOOLEAN" ∷ codes "INTEGER" ∷ codes "ENUMERATED"
    ∷ codes "BIT" ∷ codes "STRING" ∷ codes "OCTET" ∷ codes "NULL" ∷ codes "OBJECT" ∷ codes "IDENTIFIER" ∷ codes
    "IA5String" ∷ codes "PrintableString" ∷ codes "NumericString" ∷ codes "VisibleString" ∷ codes "GraphicString"
    ∷ codes "GeneralizedTime" ∷ codes "SEQUENCE" ∷ codes "SET" ∷ codes "OF" ∷ codes "CHOICE" ∷ codes "ANY" ∷ codes
    "DEFINED" ∷ codes "BY" ∷ codes "OPTIONAL" ∷ codes "DEFAULT" ∷ codes "SIZE" ∷ codes "TRUE" ∷ codes "FALSE" ∷ codes
    "UNIVERSAL" ∷ codes "APPLICATION" ∷ codes "PRIVATE" ∷ []

-- a name of a module, a type, a value, a component or a number
abbrev pub is_name : Token → Bool
is_name token = (token.kind == word_kind) && not (is_one_of reserved_words token)

-- what an arc of an object identifier begins with
abbrev pub is_arc_start : Token → Bool
is_arc_start token = is_number token || is_name token
