-- TypeEnds: the tokens with which types begin, and those with which types, assignments and lists of them may go
-- on (X.680, sections 13 to 51).
use Rattle.std.specs.Prelude.{Bool, [], ◌∷◌, ◌||◌, codes}
use Rattle.token_grammar.specs.declared.token.Token.{Token}
use Rattle.token_grammar.specs.TokenTests.{is_one_of, is_name, is_sign_of, is_word}
use Rattle.token_grammar.specs.Parts.{either}
use Rattle.asn1_values_syntax.specs.ValueForms.{colon, comma}
use Rattle.asn1_values_syntax.specs.TypeForms.{bar, brace, defined, dots, is_simple_type, is_structure, parenthesis}
use Rattle.asn1_values_syntax.specs.TypeForms.{point}

abbrev pub is_ranges_end : Token → Bool
is_ranges_end = either bar dots

-- named numbers, DEFINED BY, or a point behind a name
abbrev pub is_plain_end : Token → Bool
is_plain_end = either brace (either point defined)

-- and a constraint
abbrev pub is_type_end : Token → Bool
is_type_end = either parenthesis is_plain_end

abbrev pub is_presence_start : Token → Bool
is_presence_start = is_one_of (codes "OPTIONAL" ∷ codes "DEFAULT" ∷ [])

abbrev pub is_component_end : Token → Bool
is_component_end = either is_type_end (either is_presence_start colon)

abbrev pub is_component_list_end : Token → Bool
is_component_list_end = either comma is_component_end

abbrev pub is_components_end : Token → Bool
is_components_end = either is_name is_component_list_end

abbrev pub is_alternatives_end : Token → Bool
is_alternatives_end = either comma is_type_end

abbrev pub is_assignment_end : Token → Bool
is_assignment_end = either colon is_type_end

abbrev pub is_assignments_end : Token → Bool
is_assignments_end = either is_name is_assignment_end

abbrev pub is_exports_end : Token → Bool
is_exports_end = either is_word comma

abbrev pub is_imports_end : Token → Bool
is_imports_end = either is_name brace

-- the tokens with which a type begins
abbrev pub is_type_start : Token → Bool
is_type_start token = is_sign_of (codes "[") token || (is_structure token ||
    (is_one_of (codes "CHOICE" ∷ []) token || (is_simple_type token ||
    (is_one_of (codes "INTEGER" ∷ []) token || (is_one_of (codes "ENUMERATED" ∷ []) token ||
    (is_one_of (codes "BIT" ∷ []) token || (is_one_of (codes "OCTET" ∷ []) token ||
    (is_one_of (codes "OBJECT" ∷ []) token || (is_one_of (codes "ANY" ∷ []) token || is_name token)))))))))
