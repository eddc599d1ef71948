-- No test of the table of ASN.1's forms tells one name from another.
use Rattle.std.proofs.Common.{◌≡◌, ℕ, zero, suc, Bool, true, false, List, [], ◌∷◌, refl, sym, ◌∙◌, codes}
use Rattle.token_grammar.specs.declared.token.Token.{Token}
use Rattle.token_grammar.specs.TokenTests.{is_arc_start, is_name, is_number, is_one_of, is_sign_of, is_word, is_word_of}
use Rattle.token_grammar.specs.Parts.{arc, named_number, object_identifier}
use Rattle.token_grammar.proofs.Heads.{or_right}
use Rattle.token_grammar.proofs.Known.{EachComputes, at_name, at_one_of, at_word, token_of}
use Rattle.asn1_values_syntax.specs.Asn1.{asn1, assignment, exports, imports, module_form, module_head, symbols}
use Rattle.asn1_values_syntax.specs.Keywords.{DecidedByKeywords}
use Rattle.asn1_values_syntax.specs.TypeForms.{any_type, bit_string_type, choice_type, components, constraints}
use Rattle.asn1_values_syntax.specs.TypeForms.{is_simple_type, is_tag_mode, list_of, named_bits, named_integers}
use Rattle.asn1_values_syntax.specs.TypeForms.{plain_type, presence, ranges, size, structured_type, tag, type_form}
use Rattle.asn1_values_syntax.specs.TypeForms.{type_name}
use Rattle.asn1_values_syntax.specs.ValueForms.{arcs_end, bound, braces, is_literal, named_value, parts_end}
use Rattle.asn1_values_syntax.specs.ValueForms.{signed_number, value_form}
use Rattle.asn1_values_syntax.proofs.Blind.{Blind, FormBlind, begins_alike, spells_alike}
use Rattle.asn1_values_syntax.proofs.Values.{flip, name_no_literal}

never : (test : Token → Bool) → ((t : Token) → is_name t ≡ true → test t ≡ false) → Blind test
never test no_name t u p q = no_name t p ∙ sym (no_name u q)

always : (test : Token → Bool) → ((t : Token) → is_name t ≡ true → test t ≡ true) → Blind test
always test all t u p q = all t p ∙ sym (all u q)

-- a sign, a keyword, one of some keywords
b_sign : (text : List ℕ) → Blind (is_sign_of text)
b_sign text = never (is_sign_of text) (at_name false (is_sign_of text) (λ at other. refl))

b_word : (text : List ℕ) → ((at : ℕ) → is_name (token_of 0 at text) ≡ false) → Blind (is_word_of text)
b_word text computes = never (is_word_of text) (flip (is_word_of text) is_name (at_word text false is_name computes))

b_one : (texts : List (List ℕ)) → EachComputes is_name false texts → Blind (is_one_of texts)
b_one texts each = never (is_one_of texts) (flip (is_one_of texts) is_name (at_one_of texts false is_name each))

b_name : Blind is_name
b_name = always is_name (λ t e. e)

b_any_word : Blind is_word
b_any_word = always is_word (at_name true is_word (λ at text. refl))

b_number : Blind is_number
b_number = never is_number (at_name false is_number (λ at text. refl))

b_arc_start : Blind is_arc_start
b_arc_start = always is_arc_start (λ t e. or_right (is_number t) (is_name t) e)

b_literal : Blind is_literal
b_literal = never is_literal name_no_literal

b_keyword : (text : List ℕ) → ((at : ℕ) → is_name (token_of 0 at text) ≡ false) → Blind (is_one_of (text ∷ []))
b_keyword text computes = b_one (text ∷ []) (computes, tt)

-- parts that templates have too
b_named_number : FormBlind named_number
b_named_number = (b_name, ((b_sign (codes "("), tt), (b_number, (b_sign (codes ")"), tt))))

b_arc : FormBlind arc
b_arc = (b_number, b_named_number)

b_identifier : FormBlind object_identifier
b_identifier = (b_sign (codes "{"), ((b_arc, b_name), (b_arc, (b_sign (codes "}"), tt))))

-- values
b_signed_number : FormBlind signed_number
b_signed_number = (b_sign (codes "-"), b_number)

b_bound : FormBlind bound
b_bound = (b_signed_number, b_name)

b_arcs_end : FormBlind arcs_end
b_arcs_end = (((b_number, (b_arc, b_arc)), (b_named_number, b_arc)), (b_sign (codes "}"), tt))

b_parts_end : FormBlind parts_end
b_parts_end = ((b_sign (codes ","), ((b_name, tt), tt)), (b_sign (codes "}"), tt))

b_braces : FormBlind braces
b_braces = (b_sign (codes "{"), ((b_sign (codes "}"), tt), (b_parts_end, (b_arcs_end, (b_name, b_arcs_end)))))

b_named_value : FormBlind named_value
b_named_value = (b_name, ((b_sign (codes ":"), tt), tt))

b_value : FormBlind value_form
b_value = (b_literal, (b_signed_number, (b_named_value, b_braces)))

-- constraints, named numbers and tags
b_ranges : FormBlind ranges
b_ranges = (b_sign (codes "|"), (b_bound, ((b_sign (codes ".."), tt), b_bound)))

b_size : FormBlind size
b_size = ((b_word (codes "SIZE") (λ at. refl), tt), ((b_sign (codes "("), tt), (b_ranges, (b_sign (codes ")"), tt))))

b_constraints : FormBlind constraints
b_constraints = ((b_sign (codes "("), tt), ((b_size, b_ranges), (b_sign (codes ")"), tt)))

b_named_integers : FormBlind named_integers
b_named_integers = (
  (b_sign (codes "{"), tt),
  (
    (
      b_sign (codes ","),
      (b_name, ((b_sign (codes "("), tt), (b_bound, (b_sign (codes ")"), tt)))),
    ),
    (b_sign (codes "}"), tt),
  ),
)

b_named_bits : FormBlind named_bits
b_named_bits = (
  (b_sign (codes "{"), tt),
  (
    (
      b_sign (codes ","),
      (
        b_name,
        ((b_sign (codes "("), tt), (b_arc_start, (b_sign (codes ")"), tt))),
      ),
    ),
    (b_sign (codes "}"), tt),
  ),
)

b_mode : Blind is_tag_mode
b_mode = b_one (codes "IMPLICIT" ∷ codes "EXPLICIT" ∷ []) ((λ at. refl), ((λ at. refl), tt))

b_tag : FormBlind tag
b_tag = (
  b_sign (codes "["),
  (
    b_one (codes "UNIVERSAL" ∷ codes "APPLICATION" ∷ codes "PRIVATE" ∷ [])
        ((λ at. refl), ((λ at. refl), ((λ at. refl), tt))),
    (b_arc_start, (b_sign (codes "]"), tt)),
  ),
)

-- types
b_simple : Blind is_simple_type
b_simple = b_one (codes "BOOLEAN" ∷ codes "NULL" ∷ codes "IA5String" ∷ codes "PrintableString" ∷ codes "NumericString"
    ∷ codes "VisibleString" ∷ codes "GraphicString" ∷ codes "GeneralizedTime" ∷ []) (
      (λ at. refl),
      (
        (λ at. refl),
        (
          (λ at. refl),
          (
            (λ at. refl),
            (
              (λ at. refl),
              ((λ at. refl), ((λ at. refl), ((λ at. refl), tt))),
            ),
          ),
        ),
      ),
    )

b_bit_string : FormBlind bit_string_type
b_bit_string = (b_keyword (codes "BIT") (λ at. refl), ((b_word (codes "STRING") (λ at. refl), tt), b_named_bits))

b_any : FormBlind any_type
b_any = (
  b_keyword (codes "ANY") (λ at. refl),
  (
    (
      b_word (codes "DEFINED") (λ at. refl),
      (b_word (codes "BY") (λ at. refl), tt),
    ),
    b_name,
  ),
)

b_type_name : FormBlind type_name
b_type_name = (b_name, ((b_sign (codes "."), tt), b_name))

b_plain : FormBlind plain_type
b_plain = (
  b_simple,
  (
    (b_keyword (codes "INTEGER") (λ at. refl), b_named_integers),
    (
      (b_keyword (codes "ENUMERATED") (λ at. refl), b_named_integers),
      (
        b_bit_string,
        (
          (b_keyword (codes "OCTET") (λ at. refl), (b_word (codes "STRING") (λ at. refl), tt)),
          (
            (b_keyword (codes "OBJECT") (λ at. refl), (b_word (codes "IDENTIFIER") (λ at. refl), tt)),
            (b_any, b_type_name),
          ),
        ),
      ),
    ),
  ),
)

b_presence : FormBlind presence
b_presence = (b_keyword (codes "OPTIONAL") (λ at. refl), ((b_word (codes "DEFAULT") (λ at. refl), tt), tt))

b_components : FormBlind components
b_components = (
  (b_sign (codes "{"), tt),
  (
    (b_sign (codes ","), (b_name, (tt, b_presence))),
    ((b_sign (codes "}"), tt), b_constraints),
  ),
)

b_list_of : FormBlind list_of
b_list_of = (
  ((b_sign (codes "("), tt), (b_size, (b_sign (codes ")"), tt))),
  ((b_word (codes "OF") (λ at. refl), tt), tt),
)

b_structured : FormBlind structured_type
b_structured = (
  b_one (codes "SEQUENCE" ∷ codes "SET" ∷ []) ((λ at. refl), ((λ at. refl), tt)),
  (b_components, b_list_of),
)

b_choice : FormBlind choice_type
b_choice = (
  b_keyword (codes "CHOICE") (λ at. refl),
  (
    (b_sign (codes "{"), tt),
    ((b_sign (codes ","), (b_name, tt)), ((b_sign (codes "}"), tt), b_constraints)),
  ),
)

b_type : FormBlind type_form
b_type = ((b_tag, (b_mode, tt)), (b_structured, (b_choice, (b_plain, b_constraints))))

-- modules
b_head : FormBlind module_head
b_head = (
  b_name,
  (
    b_identifier,
    (
      (b_word (codes "DEFINITIONS") (λ at. refl), tt),
      (
        (b_mode, (b_word (codes "TAGS") (λ at. refl), tt)),
        (
          (b_sign (codes "::="), tt),
          (b_word (codes "BEGIN") (λ at. refl), tt),
        ),
      ),
    ),
  ),
)

b_exports : FormBlind exports
b_exports = (
  (b_word (codes "EXPORTS") (λ at. refl), tt),
  (
    (b_sign (codes ","), b_any_word),
    (b_sign (codes ";"), tt),
  ),
)

b_symbols : FormBlind symbols
b_symbols = ((b_sign (codes ","), b_name), ((b_word (codes "FROM") (λ at. refl), tt), (b_name, b_identifier)))

b_imports : FormBlind imports
b_imports = ((b_word (codes "IMPORTS") (λ at. refl), tt), (b_symbols, (b_symbols, (b_sign (codes ";"), tt))))

b_assignment : FormBlind assignment
b_assignment = (b_name, (((b_sign (codes "::="), tt), tt), (tt, ((b_sign (codes "::="), tt), tt))))

b_module : FormBlind module_form
b_module = (b_head, (b_exports, (b_imports, (b_assignment, (b_word (codes "END") (λ at. refl), tt)))))

table : (n : ℕ) → FormBlind (asn1 n)
table zero = b_module
table (suc zero) = b_type
table (suc (suc zero)) = b_value
table (suc (suc (suc n))) = never (λ t. false) (λ t e. refl)

pub decided : DecidedByKeywords
decided ts us same n i k = record {
  spelt = λ a s. spells_alike table same tt s;
  begun = λ b. begins_alike table same
      tt b;
}
