-- Which parts are apart from the tokens with which the parts before them go on.
use Rattle.std.proofs.Common.{◌≡◌, ℕ, Bool, true, false, ◌||◌, List, [], ◌∷◌, refl, slice_get, codes}
use Rattle.token_grammar.specs.declared.token.Token.{Token}
use Rattle.token_grammar.specs.Form.{Or}
use Rattle.token_grammar.specs.Spelling.{At, passes}
use Rattle.token_grammar.specs.Parts.{either}
use Rattle.token_grammar.proofs.Heads.{at_wider, or_left, or_right, skips, starts}
use Rattle.token_grammar.proofs.Known.{at_one_of}
use Rattle.asn1_values_syntax.specs.Asn1.{asn1}
use Rattle.asn1_values_syntax.specs.TypeEnds.{is_plain_end}
use Rattle.asn1_values_syntax.specs.TypeForms.{any_type, bit_string_type, brace, defined, enumerated_type, integer_type}
use Rattle.asn1_values_syntax.specs.TypeForms.{is_simple_type, object_identifier_type, octet_string_type, point}
use Rattle.asn1_values_syntax.specs.TypeForms.{type_name}
use Rattle.asn1_values_syntax.proofs.FirstTokens.{firsts, quiet_when}
use Rattle.asn1_values_syntax.proofs.Quiet.{Quiet}

-- what may go on with a brace, a point or DEFINED
pub brace_plain : {tokens : List Token} (m : ℕ) → At tokens m brace → At tokens m is_plain_end
brace_plain m here = at_wider is_plain_end (λ t e. or_left (brace t) (either point defined t) e) here

pub point_plain : {tokens : List Token} (m : ℕ) → At tokens m point → At tokens m is_plain_end
point_plain m here = at_wider is_plain_end (λ t e. or_right (brace t) (either point defined t)
    (or_left (point t) (defined t) e)) here

pub defined_plain : {tokens : List Token} (m : ℕ) → At tokens m defined → At tokens m is_plain_end
defined_plain m here = at_wider is_plain_end (λ t e. or_right (brace t) (either point defined t)
    (or_right (point t) (defined t) e)) here

-- where a type of one word stands, no other one does
pub simple_quiet : {tokens : List Token} {on : Token → Bool} {i : ℕ} → passes is_simple_type (slice_get tokens i) ≡
    true → Quiet tokens asn1 on (Or integer_type (Or enumerated_type
    (Or bit_string_type (Or octet_string_type (Or object_identifier_type (Or any_type type_name)))))) i
simple_quiet here = quiet_when (Or integer_type (Or enumerated_type
    (Or bit_string_type (Or octet_string_type (Or object_identifier_type (Or any_type type_name)))))) here
    (at_one_of (codes "BOOLEAN" ∷ codes "NULL" ∷ codes "IA5String" ∷ codes "PrintableString" ∷ codes "NumericString" ∷
    codes "VisibleString" ∷ codes "GraphicString" ∷ codes "GeneralizedTime" ∷ []) false
    (λ t. starts firsts (Or integer_type (Or enumerated_type (Or bit_string_type
    (Or octet_string_type (Or object_identifier_type (Or any_type type_name)))))) t || skips firsts
    (Or integer_type (Or enumerated_type (Or bit_string_type (Or octet_string_type
    (Or object_identifier_type (Or any_type type_name))))))) (
      (λ at. refl),
      (
        (λ at. refl),
        (
          (λ at. refl),
          (
            (λ at. refl),
            (
              (λ at. refl),
              ((λ at. refl), ((λ at. refl), ((λ at. refl), tt))),
            ),
          ),
        ),
      ),
    ))
