-- Which parts of a module are apart from the tokens with which the parts before them go on.
use Rattle.std.proofs.Common.{◌≡◌, ℕ, true, false, List, [], ◌∷◌, refl, codes}
use Rattle.token_grammar.specs.declared.token.Token.{Token}
use Rattle.token_grammar.specs.Form.{Keep, Many, Marks, Maybe, Named, Then, Empty}
use Rattle.token_grammar.specs.Spelling.{At}
use Rattle.token_grammar.specs.TokenTests.{is_name, is_word, is_word_of}
use Rattle.token_grammar.specs.Parts.{object_identifier, sign, words}
use Rattle.token_grammar.proofs.Heads.{at_wider, or_left, or_right, starts}
use Rattle.token_grammar.proofs.Known.{at_any_word, at_name, at_one_of, at_sign, at_word}
use Rattle.token_grammar.proofs.Sequences.{Apart, apart_by}
use Rattle.asn1_values_syntax.specs.Asn1.{asn1, assignment, imports, symbols, tag_default}
use Rattle.asn1_values_syntax.specs.TypeEnds.{is_assignment_end, is_assignments_end, is_exports_end, is_imports_end}
use Rattle.asn1_values_syntax.specs.TypeEnds.{is_type_end}
use Rattle.asn1_values_syntax.specs.TypeForms.{brace, is_tag_mode}
use Rattle.asn1_values_syntax.specs.ValueForms.{colon, comma, values}
use Rattle.asn1_values_syntax.proofs.Cases.{either_case}
use Rattle.asn1_values_syntax.proofs.FirstTokens.{firsts, firsts_lead, sign_apart, word_apart}
use Rattle.asn1_values_syntax.proofs.Values.{flip}
use Rattle.asn1_syntax.proofs.TypeApart.{type_end_case}

-- the head
pub head_apart : {tokens : List Token} → Apart tokens asn1 brace (Then (Marks (words (codes "DEFINITIONS" ∷ [])))
    (Then (Maybe tag_default) (Then (sign (codes "::=")) (Marks (words (codes "BEGIN" ∷ []))))))
head_apart = sign_apart (codes "{") (Then (Marks (words (codes "DEFINITIONS" ∷ [])))
    (Then (Maybe tag_default) (Then (sign (codes "::=")) (Marks (words (codes "BEGIN" ∷ [])))))) refl (λ at. refl)

pub default_apart : {tokens : List Token} → Apart tokens asn1 is_tag_mode
    (Then (sign (codes "::=")) (Marks (words (codes "BEGIN" ∷ []))))
default_apart = apart_by firsts firsts_lead (Then (sign (codes "::=")) (Marks (words (codes "BEGIN" ∷ [])))) refl
    (at_one_of (codes "IMPLICIT" ∷ codes "EXPLICIT" ∷ []) false (starts firsts
    (Then (sign (codes "::=")) (Marks (words (codes "BEGIN" ∷ []))))) ((λ at. refl), ((λ at. refl), tt)))

-- what stands behind exports and imports that may be missing
pub imports_away : {tokens : List Token} → Apart tokens asn1 (is_word_of (codes "EXPORTS")) (Then (Maybe imports)
    (Then (Many Empty assignment) (Marks (words (codes "END" ∷ [])))))
imports_away = word_apart (codes "EXPORTS") (Then (Maybe imports)
    (Then (Many Empty assignment) (Marks (words (codes "END" ∷ []))))) refl (λ at. refl)

pub assignments_away : {tokens : List Token} → Apart tokens asn1 (is_word_of (codes "IMPORTS"))
    (Then (Many Empty assignment) (Marks (words (codes "END" ∷ []))))
assignments_away = word_apart (codes "IMPORTS") (Then (Many Empty assignment) (Marks (words (codes "END" ∷ [])))) refl
    (λ at. refl)

-- exports
pub exports_apart : {tokens : List Token} → Apart tokens asn1 is_exports_end (sign (codes ";"))
exports_apart = apart_by firsts firsts_lead (sign (codes ";")) refl
    (either_case {p = is_word} {q = comma} false (starts firsts (sign (codes ";")))
    (at_any_word false (starts firsts (sign (codes ";"))) (λ at text. refl))
    (at_sign (codes ",") false (starts firsts (sign (codes ";"))) (λ at. refl)))

pub word_exports : {tokens : List Token} {m : ℕ} → At tokens m is_word → At tokens m is_exports_end
word_exports here = at_wider is_exports_end (λ t e. or_left (is_word t) (comma t) e) here

pub comma_exports : {tokens : List Token} (m : ℕ) → At tokens m comma → At tokens m is_exports_end
comma_exports m here = at_wider is_exports_end (λ t e. or_right (is_word t) (comma t) e) here

-- imports
pub from_apart : {tokens : List Token} → Apart tokens asn1 comma (Then (Marks (words (codes "FROM" ∷ [])))
    (Then (Keep is_name) (Maybe object_identifier)))
from_apart = sign_apart (codes ",") (Then (Marks (words (codes "FROM" ∷ [])))
    (Then (Keep is_name) (Maybe object_identifier))) refl (λ at. refl)

pub symbols_apart : {tokens : List Token} → Apart tokens asn1 brace symbols
symbols_apart = sign_apart (codes "{") symbols refl (λ at. refl)

pub further_apart : {tokens : List Token} → Apart tokens asn1 brace (Then (Many Empty symbols) (sign (codes ";")))
further_apart = sign_apart (codes "{") (Then (Many Empty symbols) (sign (codes ";"))) refl (λ at. refl)

pub imports_apart : {tokens : List Token} → Apart tokens asn1 is_imports_end (sign (codes ";"))
imports_apart = apart_by firsts firsts_lead (sign (codes ";")) refl
    (either_case {p = is_name} {q = brace} false (starts firsts (sign (codes ";")))
    (at_name false (starts firsts (sign (codes ";"))) (λ at text. refl))
    (at_sign (codes "{") false (starts firsts (sign (codes ";"))) (λ at. refl)))

pub brace_imports : {tokens : List Token} (m : ℕ) → At tokens m brace → At tokens m is_imports_end
brace_imports m here = at_wider is_imports_end (λ t e. or_right (is_name t) (brace t) e) here

-- assignments
pub value_apart : {tokens : List Token} → Apart tokens asn1 is_type_end (Then (sign (codes "::=")) (Named values))
value_apart = apart_by firsts firsts_lead (Then (sign (codes "::=")) (Named values)) refl
    (type_end_case false (starts firsts (Then (sign (codes "::=")) (Named values))) (λ at. refl) (λ at. refl)
    (λ at. refl) (λ at. refl))

pub type_assigned : {tokens : List Token} (m : ℕ) → At tokens m is_type_end → At tokens m is_assignment_end
type_assigned m here = at_wider is_assignment_end (λ t e. or_right (colon t) (is_type_end t) e) here

pub value_assigned : {tokens : List Token} (m : ℕ) → At tokens m colon → At tokens m is_assignment_end
value_assigned m here = at_wider is_assignment_end (λ t e. or_left (colon t) (is_type_end t) e) here

pub assignment_apart : {tokens : List Token} → Apart tokens asn1 is_assignment_end assignment
assignment_apart = apart_by firsts firsts_lead assignment refl (either_case {p = colon} {q = is_type_end} false
    (starts firsts assignment) (at_sign (codes ":") false (starts firsts assignment) (λ at. refl))
    (type_end_case false (starts firsts assignment) (λ at. refl) (λ at. refl) (λ at. refl) (λ at. refl)))

pub assignment_more : {tokens : List Token} (m : ℕ) → At tokens m is_assignment_end → At tokens m is_assignments_end
assignment_more m here = at_wider is_assignments_end (λ t e. or_right (is_name t) (is_assignment_end t) e) here

-- no name is the word END
name_no_end : (t : Token) → is_name t ≡ true → is_word_of (codes "END") t ≡ false
name_no_end = flip (is_word_of (codes "END")) is_name (at_word (codes "END") false is_name (λ at. refl))

pub end_apart : {tokens : List Token} → Apart tokens asn1 is_assignments_end (Marks (words (codes "END" ∷ [])))
end_apart = apart_by firsts firsts_lead (Marks (words (codes "END" ∷ []))) refl
    (either_case {p = is_name} {q = is_assignment_end} false (is_word_of (codes "END")) name_no_end
    (either_case {p = colon} {q = is_type_end} false (is_word_of (codes "END"))
    (at_sign (codes ":") false (is_word_of (codes "END")) (λ at. refl))
    (type_end_case false (is_word_of (codes "END")) (λ at. refl) (λ at. refl) (λ at. refl) (λ at. refl))))
