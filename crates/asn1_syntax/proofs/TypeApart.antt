-- Which parts are apart from the tokens with which types go on, and which parts may be missing behind them.
use Rattle.std.proofs.Common.{◌≡◌, ℕ, Bool, true, false, ◌||◌, List, [], ◌∷◌, refl, slice_get, codes}
use Rattle.token_grammar.specs.declared.token.Token.{Token}
use Rattle.token_grammar.specs.Form.{Form, Maybe, Named, Then}
use Rattle.token_grammar.specs.Spelling.{At, passes}
use Rattle.token_grammar.specs.TokenTests.{is_name, is_word_of}
use Rattle.token_grammar.specs.Parts.{either, sign}
use Rattle.token_grammar.proofs.Heads.{at_wider, or_left, or_right, skips, starts}
use Rattle.token_grammar.proofs.Known.{at_name, at_one_of, at_sign, at_word, token_of}
use Rattle.token_grammar.proofs.OpenParts.{Meets}
use Rattle.token_grammar.proofs.Parts.{separates_by}
use Rattle.token_grammar.proofs.Sequences.{Apart, apart_by}
use Rattle.token_grammar.proofs.Turns.{Separates}
use Rattle.asn1_values_syntax.specs.Asn1.{asn1}
use Rattle.asn1_values_syntax.specs.TypeEnds.{is_alternatives_end, is_component_end, is_component_list_end}
use Rattle.asn1_values_syntax.specs.TypeEnds.{is_components_end, is_plain_end, is_presence_start, is_type_end}
use Rattle.asn1_values_syntax.specs.TypeForms.{brace, constraints, defined, is_structure, is_tag_mode, parenthesis}
use Rattle.asn1_values_syntax.specs.TypeForms.{point, presence}
use Rattle.asn1_values_syntax.specs.ValueForms.{colon, comma, types}
use Rattle.asn1_values_syntax.proofs.Cases.{either_case}
use Rattle.asn1_values_syntax.proofs.FirstTokens.{firsts, firsts_lead, meets_when, quiet_when}
use Rattle.asn1_values_syntax.proofs.Quiet.{Quiet}

-- a test at a token with which a type may go on
plain_end_case : (answer : Bool) (test : Token → Bool) → ((at : ℕ) → test (token_of 5 at (codes "{")) ≡ answer) →
    ((at : ℕ) → test (token_of 5 at (codes ".")) ≡ answer) → ((at : ℕ) → test (token_of 0 at (codes "DEFINED")) ≡
    answer) → (t : Token) → is_plain_end t ≡ true → test t ≡ answer
plain_end_case answer test braces points words = either_case {p = brace} {q = either point defined} answer test
    (at_sign (codes "{") answer test braces) (either_case {p = point} {q = defined} answer test
    (at_sign (codes ".") answer test points) (at_word (codes "DEFINED") answer test words))

pub type_end_case : (answer : Bool) (test : Token → Bool) → ((at : ℕ) → test (token_of 5 at (codes "(")) ≡ answer) →
    ((at : ℕ) → test (token_of 5 at (codes "{")) ≡ answer) → ((at : ℕ) → test (token_of 5 at (codes ".")) ≡ answer) →
    ((at : ℕ) → test (token_of 0 at (codes "DEFINED")) ≡ answer) → (t : Token) → is_type_end t ≡ true → test t ≡
    answer
type_end_case answer test parentheses braces points words = either_case {p = parenthesis} {q = is_plain_end} answer
    test
    (at_sign (codes "(") answer test parentheses) (plain_end_case answer test braces points words)

presence_case : (answer : Bool) (test : Token → Bool) → ((at : ℕ) → test (token_of 0 at (codes "OPTIONAL")) ≡
    answer) →
    ((at : ℕ) → test (token_of 0 at (codes "DEFAULT")) ≡ answer) → (t : Token) → is_presence_start t ≡ true → test t ≡
    answer
presence_case answer test optionals defaults = at_one_of (codes "OPTIONAL" ∷ codes "DEFAULT" ∷ []) answer test
    (optionals, (defaults, tt))

component_end_case : (answer : Bool) (test : Token → Bool) → ((t : Token) → is_type_end t ≡ true → test t ≡ answer) →
    ((at : ℕ) → test (token_of 0 at (codes "OPTIONAL")) ≡ answer) →
    ((at : ℕ) → test (token_of 0 at (codes "DEFAULT")) ≡ answer) → ((at : ℕ) → test (token_of 5 at (codes ":")) ≡
    answer) → (t : Token) → is_component_end t ≡ true → test t ≡ answer
component_end_case answer test types_end optionals defaults colons = either_case {p = is_type_end}
    {q = either is_presence_start colon} answer test types_end (either_case {p = is_presence_start} {q = colon} answer
    test (presence_case answer test optionals defaults) (at_sign (codes ":") answer test colons))

-- IMPLICIT and EXPLICIT begin no type
pub mode_apart : {tokens : List Token} → Apart tokens asn1 is_tag_mode (Named types)
mode_apart = apart_by firsts firsts_lead (Named types) refl (at_one_of (codes "IMPLICIT" ∷ codes "EXPLICIT" ∷ [])
    false
    (starts firsts (Named types)) ((λ at. refl), ((λ at. refl), tt)))

-- SEQUENCE and SET begin no other type
pub structure_quiet : {tokens : List Token} {on : Token → Bool} (f : Form) {i : ℕ} → passes is_structure
    (slice_get tokens i) ≡ true → ((at : ℕ) → (starts firsts f (token_of 0 at (codes "SEQUENCE")) || skips firsts f) ≡
    false) → ((at : ℕ) → (starts firsts f (token_of 0 at (codes "SET")) || skips firsts f) ≡ false) → Quiet tokens
    asn1
    on f i
structure_quiet f here sequences sets = quiet_when f here (at_one_of (codes "SEQUENCE" ∷ codes "SET" ∷ []) false
    (λ t. starts firsts f t || skips firsts f) (sequences, (sets, tt)))

-- constraints behind a type, which may be missing
pub plain_meets : {tokens : List Token} → Meets tokens asn1 is_plain_end is_type_end constraints
plain_meets = meets_when constraints (λ t e. or_right (parenthesis t) (is_plain_end t) e)
    (plain_end_case false (starts firsts constraints) (λ at. refl) (λ at. refl) (λ at. refl))

pub parenthesis_type : {tokens : List Token} (m : ℕ) → At tokens m parenthesis → At tokens m is_type_end
parenthesis_type m here = at_wider is_type_end (λ t e. or_left (parenthesis t) (is_plain_end t) e) here

-- OPTIONAL and DEFAULT behind a type, which may be missing
pub presence_meets : {tokens : List Token} → Meets tokens asn1 is_type_end is_component_end (Maybe presence)
presence_meets = meets_when (Maybe presence) (λ t e. or_left (is_type_end t) (either is_presence_start colon t) e)
    (type_end_case false (starts firsts (Maybe presence)) (λ at. refl) (λ at. refl) (λ at. refl) (λ at. refl))

pub colon_component : {tokens : List Token} (m : ℕ) → At tokens m colon → At tokens m is_component_end
colon_component m here = at_wider is_component_end (λ t e. or_right (is_type_end t) (either is_presence_start colon t)
    (or_right (is_presence_start t) (colon t) e)) here

pub presence_component : {tokens : List Token} {m : ℕ} → At tokens m is_presence_start → At tokens m is_component_end
presence_component here = at_wider is_component_end (λ t e. or_right (is_type_end t)
    (either is_presence_start colon t)
    (or_left (is_presence_start t) (colon t) e)) here

pub presence_starts : (t : Token) → ((is_word_of (codes "OPTIONAL") t || false) || is_word_of (codes "DEFAULT") t) ≡
    true → is_presence_start t ≡ true
presence_starts t e = alone (is_word_of (codes "OPTIONAL") t) (is_word_of (codes "DEFAULT") t) e
  where
    alone : (a b : Bool) → ((a || false) || b) ≡ true → (a || (b || false)) ≡ true
    alone true b e = refl
    alone false true e = refl
    alone false false e = e

-- commas separate components and alternatives, and a brace ends them
pub components_separate : {tokens : List Token} → Separates tokens comma is_component_end is_component_list_end
components_separate = separates_by (component_end_case false comma
    (type_end_case false comma (λ at. refl) (λ at. refl)
    (λ at. refl) (λ at. refl)) (λ at. refl) (λ at. refl) (λ at. refl))

pub alternatives_separate : {tokens : List Token} → Separates tokens comma is_type_end is_alternatives_end
alternatives_separate = separates_by (type_end_case false comma (λ at. refl) (λ at. refl) (λ at. refl) (λ at. refl))

pub alternatives_apart : {tokens : List Token} → Apart tokens asn1 is_alternatives_end
    (Then (sign (codes "}")) constraints)
alternatives_apart = apart_by firsts firsts_lead (Then (sign (codes "}")) constraints) refl
    (either_case {p = comma} {q = is_type_end} false (starts firsts (Then (sign (codes "}")) constraints))
    (at_sign (codes ",") false (starts firsts (Then (sign (codes "}")) constraints)) (λ at. refl))
    (type_end_case false (starts firsts (Then (sign (codes "}")) constraints)) (λ at. refl) (λ at. refl) (λ at. refl)
    (λ at. refl)))

name_no_brace : (t : Token) → is_name t ≡ true → starts firsts (Then (sign (codes "}")) constraints) t ≡ false
name_no_brace = at_name false (starts firsts (Then (sign (codes "}")) constraints)) (λ at text. refl)

pub components_apart : {tokens : List Token} → Apart tokens asn1 is_components_end
    (Then (sign (codes "}")) constraints)
components_apart = apart_by firsts firsts_lead (Then (sign (codes "}")) constraints) refl
    (either_case {p = is_name} {q = is_component_list_end} false (starts firsts (Then (sign (codes "}")) constraints))
    name_no_brace (either_case {p = comma} {q = is_component_end} false
    (starts firsts (Then (sign (codes "}")) constraints)) (at_sign (codes ",") false
    (starts firsts (Then (sign (codes "}")) constraints)) (λ at. refl))
    (component_end_case false (starts firsts (Then (sign (codes "}")) constraints))
    (type_end_case false (starts firsts (Then (sign (codes "}")) constraints)) (λ at. refl) (λ at. refl) (λ at. refl)
    (λ at. refl)) (λ at. refl) (λ at. refl) (λ at. refl))))

pub name_components : {tokens : List Token} {m : ℕ} → At tokens m is_name → At tokens m is_components_end
name_components here = at_wider is_components_end (λ t e. or_left (is_name t) (is_component_list_end t) e) here

pub list_components : {tokens : List Token} (m : ℕ) → At tokens m is_component_list_end → At tokens m
    is_components_end
list_components m here = at_wider is_components_end (λ t e. or_right (is_name t) (is_component_list_end t) e) here
