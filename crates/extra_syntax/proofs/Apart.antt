-- Which parts are apart from the tokens with which the parts before them go on.
use Rattle.std.proofs.Common.{◌≡◌, ℕ, Bool, true, false, not, ◌&&◌, ◌||◌, List, [], ◌∷◌, refl, slice_get, codes}
use Rattle.token_grammar.specs.declared.token.Token.{Token}
use Rattle.token_grammar.specs.Form.{Maybe, Named, Then}
use Rattle.token_grammar.specs.Spelling.{At, passes}
use Rattle.token_grammar.specs.TokenTests.{is_label, is_name, is_sign_of, is_word_of}
use Rattle.token_grammar.specs.Parts.{sign}
use Rattle.token_grammar.proofs.Heads.{at_wider, or_left, or_right, starts}
use Rattle.token_grammar.proofs.Known.{at_name, at_number, at_one_of, at_sign, token_of}
use Rattle.token_grammar.proofs.Parts.{apart_either, separates_by}
use Rattle.token_grammar.proofs.Sequences.{Apart, apart_by}
use Rattle.token_grammar.proofs.Turns.{Separates}
use Rattle.asn1_values_syntax.specs.Asn1.{asn1}
use Rattle.asn1_values_syntax.specs.ValueForms.{colon, comma, is_value_start, values}
use Rattle.asn1_values_syntax.proofs.Cases.{either_case, literal_case, value_case}
use Rattle.asn1_values_syntax.proofs.FirstTokens.{firsts, firsts_lead, quiet_when, sign_apart, word_apart}
use Rattle.asn1_values_syntax.proofs.Quiet.{Quiet}
use Rattle.asn1_values_syntax.proofs.Values.{flip}
use Rattle.extra_syntax.specs.SectionForms.{instance, is_reserved_label, packages, word}
use Rattle.extra_syntax.specs.SectionEnds.{is_assignments_end, is_instance_start, is_on, is_packages, is_packages_end}
use Rattle.extra_syntax.specs.SectionEnds.{is_step_end, is_steps_end, is_with, is_with_end}

-- a sign with which no value begins or goes on
step_end_sign : (text : List ℕ) → ((at : ℕ) → is_sign_of text (token_of 5 at (codes ":")) ≡ false) →
    ((at : ℕ) → is_sign_of text (token_of 5 at (codes "-")) ≡ false) →
    ((at : ℕ) → is_sign_of text (token_of 5 at (codes "{")) ≡ false) → (t : Token) → is_step_end t ≡ true → is_sign_of
    text t ≡ false
step_end_sign text colons minuses braces = either_case {p = colon} {q = is_value_start} false (is_sign_of text)
    (at_sign (codes ":") false (is_sign_of text) colons)
    (value_case false (is_sign_of text) (literal_case false (is_sign_of text) (
      (λ at. refl),
      (
        (λ at. refl),
        ((λ at. refl), tt),
      ),
    )
    (λ at other. refl) (λ at other. refl) (λ at other. refl)) minuses
    (at_number false (is_sign_of text) (λ at other. refl)) (at_name false (is_sign_of text) (λ at other. refl)) braces)

-- steps
pub step_separates : {tokens : List Token} → Separates tokens comma is_step_end is_steps_end
step_separates = separates_by (step_end_sign (codes ",") (λ at. refl) (λ at. refl) (λ at. refl))

pub steps_apart : {tokens : List Token} → Apart tokens asn1 is_steps_end (sign (codes ";"))
steps_apart = apart_either (sign_apart (codes ",") (sign (codes ";")) refl (λ at. refl))
    (apart_by firsts firsts_lead (sign (codes ";")) refl
    (step_end_sign (codes ";") (λ at. refl) (λ at. refl) (λ at. refl)))

pub colon_step : {tokens : List Token} (m : ℕ) → At tokens m colon → At tokens m is_step_end
colon_step m here = at_wider is_step_end (λ t e. or_left (colon t) (is_value_start t) e) here

pub value_step : {tokens : List Token} {m : ℕ} → At tokens m is_value_start → At tokens m is_step_end
value_step here = at_wider is_step_end (λ t e. or_right (colon t) (is_value_start t) e) here

-- where a label stands that ASN.1 doesn't leave free, no value begins
name_not_reserved : (t : Token) → is_name t ≡ true → is_reserved_label t ≡ false
name_not_reserved t e = go (is_label t) (is_name t) e
  where
    go : (a b : Bool) → b ≡ true → (a && not b) ≡ false
    go true true e = refl
    go false true e = refl
    go a false e = absurd (cc e)

start_not_reserved : (t : Token) → is_value_start t ≡ true → is_reserved_label t ≡ false
start_not_reserved = value_case false is_reserved_label
    (literal_case false is_reserved_label ((λ at. refl), ((λ at. refl), ((λ at. refl), tt))) (λ at other. refl)
    (λ at other. refl) (λ at other. refl)) (λ at. refl) (at_number false is_reserved_label (λ at other. refl))
    name_not_reserved (λ at. refl)

pub reserved_quiet : {tokens : List Token} {on : Token → Bool} {i : ℕ} → passes is_reserved_label (slice_get tokens i) ≡
    true → Quiet tokens asn1 on (Named values) i
reserved_quiet here = quiet_when (Named values) here (λ t e. no_start t
    (flip is_value_start is_reserved_label start_not_reserved t e))
  where
    no_start : (t : Token) → is_value_start t ≡ false → (is_value_start t || false) ≡ false
    no_start t e = go (is_value_start t) e
      where
        go : (b : Bool) → b ≡ false → (b || false) ≡ false
        go true e = e
        go false e = refl

-- rules
pub on_apart : {tokens : List Token} → Apart tokens asn1 is_on (word (codes "END"))
on_apart = word_apart (codes "ON") (word (codes "END")) refl (λ at. refl)

-- pairs of an attribute and its value
pub assignment_separates : {tokens : List Token} → Separates tokens comma colon is_assignments_end
assignment_separates = separates_by (at_sign (codes ":") false comma (λ at. refl))

pub brace_apart : {tokens : List Token} → Apart tokens asn1 is_assignments_end (sign (codes "}"))
brace_apart = apart_either (sign_apart (codes ",") (sign (codes "}")) refl (λ at. refl))
    (sign_apart (codes ":") (sign (codes "}")) refl (λ at. refl))

-- what stands behind an instance's name
pub with_apart : {tokens : List Token} → Apart tokens asn1 is_with_end (Then (Maybe packages) (sign (codes ";")))
with_apart = apart_either (word_apart (codes "WITH") (Then (Maybe packages) (sign (codes ";"))) refl (λ at. refl))
    (apart_either (sign_apart (codes ",") (Then (Maybe packages) (sign (codes ";"))) refl (λ at. refl))
    (sign_apart (codes ":") (Then (Maybe packages) (sign (codes ";"))) refl (λ at. refl)))

pub with_comes : {tokens : List Token} {m : ℕ} → At tokens m is_with → At tokens m is_with_end
with_comes here = at_wider is_with_end (λ t e. or_left (is_with t) (is_assignments_end t) e) here

pub pairs_with : {tokens : List Token} (m : ℕ) → At tokens m is_assignments_end → At tokens m is_with_end
pairs_with m here = at_wider is_with_end (λ t e. or_right (is_with t) (is_assignments_end t) e) here

pub packages_apart : {tokens : List Token} → Apart tokens asn1 is_packages_end (sign (codes ";"))
packages_apart = apart_either (word_apart (codes "PACKAGES") (sign (codes ";")) refl (λ at. refl))
    (sign_apart (codes ",") (sign (codes ";")) refl (λ at. refl))

pub packages_come : {tokens : List Token} {m : ℕ} → At tokens m is_packages → At tokens m is_packages_end
packages_come here = at_wider is_packages_end (λ t e. or_left (is_packages t) (comma t) e) here

pub labels_packages : {tokens : List Token} (m : ℕ) → At tokens m comma → At tokens m is_packages_end
labels_packages m here = at_wider is_packages_end (λ t e. or_right (is_packages t) (comma t) e) here

-- instances
pub instances_apart : {tokens : List Token} → Apart tokens asn1 is_instance_start (word (codes "END"))
instances_apart = apart_by firsts firsts_lead (word (codes "END")) refl
    (at_one_of (codes "ROOT" ∷ codes "OBJECT" ∷ []) false (starts firsts (word (codes "END")))
    ((λ at. refl), ((λ at. refl), tt)))

pub instance_starts : (t : Token) → starts firsts instance t ≡ true → is_instance_start t ≡ true
instance_starts t e = go (is_word_of (codes "ROOT") t) (is_word_of (codes "OBJECT") t) e
  where
    go : (a b : Bool) → ((a || false) || (b || false)) ≡ true → (a || (b || false)) ≡ true
    go true b e = refl
    go false b e = e
