-- With which tokens the forms of ASN.1 begin, and what doesn't begin here.
use Rattle.std.proofs.Common.{◌≡◌, ℕ, zero, suc, Bool, true, false, ◌||◌, List, slice_get}
use Rattle.token_grammar.specs.declared.token.Token.{Token}
use Rattle.token_grammar.specs.Form.{Form}
use Rattle.token_grammar.specs.Spelling.{passes}
use Rattle.token_grammar.specs.TokenTests.{is_word_of, is_sign_of, is_name, is_number}
use Rattle.token_grammar.proofs.Heads.{Firsts, Heads, skips, starts, stops_unless}
use Rattle.token_grammar.proofs.Sequences.{Apart, apart_by}
use Rattle.token_grammar.proofs.OpenParts.{Meets, meets_by}
use Rattle.token_grammar.proofs.Clauses.{stops_by}
use Rattle.token_grammar.proofs.Known.{at_word, at_sign, at_name, at_number, token_of}
use Rattle.asn1_values_syntax.specs.ValueForms.{is_value_start}
use Rattle.asn1_values_syntax.specs.TypeEnds.{is_type_start}
use Rattle.asn1_values_syntax.specs.Asn1.{asn1}
use Rattle.asn1_values_syntax.proofs.Quiet.{Quiet}

-- the tokens with which the form of a number begins; none is spelt by no tokens
abbrev pub first_tokens : ℕ → Token → Bool
first_tokens zero = is_name
first_tokens (suc zero) = is_type_start
first_tokens (suc (suc zero)) = is_value_start
first_tokens (suc (suc (suc n))) = λ token. false

abbrev pub firsts : Firsts
firsts = record { begins = first_tokens; empty = λ n. false }

never_empty : (n : ℕ) → skips firsts (asn1 n) ≡ true → false ≡ true
never_empty zero e = e
never_empty (suc zero) e = e
never_empty (suc (suc zero)) e = e
never_empty (suc (suc (suc n))) e = e

begins : (n : ℕ) (token : Token) → starts firsts (asn1 n) token ≡ true → first_tokens n token ≡ true
begins zero token e = e
begins (suc zero) token e = e
begins (suc (suc zero)) token e = e
begins (suc (suc (suc n))) token e = e

pub firsts_lead : Heads asn1 firsts
firsts_lead = record { empty = never_empty; first = begins }

-- a form that can't begin with the tokens of a test
pub quiet_when : {tokens : List Token} {on p : Token → Bool} (f : Form) {i : ℕ} → passes p (slice_get tokens i) ≡
    true →
    ((t : Token) → p t ≡ true → (starts firsts f t || skips firsts f) ≡ false) → Quiet tokens asn1 on f i
quiet_when f here never = record {
  stops = λ k order. stops_by firsts firsts_lead f order (record { passed = here })
      never;
}

pub quiet_word : {tokens : List Token} {on : Token → Bool} (text : List ℕ) (f : Form) {i : ℕ} → passes
    (is_word_of text)
    (slice_get tokens i) ≡ true → ((at : ℕ) → (starts firsts f (token_of 0 at text) || skips firsts f) ≡ false) →
    Quiet
    tokens asn1 on f i
quiet_word text f here computes = quiet_when f here (at_word text false (λ t. starts firsts f t || skips firsts f)
    computes)

pub quiet_sign : {tokens : List Token} {on : Token → Bool} (text : List ℕ) (f : Form) {i : ℕ} → passes
    (is_sign_of text)
    (slice_get tokens i) ≡ true → ((at : ℕ) → (starts firsts f (token_of 5 at text) || skips firsts f) ≡ false) →
    Quiet
    tokens asn1 on f i
quiet_sign text f here computes = quiet_when f here (at_sign text false (λ t. starts firsts f t || skips firsts f)
    computes)

pub quiet_name : {tokens : List Token} {on : Token → Bool} (f : Form) {i : ℕ} → passes is_name (slice_get tokens i) ≡
    true → ((at : ℕ) (text : List ℕ) → (starts firsts f (token_of 0 at text) || skips firsts f) ≡ false) → Quiet
    tokens
    asn1 on f i
quiet_name f here computes = quiet_when f here (at_name false (λ t. starts firsts f t || skips firsts f) computes)

pub quiet_number : {tokens : List Token} {on : Token → Bool} (f : Form) {i : ℕ} → passes is_number
    (slice_get tokens i)
    ≡ true → ((at : ℕ) (text : List ℕ) → (starts firsts f (token_of 1 at text) || skips firsts f) ≡ false) → Quiet
    tokens asn1 on f i
quiet_number f here computes = quiet_when f here (at_number false (λ t. starts firsts f t || skips firsts f) computes)

-- a form whose first tokens all pass a test that the next token fails
pub quiet_unless : {tokens : List Token} {on : Token → Bool} (p : Token → Bool) (f : Form) {i : ℕ} → skips firsts f ≡
    false → ((t : Token) → starts firsts f t ≡ true → p t ≡ true) → passes p (slice_get tokens i) ≡ false → Quiet
    tokens
    asn1 on f i
quiet_unless p f {i} full implies fails = record {
  stops = λ k order. stops_unless firsts firsts_lead p f i k order full
      implies fails;
}

-- what stands behind an open part doesn't begin with a token with which the part might go on
pub sign_apart : {tokens : List Token} (text : List ℕ) (g : Form) → skips firsts g ≡ false →
    ((at : ℕ) → starts firsts g (token_of 5 at text) ≡ false) → Apart tokens asn1 (is_sign_of text) g
sign_apart text g full computes = apart_by firsts firsts_lead g full (at_sign text false (starts firsts g) computes)

pub word_apart : {tokens : List Token} (text : List ℕ) (g : Form) → skips firsts g ≡ false →
    ((at : ℕ) → starts firsts g (token_of 0 at text) ≡ false) → Apart tokens asn1 (is_word_of text) g
word_apart text g full computes = apart_by firsts firsts_lead g full (at_word text false (starts firsts g) computes)

-- and where it may be missing, the whole may go on with such a token
pub meets_when : {tokens : List Token} {on on' : Token → Bool} (g : Form) →
    ((t : Token) → on t ≡ true → on' t ≡ true) →
    ((t : Token) → on t ≡ true → starts firsts g t ≡ false) → Meets tokens asn1 on on' g
meets_when g wide never = meets_by firsts firsts_lead g wide never
