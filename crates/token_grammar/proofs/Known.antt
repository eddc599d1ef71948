-- What is known of a test where it is known which token stands there: the test computes.
use Rattle.std.proofs.Common.{◌≡◌, ℕ, Bool, true, false, ◌&&◌, ◌||◌, List, [], ◌∷◌, nat_eq, refl, sym, subst}
use Rattle.std.proofs.lemmas.Bool.{eqb-true}
use Rattle.std.specs.Cmp.Lexicographic.{same_text}
use Rattle.token_grammar.specs.declared.token.Token.{Token}
use Rattle.token_grammar.specs.TokenTests.{is_word_of, is_one_of, is_sign_of, is_label, is_name, is_word, is_string}
use Rattle.token_grammar.specs.TokenTests.{is_number}

pub first_so : (a b : Bool) → (a && b) ≡ true → a ≡ true
first_so true b e = refl
first_so false b e = e

pub second_so : (a b : Bool) → (a && b) ≡ true → b ≡ true
second_so true b e = e
second_so false b e = absurd (cc e)

-- the token of a kind, with a place and a text
abbrev pub token_of : ℕ → ℕ → List ℕ → Token
token_of kind at text = record { kind = kind; at = at; text = text }

of_kind : (kind : ℕ) (answer : Bool) (test : Token → Bool)
    → ((at : ℕ) (text : List ℕ) → test (token_of kind at text) ≡ answer) → (t : Token) → t.kind ≡ kind → test t ≡ answer
of_kind kind answer test computes t is =
    subst (λ (x : ℕ). test (token_of x t.at t.text) ≡ answer) (sym is) (computes t.at t.text)

of_text : (kind : ℕ) (text : List ℕ) (answer : Bool) (test : Token → Bool)
    → ((at : ℕ) → test (token_of kind at text) ≡ answer) → (t : Token) → t.kind ≡ kind → t.text ≡ text → test t ≡ answer
of_text kind text answer test computes t is same =
    subst (λ (x : ℕ). test (token_of x t.at t.text) ≡ answer) (sym is)
    (subst (λ (x : List ℕ). test (token_of kind t.at x) ≡ answer) (sym same) (computes t.at))

-- a test at this word
pub at_word : (text : List ℕ) (answer : Bool) (test : Token → Bool) → ((at : ℕ) → test (token_of 0 at text) ≡ answer)
    → (t : Token) → is_word_of text t ≡ true → test t ≡ answer
at_word text answer test computes t e =
    of_text 0 text answer test computes t (eqb-true t.kind 0 (first_so (nat_eq t.kind 0) _ e))
    (same_text t.text text (sym (second_so (nat_eq t.kind 0) _ e)))

-- a test at this sign
pub at_sign : (text : List ℕ) (answer : Bool) (test : Token → Bool) → ((at : ℕ) → test (token_of 5 at text) ≡ answer)
    → (t : Token) → is_sign_of text t ≡ true → test t ≡ answer
at_sign text answer test computes t e =
    of_text 5 text answer test computes t (eqb-true t.kind 5 (first_so (nat_eq t.kind 5) _ e))
    (same_text t.text text (sym (second_so (nat_eq t.kind 5) _ e)))

-- a test at any word, number or string
pub at_any_word : (answer : Bool) (test : Token → Bool)
    → ((at : ℕ) (text : List ℕ) → test (token_of 0 at text) ≡ answer) → (t : Token) → is_word t ≡ true → test t ≡ answer
at_any_word answer test computes t e = of_kind 0 answer test computes t (eqb-true t.kind 0 e)

pub at_number : (answer : Bool) (test : Token → Bool) → ((at : ℕ) (text : List ℕ) → test (token_of 1 at text) ≡ answer)
    → (t : Token) → is_number t ≡ true → test t ≡ answer
at_number answer test computes t e = of_kind 1 answer test computes t (eqb-true t.kind 1 e)

pub at_string : (answer : Bool) (test : Token → Bool) → ((at : ℕ) (text : List ℕ) → test (token_of 2 at text) ≡ answer)
    → (t : Token) → is_string t ≡ true → test t ≡ answer
at_string answer test computes t e = of_kind 2 answer test computes t (eqb-true t.kind 2 e)

-- a test at any label or name, which are words
pub at_label : (answer : Bool) (test : Token → Bool) → ((at : ℕ) (text : List ℕ) → test (token_of 0 at text) ≡ answer)
    → (t : Token) → is_label t ≡ true → test t ≡ answer
at_label answer test computes t e =
    of_kind 0 answer test computes t (eqb-true t.kind 0 (first_so (nat_eq t.kind 0) _ e))

pub at_name : (answer : Bool) (test : Token → Bool) → ((at : ℕ) (text : List ℕ) → test (token_of 0 at text) ≡ answer)
    → (t : Token) → is_name t ≡ true → test t ≡ answer
at_name answer test computes t e = of_kind 0 answer test computes t (eqb-true t.kind 0 (first_so (nat_eq t.kind 0) _ e))

-- a test at each of these words
abbrev pub EachComputes : (Token → Bool) → Bool → List (List ℕ) → Type 0
EachComputes test answer [] = Unit {0}
EachComputes test answer (text ∷ texts) =
    ((at : ℕ) → test (token_of 0 at text) ≡ answer) × EachComputes test answer texts

pub at_one_of : (texts : List (List ℕ)) (answer : Bool) (test : Token → Bool) → EachComputes test answer texts
    → (t : Token) → is_one_of texts t ≡ true → test t ≡ answer
at_one_of [] answer test each t e = absurd (cc e)
at_one_of (text ∷ texts) answer test each t e = go (at_one_of texts answer test each.1 t) (is_word_of text t) refl e
  where
    go : (is_one_of texts t ≡ true → test t ≡ answer) → (b : Bool) → is_word_of text t ≡ b
        → (b || is_one_of texts t) ≡ true → test t ≡ answer
    go others true is h = at_word text answer test each.0 t is
    go others false is h = others h
