-- The openings of the nine templates, which begin with a label and a keyword, and what is known of tokens that pass two
-- tests.
use Rattle.std.proofs.Common.{◌≡◌, ℕ, zero, suc, Bool, true, false, not, ◌&&◌, ◌||◌, List, [], ◌∷◌, Option, refl, codes}
use Rattle.token_grammar.specs.declared.token.Token.{Token}
use Rattle.token_grammar.specs.Form.{Form, Slots}
use Rattle.token_grammar.specs.TokenTests.{is_word_of, is_one_of, is_sign_of, is_label, is_name, is_number, is_string}
use Rattle.token_grammar.specs.TokenTests.{is_word}
use Rattle.token_grammar.specs.Parts.{label_reference, arc}
use Rattle.token_grammar.proofs.Known.{EachComputes, token_of, at_one_of, at_word, at_sign, at_any_word, at_label}
use Rattle.token_grammar.proofs.Known.{at_name, at_number, at_string, first_so, second_so}
use Rattle.grammar_laws.specs.Opening.{Opening, front, never, token_opening, opening, clauses_opening}
use Rattle.grammar_laws.specs.Decided.{AreAlternatives, Parts}
use Rattle.grammar_laws.proofs.Leading.{Leads, leads, clauses_lead, front_first}
use Rattle.grammar_laws.proofs.GoingOn.{GoesOn, further, goes_on}
use Rattle.grammar_laws.proofs.TestLaws.{no, or_false, either_of}

-- a label and a keyword, and what ends by itself
abbrev pub labelled : (Token → Bool) → Opening
labelled keyword = record never {
  first = is_label;
  second = keyword;
  two = λ token next. is_label token && keyword next;
}

abbrev pub openings : ℕ → Opening
openings zero = labelled (is_word_of (codes "BEHAVIOUR"))
openings (suc zero) = labelled (is_word_of (codes "ATTRIBUTE"))
openings (suc (suc zero)) = labelled (is_word_of (codes "PARAMETER"))
openings (suc (suc (suc zero))) = labelled (is_word_of (codes "ATTRIBUTE"))
openings (suc (suc (suc (suc zero)))) = labelled (is_word_of (codes "ACTION"))
openings (suc (suc (suc (suc (suc zero))))) = labelled (is_word_of (codes "NOTIFICATION"))
openings (suc (suc (suc (suc (suc (suc zero)))))) = labelled (is_word_of (codes "PACKAGE"))
openings (suc (suc (suc (suc (suc (suc (suc zero))))))) = labelled (is_word_of (codes "MANAGED"))
openings (suc (suc (suc (suc (suc (suc (suc (suc zero)))))))) = labelled (is_word_of (codes "NAME"))
openings (suc (suc (suc (suc (suc (suc (suc (suc (suc n))))))))) = token_opening (λ token. false)

-- no template goes on
abbrev pub later : ℕ → Token → Bool
later n token = false

labelled_leads : (keyword : Token → Bool) → Leads (labelled keyword)
labelled_leads keyword = record { alone = λ t e. no e; two = λ t u e. first_so (is_label t) (keyword u) e }

openings_lead : (n : ℕ) → Leads (openings n)
openings_lead zero = labelled_leads (is_word_of (codes "BEHAVIOUR"))
openings_lead (suc zero) = labelled_leads (is_word_of (codes "ATTRIBUTE"))
openings_lead (suc (suc zero)) = labelled_leads (is_word_of (codes "PARAMETER"))
openings_lead (suc (suc (suc zero))) = labelled_leads (is_word_of (codes "ATTRIBUTE"))
openings_lead (suc (suc (suc (suc zero)))) = labelled_leads (is_word_of (codes "ACTION"))
openings_lead (suc (suc (suc (suc (suc zero))))) = labelled_leads (is_word_of (codes "NOTIFICATION"))
openings_lead (suc (suc (suc (suc (suc (suc zero)))))) = labelled_leads (is_word_of (codes "PACKAGE"))
openings_lead (suc (suc (suc (suc (suc (suc (suc zero))))))) = labelled_leads (is_word_of (codes "MANAGED"))
openings_lead (suc (suc (suc (suc (suc (suc (suc (suc zero)))))))) = labelled_leads (is_word_of (codes "NAME"))
openings_lead (suc (suc (suc (suc (suc (suc (suc (suc (suc n))))))))) = record { alone = λ t e. e; two = λ t u e. no e }

pub ended : (n : ℕ) (t : Token) (u : Option Token) → (openings n).on t u ≡ true → false ≡ true
ended zero t u e = e
ended (suc zero) t u e = e
ended (suc (suc zero)) t u e = e
ended (suc (suc (suc zero))) t u e = e
ended (suc (suc (suc (suc zero)))) t u e = e
ended (suc (suc (suc (suc (suc zero))))) t u e = e
ended (suc (suc (suc (suc (suc (suc zero)))))) t u e = e
ended (suc (suc (suc (suc (suc (suc (suc zero))))))) t u e = e
ended (suc (suc (suc (suc (suc (suc (suc (suc zero)))))))) t u e = e
ended (suc (suc (suc (suc (suc (suc (suc (suc (suc n))))))))) t u e = e

pub all_go_on : GoesOn openings later
all_go_on = record { leads = openings_lead; on = ended }

-- a token that passes one test doesn't pass another one, which computes to false there
pub not_word : (text : List ℕ) (test : Token → Bool) (t : Token) → is_word_of text t ≡ true → test t ≡ true
    → ((at : ℕ) → test (token_of 0 at text) ≡ false) → ⊥
not_word text test t is e computes = let other = at_word text false test computes t is in cc (other, e)

pub not_sign : (text : List ℕ) (test : Token → Bool) (t : Token) → is_sign_of text t ≡ true → test t ≡ true
    → ((at : ℕ) → test (token_of 5 at text) ≡ false) → ⊥
not_sign text test t is e computes = let other = at_sign text false test computes t is in cc (other, e)

pub not_any_word : (test : Token → Bool) (t : Token) → is_word t ≡ true → test t ≡ true
    → ((at : ℕ) (text : List ℕ) → test (token_of 0 at text) ≡ false) → ⊥
not_any_word test t is e computes = let other = at_any_word false test computes t is in cc (other, e)

pub not_label : (test : Token → Bool) (t : Token) → is_label t ≡ true → test t ≡ true
    → ((at : ℕ) (text : List ℕ) → test (token_of 0 at text) ≡ false) → ⊥
not_label test t is e computes = let other = at_label false test computes t is in cc (other, e)

pub not_name : (test : Token → Bool) (t : Token) → is_name t ≡ true → test t ≡ true
    → ((at : ℕ) (text : List ℕ) → test (token_of 0 at text) ≡ false) → ⊥
not_name test t is e computes = let other = at_name false test computes t is in cc (other, e)

pub not_number : (test : Token → Bool) (t : Token) → is_number t ≡ true → test t ≡ true
    → ((at : ℕ) (text : List ℕ) → test (token_of 1 at text) ≡ false) → ⊥
not_number test t is e computes = let other = at_number false test computes t is in cc (other, e)

pub not_string : (test : Token → Bool) (t : Token) → is_string t ≡ true → test t ≡ true
    → ((at : ℕ) (text : List ℕ) → test (token_of 2 at text) ≡ false) → ⊥
not_string test t is e computes = let other = at_string false test computes t is in cc (other, e)

-- tests of one token, as a tree
pub data Tests : Type 0 where
  Never : Tests
  Word : List ℕ → Tests
  Words : List (List ℕ) → Tests
  Sign : List ℕ → Tests
  AnyWord : Tests
  Label : Tests
  Name : Tests
  Number : Tests
  AString : Tests
  Either : Tests → Tests → Tests

abbrev pub is_passed : Tests → Token → Bool
is_passed Never t = false
is_passed (Word text) t = is_word_of text t
is_passed (Words texts) t = is_one_of texts t
is_passed (Sign text) t = is_sign_of text t
is_passed AnyWord t = is_word t
is_passed Label t = is_label t
is_passed Name t = is_name t
is_passed Number t = is_number t
is_passed AString t = is_string t
is_passed (Either a b) t = is_passed a t || is_passed b t

-- the test fails at each token that passes one of these, whichever place and, but for words and signs, text it has
abbrev pub refutes_words : (Token → Bool) → List (List ℕ) → ℕ → Bool
refutes_words test [] at = true
refutes_words test (word ∷ others) at = not (test (token_of 0 at word)) && refutes_words test others at

abbrev pub refutes : (Token → Bool) → Tests → ℕ → List ℕ → Bool
refutes test Never at text = true
refutes test (Word word) at text = not (test (token_of 0 at word))
refutes test (Words texts) at text = refutes_words test texts at
refutes test (Sign sign) at text = not (test (token_of 5 at sign))
refutes test AnyWord at text = not (test (token_of 0 at text))
refutes test Label at text = not (test (token_of 0 at text))
refutes test Name at text = not (test (token_of 0 at text))
refutes test Number at text = not (test (token_of 1 at text))
refutes test AString at text = not (test (token_of 2 at text))
refutes test (Either a b) at text = refutes test a at text && refutes test b at text

fails : (b : Bool) → not b ≡ true → b ≡ false
fails true e = absurd (cc e)
fails false e = refl

words_computed : (test : Token → Bool) (texts : List (List ℕ)) → ((at : ℕ) → refutes_words test texts at ≡ true)
    → EachComputes test false texts
words_computed test [] r = tt
words_computed test (word ∷ others) r = (
  (λ at. fails (test (token_of 0 at word)) (first_so (not (test (token_of 0 at word))) (refutes_words test others at)
      (r at))),
  words_computed test others (λ at. second_so (not (test (token_of 0 at word))) (refutes_words test others at) (r at)),
)

pub refuted : (a : Tests) (test : Token → Bool) (t : Token) → ((at : ℕ) (text : List ℕ) → refutes test a at text ≡ true)
    → is_passed a t ≡ true → test t ≡ true → ⊥
refuted Never test t r e h = no e
refuted (Word word) test t r e h = not_word word test t e h (λ at. fails (test (token_of 0 at word)) (r at []))
refuted (Words texts) test t r e h =
    let other = at_one_of texts false test (words_computed test texts (λ at. r at [])) t e in cc (other, h)
refuted (Sign sign) test t r e h = not_sign sign test t e h (λ at. fails (test (token_of 5 at sign)) (r at []))
refuted AnyWord test t r e h = not_any_word test t e h (λ at text. fails (test (token_of 0 at text)) (r at text))
refuted Label test t r e h = not_label test t e h (λ at text. fails (test (token_of 0 at text)) (r at text))
refuted Name test t r e h = not_name test t e h (λ at text. fails (test (token_of 0 at text)) (r at text))
refuted Number test t r e h = not_number test t e h (λ at text. fails (test (token_of 1 at text)) (r at text))
refuted AString test t r e h = not_string test t e h (λ at text. fails (test (token_of 2 at text)) (r at text))
refuted (Either a b) test t r e h =
    either_of (is_passed a t) (is_passed b t) e
    (λ one. refuted a test t (λ at text. first_so (refutes test a at text) (refutes test b at text) (r at text)) one h)
    (λ two. refuted b test t (λ at text. second_so (refutes test a at text) (refutes test b at text) (r at text)) two h)

-- by the first tokens of forms and of clauses
pub first_of_clauses : (s : Slots) (t : Token) (u : Option Token) → front (clauses_opening openings s) t u ≡ true
    → (clauses_opening openings s).first t ≡ true
first_of_clauses s t u e = front_first t u (clauses_lead openings openings_lead s) e

first_of : (f : Form) (t : Token) (u : Option Token) → front (opening openings f) t u ≡ true
    → (opening openings f).first t ≡ true
first_of f t u e = front_first t u (leads openings openings_lead f) e

pub clauses_apart : (f : Form) (s : Slots)
    → ((t : Token) → (opening openings f).first t ≡ true → (clauses_opening openings s).first t ≡ true → ⊥)
    → Parts (front (opening openings f)) (front (clauses_opening openings s))
clauses_apart f s apart t u e h = apart t (first_of f t u e) (first_of_clauses s t u h)

pub ends_before_clauses : (f : Form) (s : Slots)
    → ((t : Token) → further openings later f t ≡ true → (clauses_opening openings s).first t ≡ true → ⊥)
    → Parts (opening openings f).on (front (clauses_opening openings s))
ends_before_clauses f s apart t u e h = apart t (goes_on openings later all_go_on f t u e) (first_of_clauses s t u h)

pub going_apart : (t : Token) (u : Option Token) (test : Token → Bool) (f : Form)
    → (further openings later f t ≡ true → test t ≡ true → ⊥) → (opening openings f).on t u ≡ true → test t ≡ true → ⊥
going_apart t u test f apart e h = apart (goes_on openings later all_go_on f t u e) h

-- the first tokens of a form and of clauses
abbrev pub form_first : Form → Token → Bool
form_first f = (opening openings f).first

abbrev pub clauses_first : Slots → Token → Bool
clauses_first s = (clauses_opening openings s).first

pub alternatives : (f g : Form) → ((opening openings f).empty ≡ true → (opening openings g).empty ≡ true → ⊥)
    → ((t : Token) → (opening openings f).first t ≡ true → (opening openings g).first t ≡ true → ⊥)
    → AreAlternatives (opening openings f) (opening openings g)
alternatives f g missing apart = record {
  missing = missing;
  alone = λ t e h. apart t ((leads openings openings_lead f).alone t e) ((leads openings openings_lead g).alone t h);
  two = λ t u e h. apart t ((leads openings openings_lead f).two t u e) ((leads openings openings_lead g).two t u h);
}

-- a label, or a template in its place, which has a keyword behind its label
pub reference_alternatives : (keyword : Token → Bool)
    → AreAlternatives (opening openings label_reference) (labelled keyword)
reference_alternatives keyword = record {
  missing = λ e h. no e;
  alone = λ t e h. no h;
  two = λ t u e h. not_string is_label t
      (first_so (is_string t) (is_sign_of (codes ":") u) (or_false (is_string t && is_sign_of (codes ":") u) e))
      (first_so (is_label t) (keyword u) h) (λ at text. refl);
}

-- an arc, or a name alone
pub first_arc_alternatives : AreAlternatives (opening openings arc) (token_opening is_name)
first_arc_alternatives = record {
  missing = λ e h. no e;
  alone = λ t e h. not_number is_name t (or_false (is_number t) e) h (λ at text. refl);
  two = λ t u e h. no h;
}
