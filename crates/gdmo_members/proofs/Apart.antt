-- Which tokens the ends of clauses and templates are apart from.
use Rattle.std.proofs.Common.{◌≡◌, ℕ, false, List, [], ◌∷◌, refl, codes}
use Rattle.token_grammar.specs.declared.token.Token.{Token}
use Rattle.token_grammar.specs.Form.{Form}
use Rattle.token_grammar.specs.Parts.{either}
use Rattle.token_grammar.specs.TokenTests.{is_word_of, is_sign_of}
use Rattle.token_grammar.proofs.Heads.{starts, skips}
use Rattle.token_grammar.proofs.Sequences.{Apart, apart_by}
use Rattle.token_grammar.proofs.Known.{at_word, at_sign, at_any_word, at_one_of, token_of}
use Rattle.token_grammar.proofs.Parts.{apart_either, separates_by}
use Rattle.token_grammar.proofs.Turns.{Separates}
use Rattle.gdmo_members.specs.Clauses.{semicolon, comma, ending, is_context_start}
use Rattle.gdmo_members.specs.MemberTrees.{is_attribute_clause, is_parameter_clause}
use Rattle.gdmo_members.specs.Templates.{templates}
use Rattle.gdmo_members.proofs.FirstTokens.{labels, labels_lead}

-- no form begins with a word that its computed test refuses
pub word_apart : {tokens : List Token} (text : List ℕ) (g : Form) → skips labels g ≡ false
    → ((at : ℕ) → starts labels g (token_of 0 at text) ≡ false) → Apart tokens templates (is_word_of text) g
word_apart text g full computes = apart_by labels labels_lead g full (at_word text false (starts labels g) computes)

pub sign_apart : {tokens : List Token} (text : List ℕ) (g : Form) → skips labels g ≡ false
    → ((at : ℕ) → starts labels g (token_of 5 at text) ≡ false) → Apart tokens templates (is_sign_of text) g
sign_apart text g full computes = apart_by labels labels_lead g full (at_sign text false (starts labels g) computes)

-- a semicolon ends a list of references
pub semicolon_apart : {tokens : List Token} (text : List ℕ)
    → Apart tokens templates (either comma (is_word_of text)) semicolon
semicolon_apart text = apart_either (sign_apart (codes ",") semicolon refl (λ at. refl))
    (word_apart text semicolon refl (λ at. refl))

-- a comma separates references
pub comma_separates : {tokens : List Token} (text : List ℕ)
    → Separates tokens comma (is_word_of text) (either comma (is_word_of text))
comma_separates text = separates_by (at_word text false comma (λ at. refl))

-- a semicolon ends a context
pub context_apart : {tokens : List Token} → Apart tokens templates is_context_start semicolon
context_apart = apart_either (sign_apart (codes ".") semicolon refl (λ at. refl))
    (apart_by labels labels_lead semicolon refl (at_any_word false (starts labels semicolon) (λ at text. refl)))

-- the end of a template is apart from its clauses
pub attribute_apart : {tokens : List Token} → Apart tokens templates is_attribute_clause ending
attribute_apart = apart_by labels labels_lead ending refl
    (at_one_of (codes "WITH" ∷ codes "DERIVED" ∷ codes "MATCHES" ∷ codes "BEHAVIOUR" ∷ codes "PARAMETERS" ∷ []) false
    (starts labels ending) ((λ at. refl), ((λ at. refl), ((λ at. refl), ((λ at. refl), ((λ at. refl), tt))))))

pub parameter_apart : {tokens : List Token} → Apart tokens templates is_parameter_clause ending
parameter_apart = apart_by labels labels_lead ending refl
    (at_one_of (codes "CONTEXT" ∷ codes "WITH" ∷ codes "ATTRIBUTE" ∷ codes "BEHAVIOUR" ∷ []) false
    (starts labels ending) ((λ at. refl), ((λ at. refl), ((λ at. refl), ((λ at. refl), tt)))))
