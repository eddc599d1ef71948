-- Which parts are apart from the tokens with which the parts before them go on.
use Rattle.std.proofs.Common.{◌≡◌, ℕ, Bool, true, false, not, ◌||◌, List, [], ◌∷◌, refl, codes}
use Rattle.token_grammar.specs.declared.token.Token.{Token}
use Rattle.token_grammar.specs.Form.{Form}
use Rattle.token_grammar.specs.Spelling.{At}
use Rattle.token_grammar.specs.TokenTests.{is_word_of, is_word, is_string, is_label}
use Rattle.token_grammar.proofs.Heads.{starts, opens, or_left, or_right, at_wider}
use Rattle.token_grammar.proofs.Sequences.{Apart, apart_by}
use Rattle.token_grammar.proofs.Known.{at_word, at_sign, at_any_word, at_string, at_one_of, token_of, first_so}
use Rattle.token_grammar.proofs.Known.{second_so}
use Rattle.token_grammar.proofs.Parts.{apart_either, separates_by}
use Rattle.token_grammar.proofs.Turns.{Separates}
use Rattle.gdmo_members.specs.Clauses.{parameters, semicolon, comma, ending, registered_ending, reference_row}
use Rattle.gdmo_members.specs.Templates.{templates}
use Rattle.gdmo_members.proofs.FirstTokens.{labels, labels_lead}
use Rattle.gdmo_members.proofs.Apart.{sign_apart}
use Rattle.gdmo_classes.specs.declared.properties.Properties.{Properties}
use Rattle.gdmo_classes.specs.ClassForms.{is_keyword, is_reference_start, is_word_or_string, is_part_end}
use Rattle.gdmo_classes.specs.ClassForms.{is_modifier_end}
use Rattle.gdmo_classes.specs.UseTrees.{properties_slots}
use Rattle.gdmo_classes.specs.PackageTrees.{is_package_clause}
use Rattle.gdmo_classes.specs.ClassTrees.{is_class_clause}
use Rattle.gdmo_classes.specs.BindingTrees.{is_name_binding_clause}
use Rattle.token_grammar.proofs.OpenParts.{Meets, meets_by}
use Rattle.gdmo_classes.proofs.OpenClauses.{AllMeet, all_meet_by}

-- what holds of words and of strings
word_or_string : (answer : Bool) (test : Token → Bool) → ((t : Token) → is_word t ≡ true → test t ≡ answer)
    → ((t : Token) → is_string t ≡ true → test t ≡ answer) → (t : Token) → is_word_or_string t ≡ true → test t ≡ answer
word_or_string answer test one two t e = go (is_word t) refl e
  where
    go : (b : Bool) → is_word t ≡ b → (b || is_string t) ≡ true → test t ≡ answer
    go true is h = one t is
    go false is h = two t h

-- a semicolon ends each open part, and a comma separates two
pub part_end_apart : {tokens : List Token} → Apart tokens templates is_part_end semicolon
part_end_apart = apart_either (sign_apart (codes ",") semicolon refl (λ at. refl))
    (apart_by labels labels_lead semicolon refl
    (word_or_string false (starts labels semicolon) (at_any_word false (starts labels semicolon) (λ at text. refl))
    (at_string false (starts labels semicolon) (λ at text. refl))))

pub part_separates : {tokens : List Token} → Separates tokens comma is_word_or_string is_part_end
part_separates = separates_by
    (word_or_string false comma (at_any_word false comma (λ at text. refl)) (at_string false comma (λ at text. refl)))

pub part_wider : {tokens : List Token} (m : ℕ) → At tokens m is_word_or_string → At tokens m is_part_end
part_wider m here = at_wider is_part_end (λ t e. or_right (comma t) (is_word_or_string t) e) here

-- no part begins with a word that its computed test refuses
pub word_meets : {tokens : List Token} (text : List ℕ) (on : Token → Bool) (g : Form)
    → ((at : ℕ) → on (token_of 0 at text) ≡ true) → ((at : ℕ) → starts labels g (token_of 0 at text) ≡ false)
    → Meets tokens templates (is_word_of text) on g
word_meets text on g wide computes =
    meets_by labels labels_lead g (at_word text true on wide) (at_word text false (starts labels g) computes)

-- no reference begins with a word in capitals
neither : (a b : Bool) → a ≡ false → not b ≡ true → ((a || b) || b) ≡ false
neither true b e f = absurd (cc e)
neither false true e f = absurd (cc f)
neither false false e f = refl

keyword_starts : (t : Token) → is_keyword t ≡ true → ((is_string t || is_label t) || is_label t) ≡ false
keyword_starts t e = neither (is_string t) (is_label t)
    (at_any_word false is_string (λ at text. refl) t (first_so (is_word t) (not (is_label t)) e))
    (second_so (is_word t) (not (is_label t)) e)

pub row_meets : {tokens : List Token} → Meets tokens templates is_keyword is_word_or_string (reference_row parameters)
row_meets = meets_by labels labels_lead (reference_row parameters)
    (λ t e. or_left (is_word t) (is_string t) (first_so (is_word t) (not (is_label t)) e)) keyword_starts

modifier_cases : (answer : Bool) (test : Token → Bool) → ((t : Token) → comma t ≡ true → test t ≡ answer)
    → ((t : Token) → is_keyword t ≡ true → test t ≡ answer) → (t : Token) → is_modifier_end t ≡ true → test t ≡ answer
modifier_cases answer test one two t e = go (comma t) refl e
  where
    go : (b : Bool) → comma t ≡ b → (b || is_keyword t) ≡ true → test t ≡ answer
    go true is h = one t is
    go false is h = two t h

pub modifiers_meet : {tokens : List Token}
    → Meets tokens templates is_modifier_end is_part_end (reference_row parameters)
modifiers_meet = meets_by labels labels_lead (reference_row parameters)
    (modifier_cases true is_part_end (λ t e. or_left (comma t) (is_word_or_string t) e)
    (λ t e. or_right (comma t) (is_word_or_string t)
    (or_left (is_word t) (is_string t) (first_so (is_word t) (not (is_label t)) e))))
    (modifier_cases false (starts labels (reference_row parameters))
    (at_sign (codes ",") false (starts labels (reference_row parameters)) (λ at. refl)) keyword_starts)

-- what begins no reference is no label and no string
pub reference_starts : (t : Token) → ((is_string t || is_label t) || is_label t) ≡ true → is_reference_start t ≡ true
reference_starts t e = twice (is_string t) (is_label t) e
  where
    twice : (a b : Bool) → ((a || b) || b) ≡ true → (a || b) ≡ true
    twice true b e = refl
    twice false true e = refl
    twice false false e = e

pub start_wider : {tokens : List Token} {m : ℕ} → At tokens m is_reference_start → At tokens m is_word_or_string
start_wider here = at_wider is_word_or_string start here
  where
    start : (t : Token) → is_reference_start t ≡ true → is_word_or_string t ≡ true
    start t e = go (is_string t) refl e
      where
        go : (b : Bool) → is_string t ≡ b → (b || is_label t) ≡ true → is_word_or_string t ≡ true
        go true is h = or_right (is_word t) (is_string t) is
        go false is h = or_left (is_word t) (is_string t) (first_so (is_word t) _ h)

-- the properties may go on with a behaviour in line
pub properties_meet : {tokens : List Token} (x : Properties)
    → AllMeet tokens templates (is_word_of (codes "BEHAVIOUR")) is_keyword (properties_slots x)
properties_meet x = all_meet_by labels labels_lead (properties_slots x)
    (at_word (codes "BEHAVIOUR") true is_keyword (λ at. refl))
    (at_word (codes "BEHAVIOUR") false (opens labels (properties_slots x)) (λ at. refl))

-- the end of a template is apart from its clauses
pub package_apart : {tokens : List Token} → Apart tokens templates is_package_clause ending
package_apart = apart_by labels labels_lead ending refl
    (at_one_of (codes "BEHAVIOUR" ∷ codes "ATTRIBUTES" ∷ codes "ATTRIBUTE" ∷ codes "ACTIONS" ∷ codes "NOTIFICATIONS"
    ∷ []) false (starts labels ending)
    ((λ at. refl), ((λ at. refl), ((λ at. refl), ((λ at. refl), ((λ at. refl), tt))))))

pub class_apart : {tokens : List Token} → Apart tokens templates is_class_clause registered_ending
class_apart = apart_by labels labels_lead registered_ending refl
    (at_one_of (codes "DERIVED" ∷ codes "CHARACTERIZED" ∷ codes "CONDITIONAL" ∷ []) false
    (starts labels registered_ending) ((λ at. refl), ((λ at. refl), ((λ at. refl), tt))))

pub name_binding_apart : {tokens : List Token} → Apart tokens templates is_name_binding_clause registered_ending
name_binding_apart = apart_by labels labels_lead registered_ending refl
    (at_one_of (codes "SUBORDINATE" ∷ codes "NAMED" ∷ codes "WITH" ∷ codes "BEHAVIOUR" ∷ codes "CREATE" ∷ codes "DELETE"
    ∷ []) false (starts labels registered_ending)
    ((λ at. refl), ((λ at. refl), ((λ at. refl), ((λ at. refl), ((λ at. refl), ((λ at. refl), tt)))))))
