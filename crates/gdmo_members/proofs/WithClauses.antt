-- Laws on the clauses WITH INFORMATION SYNTAX and WITH REPLY SYNTAX, which begin alike, and on the tokens
-- behind a notification's information.
use Rattle.std.proofs.Common.{◌≡◌, ℕ, Bool, true, false, not, ◌&&◌, List, [], ◌∷◌, refl, codes}
use Rattle.token_grammar.specs.declared.token.Token.{Token}
use Rattle.token_grammar.specs.Spelling.{At}
use Rattle.token_grammar.specs.TokenTests.{is_word_of}
use Rattle.token_grammar.specs.Parts.{either}
use Rattle.token_grammar.proofs.Heads.{starts, at_wider, or_left, or_right}
use Rattle.token_grammar.proofs.Sequences.{Apart, apart_by}
use Rattle.token_grammar.proofs.Known.{at_one_of}
use Rattle.token_grammar.proofs.Parts.{apart_either}
use Rattle.gdmo_members.specs.Clauses.{comma, semicolon, registered_ending}
use Rattle.gdmo_members.specs.Templates.{templates}
use Rattle.gdmo_members.specs.FurtherTrees.{is_field_end, is_group_clause, is_action_clause, is_notification_clause}
use Rattle.gdmo_members.proofs.FirstTokens.{labels, labels_lead}
use Rattle.gdmo_members.proofs.Apart.{word_apart, semicolon_apart}

-- Where neither clause came and information may come, the word WITH isn't there.
pub with_not : (a4 a5 a6 w p s : Bool) → s ≡ not a4 → s ≡ not a6 → ((a5 && w) && not (a4 && p)) ≡ false
    → (a6 && w) ≡ false → a5 ≡ true → w ≡ false
with_not a4 a5 a6 false p s e f h g q = refl
with_not a4 false a6 true p s e f h g q = absurd (cc q)
with_not a4 true true true p s e f h g q = absurd (cc g)
with_not true true false true p s e f h g q = absurd (cc (e, f))
with_not false true false true p s e f h g q = absurd (cc h)

-- a semicolon ends a notification's information
pub field_apart : {tokens : List Token} → Apart tokens templates is_field_end semicolon
field_apart = apart_either (word_apart (codes "AND") semicolon refl (λ at. refl)) (semicolon_apart (codes "ATTRIBUTE"))

pub field_first : {tokens : List Token} (k : ℕ) → At tokens k (is_word_of (codes "AND")) → At tokens k is_field_end
field_first k here = at_wider is_field_end
    (λ t e. or_left (is_word_of (codes "AND") t) (either comma (is_word_of (codes "ATTRIBUTE")) t) e) here

pub field_later : {tokens : List Token} (k : ℕ) → At tokens k (either comma (is_word_of (codes "ATTRIBUTE")))
    → At tokens k is_field_end
field_later k here = at_wider is_field_end
    (λ t e. or_right (is_word_of (codes "AND") t) (either comma (is_word_of (codes "ATTRIBUTE")) t) e) here

-- the end of a template is apart from its clauses
pub group_apart : {tokens : List Token} → Apart tokens templates is_group_clause registered_ending
group_apart = apart_by labels labels_lead registered_ending refl
    (at_one_of (codes "GROUP" ∷ codes "FIXED" ∷ codes "DESCRIPTION" ∷ []) false (starts labels registered_ending)
    ((λ at. refl), ((λ at. refl), ((λ at. refl), tt))))

pub action_apart : {tokens : List Token} → Apart tokens templates is_action_clause registered_ending
action_apart = apart_by labels labels_lead registered_ending refl
    (at_one_of (codes "BEHAVIOUR" ∷ codes "MODE" ∷ codes "PARAMETERS" ∷ codes "WITH" ∷ []) false
    (starts labels registered_ending) ((λ at. refl), ((λ at. refl), ((λ at. refl), ((λ at. refl), tt)))))

pub notification_apart : {tokens : List Token} → Apart tokens templates is_notification_clause registered_ending
notification_apart = apart_by labels labels_lead registered_ending refl
    (at_one_of (codes "BEHAVIOUR" ∷ codes "PARAMETERS" ∷ codes "WITH" ∷ []) false (starts labels registered_ending)
    ((λ at. refl), ((λ at. refl), ((λ at. refl), tt))))
