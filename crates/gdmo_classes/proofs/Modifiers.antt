-- Laws on the modifiers of the clauses CREATE and DELETE.
use Rattle.std.proofs.Common.{◌≡◌, ℕ, Bool, true, false, ◌||◌, List, [], ◌∷◌, refl, codes}
use Rattle.token_grammar.specs.declared.token.Token.{Token}
use Rattle.token_grammar.specs.Spelling.{At}
use Rattle.token_grammar.specs.TokenTests.{is_word_of, is_one_of}
use Rattle.token_grammar.proofs.Heads.{at_wider}
use Rattle.token_grammar.proofs.Known.{at_word, at_one_of, token_of}
use Rattle.gdmo_members.specs.Clauses.{comma}
use Rattle.gdmo_classes.specs.ClassForms.{is_further, is_keyword, is_modifier_end}

-- the second modifier begins with a comma or its word
pub further_starts : (text : List ℕ) (t : Token) → (comma t || (is_word_of text t || false)) ≡ true
    → is_further text t ≡ true
further_starts text t e = alone (comma t) (is_word_of text t) e
  where
    alone : (a b : Bool) → (a || (b || false)) ≡ true → (a || b) ≡ true
    alone true b e = refl
    alone false true e = refl
    alone false false e = e

-- a modifier is a word in capitals
pub further_wider : {tokens : List Token} (text : List ℕ) → ((at : ℕ) → is_keyword (token_of 0 at text) ≡ true)
    → (m : ℕ) → At tokens m (is_further text) → At tokens m is_modifier_end
further_wider text capital m here =
    at_wider is_modifier_end
    (λ t e. one (comma t) (is_word_of text t) (is_keyword t) (λ h. at_word text true is_keyword capital t h) e) here
  where
    one : (a b c : Bool) → (b ≡ true → c ≡ true) → (a || b) ≡ true → (a || c) ≡ true
    one true b c wide e = refl
    one false b c wide e = wide e

-- create modifiers begin with one of two words
pub create_starts : (t : Token)
    → ((is_word_of (codes "WITH-REFERENCE-OBJECT") t || false)
    || (is_word_of (codes "WITH-AUTOMATIC-INSTANCE-NAMING") t || false)) ≡ true
    → is_one_of (codes "WITH-REFERENCE-OBJECT" ∷ codes "WITH-AUTOMATIC-INSTANCE-NAMING" ∷ []) t ≡ true
create_starts t e = either_one (is_word_of (codes "WITH-REFERENCE-OBJECT") t)
    (is_word_of (codes "WITH-AUTOMATIC-INSTANCE-NAMING") t) e
  where
    either_one : (a b : Bool) → ((a || false) || (b || false)) ≡ true → (a || (b || false)) ≡ true
    either_one true b e = refl
    either_one false b e = e

pub create_comes : {tokens : List Token} {m : ℕ}
    → At tokens m (is_one_of (codes "WITH-REFERENCE-OBJECT" ∷ codes "WITH-AUTOMATIC-INSTANCE-NAMING" ∷ []))
    → At tokens m is_modifier_end
create_comes here = at_wider is_modifier_end
    (at_one_of (codes "WITH-REFERENCE-OBJECT" ∷ codes "WITH-AUTOMATIC-INSTANCE-NAMING" ∷ []) true is_modifier_end
    ((λ at. refl), ((λ at. refl), tt))) here

pub delete_comes : {tokens : List Token} {m : ℕ}
    → At tokens m (is_one_of (codes "ONLY-IF-NO-CONTAINED-OBJECTS" ∷ codes "DELETES-CONTAINED-OBJECTS" ∷ []))
    → At tokens m is_modifier_end
delete_comes here = at_wider is_modifier_end
    (at_one_of (codes "ONLY-IF-NO-CONTAINED-OBJECTS" ∷ codes "DELETES-CONTAINED-OBJECTS" ∷ []) true is_modifier_end
    ((λ at. refl), ((λ at. refl), tt))) here
