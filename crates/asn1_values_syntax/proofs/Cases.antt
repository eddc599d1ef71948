-- What is known of a test at tokens of several kinds.
use Rattle.std.proofs.Common.{◌≡◌, ℕ, Bool, true, false, ◌&&◌, ◌||◌, List, [], ◌∷◌, nat_eq, ◌⊎◌, inl, inr, refl, sym}
use Rattle.std.proofs.Common.{subst, codes}
use Rattle.std.proofs.lemmas.Bool.{eqb-true}
use Rattle.token_grammar.specs.declared.token.Token.{Token}
use Rattle.token_grammar.specs.TokenTests.{is_one_of, is_sign_of, is_name, is_number}
use Rattle.token_grammar.specs.Parts.{either}
use Rattle.token_grammar.proofs.Known.{EachComputes, at_one_of, at_sign, token_of}
use Rattle.asn1_values_syntax.specs.ValueForms.{is_literal, is_value_start, minus}

-- a test that is so, or isn't; and which of two is so
pub decide : (b : Bool) → (b ≡ true) ⊎ (b ≡ false)
decide true = inl refl
decide false = inr refl

pub one_of_both : (a b : Bool) → (a || b) ≡ true → (a ≡ true) ⊎ (b ≡ true)
one_of_both true b e = inl refl
one_of_both false b e = inr e

pub neither_first : (a b : Bool) → (a || b) ≡ false → a ≡ false
neither_first true b e = e
neither_first false b e = refl

pub neither_second : (a b : Bool) → (a || b) ≡ false → b ≡ false
neither_second true b e = absurd (cc e)
neither_second false b e = e

pub not_both : (a b : Bool) → a ≡ true → (a && b) ≡ false → b ≡ false
not_both true b e f = f
not_both false b e f = absurd (cc e)

-- a test at a token that one of two tests finds
pub either_case : {p q : Token → Bool} (answer : Bool) (test : Token → Bool) →
    ((t : Token) → p t ≡ true → test t ≡ answer) → ((t : Token) → q t ≡ true → test t ≡ answer) → (t : Token) → either
    p
    q t ≡ true → test t ≡ answer
either_case {p} {q} answer test one two t e = go (one_of_both (p t) (q t) e)
  where
    go : (p t ≡ true) ⊎ (q t ≡ true) → test t ≡ answer
    go (inl h) = one t h
    go (inr h) = two t h

of_kind : (kind : ℕ) (answer : Bool) (test : Token → Bool) → ((at : ℕ) (text : List ℕ) → test (token_of kind at text)
    ≡
    answer) → (t : Token) → nat_eq t.kind kind ≡ true → test t ≡ answer
of_kind kind answer test computes t e = subst (λ (x : ℕ). test (token_of x t.at t.text) ≡ answer)
    (sym (eqb-true t.kind kind e)) (computes t.at t.text)

-- a test at a literal
pub literal_case : (answer : Bool) (test : Token → Bool) → EachComputes test answer
    (codes "TRUE" ∷ codes "FALSE" ∷ codes "NULL" ∷ []) → ((at : ℕ) (text : List ℕ) → test (token_of 2 at text) ≡
    answer) → ((at : ℕ) (text : List ℕ) → test (token_of 3 at text) ≡ answer) →
    ((at : ℕ) (text : List ℕ) → test (token_of 4 at text) ≡ answer) → (t : Token) → is_literal t ≡ true → test t ≡
    answer
literal_case answer test words strings octets bits t e = go (one_of_both
    (is_one_of (codes "TRUE" ∷ codes "FALSE" ∷ codes "NULL" ∷ []) t)
    (nat_eq t.kind 2 || (nat_eq t.kind 3 || nat_eq t.kind 4)) e)
  where
    digits : (nat_eq t.kind 3 ≡ true) ⊎ (nat_eq t.kind 4 ≡ true) → test t ≡ answer
    digits (inl h) = of_kind 3 answer test octets t h
    digits (inr h) = of_kind 4 answer test bits t h

    quoted : (nat_eq t.kind 2 ≡ true) ⊎ ((nat_eq t.kind 3 || nat_eq t.kind 4) ≡ true) → test t ≡ answer
    quoted (inl h) = of_kind 2 answer test strings t h
    quoted (inr h) = digits (one_of_both (nat_eq t.kind 3) (nat_eq t.kind 4) h)

    go : (is_one_of (codes "TRUE" ∷ codes "FALSE" ∷ codes "NULL" ∷ []) t ≡ true) ⊎
        ((nat_eq t.kind 2 || (nat_eq t.kind 3 || nat_eq t.kind 4)) ≡ true) → test t ≡ answer
    go (inl h) = at_one_of (codes "TRUE" ∷ codes "FALSE" ∷ codes "NULL" ∷ []) answer test words t h
    go (inr h) = quoted (one_of_both (nat_eq t.kind 2) (nat_eq t.kind 3 || nat_eq t.kind 4) h)

-- a test at a token with which a value begins
pub value_case : (answer : Bool) (test : Token → Bool) → ((t : Token) → is_literal t ≡ true → test t ≡ answer) →
    ((at : ℕ) → test (token_of 5 at (codes "-")) ≡ answer) → ((t : Token) → is_number t ≡ true → test t ≡ answer) →
    ((t : Token) → is_name t ≡ true → test t ≡ answer) → ((at : ℕ) → test (token_of 5 at (codes "{")) ≡ answer) →
    (t : Token) → is_value_start t ≡ true → test t ≡ answer
value_case answer test literals minuses numbers names braces t e = go
    (one_of_both (is_literal t) ((minus t || is_number t) || (is_name t || is_sign_of (codes "{") t)) e)
  where
    number : (minus t ≡ true) ⊎ (is_number t ≡ true) → test t ≡ answer
    number (inl h) = at_sign (codes "-") answer test minuses t h
    number (inr h) = numbers t h

    other : (is_name t ≡ true) ⊎ (is_sign_of (codes "{") t ≡ true) → test t ≡ answer
    other (inl h) = names t h
    other (inr h) = at_sign (codes "{") answer test braces t h

    rest : ((minus t || is_number t) ≡ true) ⊎ ((is_name t || is_sign_of (codes "{") t) ≡ true) → test t ≡ answer
    rest (inl h) = number (one_of_both (minus t) (is_number t) h)
    rest (inr h) = other (one_of_both (is_name t) (is_sign_of (codes "{") t) h)

    go : (is_literal t ≡ true) ⊎ (((minus t || is_number t) || (is_name t || is_sign_of (codes "{") t)) ≡ true) → test
        t
        ≡ answer
    go (inl h) = literals t h
    go (inr h) = rest (one_of_both (minus t || is_number t) (is_name t || is_sign_of (codes "{") t) h)
