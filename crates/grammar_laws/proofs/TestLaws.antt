-- What is known of a token whose tests were passed.
use Rattle.std.proofs.Common.{◌≡◌, Bool, true, false, ◌&&◌, ◌||◌, Option, None, Some, refl}
use Rattle.token_grammar.specs.declared.token.Token.{Token}
use Rattle.token_grammar.specs.Spelling.{passes}
use Rattle.token_grammar.proofs.Known.{first_so, second_so}

pub no : {A : Type 0} → false ≡ true → A
no e = absurd (cc e)

pub or_false : (a : Bool) → (a || false) ≡ true → a ≡ true
or_false true e = refl
or_false false e = e

-- one of two tests was passed
pub either_of : {A : Type 0} (a b : Bool) → (a || b) ≡ true → (a ≡ true → A) → (b ≡ true → A) → A
either_of true b e one two = one refl
either_of false b e one two = two e

-- a token alone
pub alone_of : (a : Bool) (u : Option Token) → (a || passes (λ next. false) u) ≡ true → a ≡ true
alone_of true u e = refl
alone_of false None e = e
alone_of false (Some t) e = e

-- the first and the second one of two tokens
pub first_of_two : (a : Bool) (p : Token → Bool) (u : Option Token) → passes (λ next. a && p next) u ≡ true → a ≡ true
first_of_two a p None e = no e
first_of_two a p (Some t) e = first_so a (p t) e

pub second_of_two : (a : Bool) (p : Token → Bool) (u : Option Token) → passes (λ next. a && p next) u ≡ true
    → passes p u ≡ true
second_of_two a p None e = e
second_of_two a p (Some t) e = second_so a (p t) e

-- no token passes both tests
pub both_pass : (p q : Token → Bool) (u : Option Token) → ((t : Token) → p t ≡ true → q t ≡ false)
    → passes p u ≡ true → passes q u ≡ true → ⊥
both_pass p q None apart e h = no e
both_pass p q (Some t) apart e h = let is = apart t e in cc (is, h)
