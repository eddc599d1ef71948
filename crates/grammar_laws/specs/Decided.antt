-- IsDecided: the first two tokens decide each choice of a form (docs/PROFILE.md, section 2).
use Rattle.std.specs.Prelude.{◌≡◌, ℕ, ◌+◌, Bool, true, false, List, Option, None, Some, ◌⊎◌, slice_get}
use Rattle.token_grammar.specs.declared.token.Token.{Token}
use Rattle.token_grammar.specs.Form.{Form, Marks, Keep, Then, Or, Maybe, Listed, Many, AnyOrder, Named, Slots, NoSlots}
use Rattle.token_grammar.specs.Form.{Slot, Tree}
use Rattle.token_grammar.specs.Spelling.{Spells}
use Rattle.grammar_laws.specs.Opening.{Opening, front, opening, clauses_opening}

-- no token passes both tests
abbrev pub AreApart : (Token → Bool) → (Token → Bool) → Type 0
AreApart p q = (token : Token) → p token ≡ true → q token ≡ true → ⊥

-- no token, with what stands behind it, passes both tests
abbrev pub Parts : (Token → Option Token → Bool) → (Token → Option Token → Bool) → Type 0
Parts p q = (token : Token) (next : Option Token) → p token next ≡ true → q token next ≡ true → ⊥

-- Two alternatives: not both are missing, no token alone is both, and no two tokens begin both.
pub record AreAlternatives (p q : Opening) : Type 0 where
  pub missing : p.empty ≡ true → q.empty ≡ true → ⊥
  pub alone : AreApart p.alone q.alone
  pub two : (token next : Token) → p.two token next ≡ true → q.two token next ≡ true → ⊥

-- a part that isn't missing, and doesn't go on with what follows
pub record EndsBefore (p : Opening) (follows : Token → Option Token → Bool) : Type 0 where
  pub full : p.empty ≡ false
  pub apart : Parts p.on follows

abbrev mutual
  -- the first two tokens decide each choice
  pub IsDecided : (ℕ → Opening) → Form → Type 0
  IsDecided named (Marks tests) = Unit {0}
  IsDecided named (Keep test) = Unit {0}
  IsDecided named (Then f g) = IsDecided named f × IsDecided named g × Parts (opening named f).on (front (opening
      named g))
  IsDecided named (Or f g) = IsDecided named f × IsDecided named g × AreAlternatives (opening named f) (opening named g)
  IsDecided named (Maybe f) = IsDecided named f × ((opening named f).empty ≡ false)
  IsDecided named (Listed separator s f) = IsDecided named f × Parts (opening named f).on (λ token next. separator
      token)
  IsDecided named (Many s f) = IsDecided named f × EndsBefore (opening named f) (front (opening named f))
  IsDecided named (AnyOrder s) = AreDecided named s (front (clauses_opening named s))
  IsDecided named (Named n) = Unit {0}

  -- each of these clauses, behind which another may come, is decided, and none of those behind it begins as it does
  pub AreDecided : (ℕ → Opening) → Slots → (Token → Option Token → Bool) → Type 0
  AreDecided named NoSlots follows = Unit {0}
  AreDecided named (Slot needed f came s) follows = IsDecided named f × EndsBefore (opening named f) follows
      × Parts (front (opening named f)) (front (clauses_opening named s)) × AreDecided named s follows

-- what is passed by the one is passed by the other
pub record IsWithin (p q : Opening) : Type 0 where
  pub empty : p.empty ≡ true → q.empty ≡ true
  pub single : p.single ≡ true → q.single ≡ true
  pub alone : (token : Token) → p.alone token ≡ true → q.alone token ≡ true
  pub first : (token : Token) → p.first token ≡ true → q.first token ≡ true
  pub second : (token : Token) → p.second token ≡ true → q.second token ≡ true
  pub two : (token next : Token) → p.two token next ≡ true → q.two token next ≡ true

-- the named forms are decided, and their openings are known
pub record AllDecided (grammar : ℕ → Form) (named : ℕ → Opening) : Type 0 where
  pub within : (n : ℕ) → IsWithin (opening named (grammar n)) (named n)
  pub on : (n : ℕ) (token : Token) (next : Option Token) → (opening named (grammar n)).on token next ≡ true
      → (named n).on token next ≡ true
  pub decided : (n : ℕ) → IsDecided named (grammar n)

-- a token stands at the place and passes the test with what stands behind it
abbrev pub meets : (Token → Option Token → Bool) → Option Token → Option Token → Bool
meets test None next = false
meets test (Some token) next = test token next

pub record Meets (tokens : List Token) (i : ℕ) (test : Token → Option Token → Bool) : Type 0 where
  pub met : meets test (slice_get tokens i) (slice_get tokens (i + 1)) ≡ true

-- one place and one tree, or at one of the places the form may go on
abbrev pub Once : List Token → (Token → Option Token → Bool) → ℕ → Tree → ℕ → Tree → Type 0
Once tokens on j a k b = ((j ≡ k) × (a ≡ b)) ⊎ (Meets tokens j on ⊎ Meets tokens k on)

-- From one place tokens spell a form that is decided in one way, but where it may go on.
abbrev pub DecidedFormsSpellOnce : Type 0
DecidedFormsSpellOnce = (tokens : List Token) (grammar : ℕ → Form) (named : ℕ → Opening) → AllDecided grammar named
    → (f : Form) → IsDecided named f → (i j k : ℕ) (a b : Tree) → Spells tokens grammar f i j a
    → Spells tokens grammar f i k b → Once tokens (opening named f).on j a k b
