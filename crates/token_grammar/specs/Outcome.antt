-- Reads: what a reader of a form answers. It is what the tokens spell, or the one place of the fault
-- (docs/PROFILE.md, section 2).
use Rattle.std.specs.Prelude.{◌≡◌, ℕ, ◌≤◌, Bool, false, List, ◌⊎◌, Result, Ok, Err}
use Rattle.token_grammar.specs.declared.token.Token.{Token}
use Rattle.token_grammar.specs.declared.syntax_refusal.SyntaxRefusal.{SyntaxRefusal}
use Rattle.token_grammar.specs.declared.syntax_refusal.SyntaxRefusal.TheVariants.{Syntax}
use Rattle.token_grammar.specs.Form.{Form, Tree}
use Rattle.token_grammar.specs.Spelling.{At, Spells}
use Rattle.token_grammar.specs.Beginning.{Begins}

-- no token: the form ends by itself
abbrev pub closed : Token → Bool
closed token = false

-- From i no tokens spell the form but where it goes on with a token of `on`, and no tokens past k
-- begin it.
pub record Stops (tokens : List Token) (grammar : ℕ → Form) (on : Token → Bool) (f : Form) (i k : ℕ) : Type 0 where
  pub order : i ≤ k
  pub unspelt : (j : ℕ) (a : Tree) → Spells tokens grammar f i j a → At tokens j on
  pub furthest : (j : ℕ) → Begins tokens grammar f i j → j ≤ k

-- The tokens from i up to k begin the form, the token at k doesn't go on with it, and the form isn't
-- spelt.
pub record IsFault (tokens : List Token) (grammar : ℕ → Form) (on : Token → Bool) (f : Form) (i k : ℕ) : Type 0 where
  pub begun : Begins tokens grammar f i k
  pub stops : Stops tokens grammar on f i k

-- The tokens from i to k spell the form, with the tree a. They spell it in no other way, but where
-- the form goes on with a token of `on`; and it doesn't go on past k.
pub record IsSpelt (tokens : List Token) (grammar : ℕ → Form) (on : Token → Bool) (f : Form) (i : ℕ) (a : Tree)
    (k : ℕ) : Type 0 where
  pub spelt : Spells tokens grammar f i k a
  pub only : (j : ℕ) (b : Tree) → Spells tokens grammar f i j b → ((j ≡ k) × (b ≡ a)) ⊎ At tokens j on
  pub furthest : (j : ℕ) → Begins tokens grammar f i j → j ≤ k

-- a refusal for syntax has the place of the fault
pub record Fails (tokens : List Token) (grammar : ℕ → Form) (on : Token → Bool) (f : Form) (i : ℕ)
    (e : SyntaxRefusal) : Type 0 where
  pub fault : (k : ℕ) → e ≡ Syntax k → IsFault tokens grammar on f i k

-- What a reader answers for the form from i. `view` is the tree of a value.
abbrev pub Reads : {X : Type 0} → List Token → (ℕ → Form) → (Token → Bool) → Form → ℕ → (X → Tree)
    → Result (X × ℕ) SyntaxRefusal → Type 0
Reads tokens grammar on f i view (Ok x) = IsSpelt tokens grammar on f i (view x.0) x.1
Reads tokens grammar on f i view (Err e) = Fails tokens grammar on f i e

-- what a reader answers that keeps nothing
abbrev pub Skips : List Token → (ℕ → Form) → (Token → Bool) → Form → ℕ → Tree → Result ℕ SyntaxRefusal → Type 0
Skips tokens grammar on f i a (Ok k) = IsSpelt tokens grammar on f i a k
Skips tokens grammar on f i a (Err e) = Fails tokens grammar on f i e
