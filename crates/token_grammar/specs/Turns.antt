-- Leads: one turn of a list, a repeat or clauses in any order. And what a reader of one clause answers
-- (docs/PROFILE.md, section 2).
use Rattle.std.specs.Prelude.{◌≡◌, ℕ, ◌≤◌, ◌<◌, Bool, true, List, [], ◌∷◌, ◌++◌, Option, None, Some, ◌⊎◌, Result, Ok}
use Rattle.std.specs.Prelude.{Err, length, codes}
use Rattle.token_grammar.specs.declared.token.Token.{Token}
use Rattle.token_grammar.specs.declared.syntax_refusal.SyntaxRefusal.{SyntaxRefusal}
use Rattle.token_grammar.specs.declared.syntax_refusal.SyntaxRefusal.TheVariants.{Memory}
use Rattle.token_grammar.specs.Form.{Form, Tree, Bare, AnyOrder, Slots, form_at, is_open}
use Rattle.token_grammar.specs.Parts.{sign}
use Rattle.token_grammar.specs.Spelling.{At, Spells}
use Rattle.token_grammar.specs.Beginning.{Begins}
use Rattle.token_grammar.specs.Outcome.{closed, Stops, IsSpelt, Fails}

-- Reading `left` from j is reading `whole` from i: what was read between is the front of each
-- spelling, but of those behind which a token of `on` stands.
pub record Leads (tokens : List Token) (grammar : ℕ → Form) (on : Token → Bool) (whole : Form) (i : ℕ) (left : Form)
    (j : ℕ) : Type 0 where
  pub order : i ≤ j
  pub spells : (k : ℕ) (a : Tree) → Spells tokens grammar left j k a → Spells tokens grammar whole i k a
  pub only : (k : ℕ) (a : Tree) → Spells tokens grammar whole i k a → Spells tokens grammar left j k a ⊎ At tokens k on
  pub begins : (k : ℕ) → Begins tokens grammar left j k → Begins tokens grammar whole i k
  pub furthest : (k : ℕ) → Begins tokens grammar whole i k → (k ≤ j) ⊎ Begins tokens grammar left j k

-- each clause that may still come stops at k
pub record AllStop (tokens : List Token) (grammar : ℕ → Form) (s : Slots) (i k : ℕ) : Type 0 where
  pub each : (m : ℕ) → is_open m s ≡ true → Stops tokens grammar closed (form_at m s) i k

-- A clause was read from i to k: the clauses were `before`, and then `after`.
pub record IsTaken (tokens : List Token) (grammar : ℕ → Form) (on : Token → Bool) (before after : Slots)
    (i k : ℕ) : Type 0 where
  pub leads : Leads tokens grammar on (AnyOrder before) i (AnyOrder after) k
  pub forward : i < k
  pub within : i < length tokens

-- No clause comes at i.
pub record IsOver (tokens : List Token) (grammar : ℕ → Form) (before after : Slots) (i : ℕ) : Type 0 where
  pub same : after ≡ before
  pub none : AllStop tokens grammar before i i

-- what a reader of the next clause answers: the place behind it, where one comes
abbrev pub TakesClause : List Token → (ℕ → Form) → (Token → Bool) → Slots → Slots → ℕ
    → Result (Option ℕ) SyntaxRefusal → Type 0
TakesClause tokens grammar on before after i (Ok (Some k)) = IsTaken tokens grammar on before after i k
TakesClause tokens grammar on before after i (Ok None) = IsOver tokens grammar before after i
TakesClause tokens grammar on before after i (Err e) = Fails tokens grammar on (AnyOrder before) i e

-- what keeps a clause that was read: it stands in its place, or a refusal is handed on
abbrev pub KeepsClause : {X : Type 0} → Result (X × ℕ) SyntaxRefusal → Option X → Option X → Result (Option ℕ)
    SyntaxRefusal → Type 0
KeepsClause (Ok x) old new answer = (new ≡ Some x.0) × (answer ≡ Ok (Some x.1))
KeepsClause (Err e) old new answer = (new ≡ old) × (answer ≡ Err e)

-- what reads the semicolon behind what x was read of, up to i: the same x, and the place behind the semicolon
abbrev pub EndsPart : {X : Type 0} → List Token → X → ℕ → Result (X × ℕ) SyntaxRefusal → Type 0
EndsPart tokens x i (Ok y) = (y.0 ≡ x) ×
    ((grammar : ℕ → Form) → IsSpelt tokens grammar closed (sign (codes ";")) i Bare y.1)
EndsPart tokens x i (Err e) = (grammar : ℕ → Form) → Fails tokens grammar closed (sign (codes ";")) i e

-- the same behind what a reader answered, whose refusal is handed on
abbrev pub EndsClause : {X : Type 0} → List Token → Result (X × ℕ) SyntaxRefusal → Result (X × ℕ) SyntaxRefusal → Type 0
EndsClause tokens (Ok x) answer = EndsPart tokens x.0 x.1 answer
EndsClause tokens (Err e) answer = answer ≡ Err e

-- what puts a part beside the one that was read behind it, whose refusal is handed on
abbrev pub StandsBeside : {X Y : Type 0} → X → Result (Y × ℕ) SyntaxRefusal → Result ((X × Y) × ℕ) SyntaxRefusal →
    Type 0
StandsBeside first (Ok y) answer = answer ≡ Ok ((first, y.0), y.1)
StandsBeside first (Err e) answer = answer ≡ Err e

-- what keeps a part that was read: it stands behind those of the list, or a refusal is handed on, or there is no memory
abbrev pub KeepsPart : {X : Type 0} → Result (X × ℕ) SyntaxRefusal → List X → List X → Result ℕ SyntaxRefusal → Type 0
KeepsPart (Ok x) old new (Ok k) = (new ≡ old ++ (x.0 ∷ [])) × (k ≡ x.1)
KeepsPart (Ok x) old new (Err e) = (new ≡ old) × (e ≡ Memory)
KeepsPart (Err d) old new (Ok k) = ⊥
KeepsPart (Err d) old new (Err e) = (new ≡ old) × (e ≡ d)
