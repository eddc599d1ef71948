-- Laws on choices of which one alternative is known not to begin here: it stops wherever the other one ends.
use Rattle.std.proofs.Common.{ℕ, ◌≤◌, Bool, List}
use Rattle.token_grammar.specs.declared.token.Token.{Token}
use Rattle.token_grammar.specs.declared.syntax_refusal.SyntaxRefusal.{SyntaxRefusal}
use Rattle.token_grammar.specs.Form.{Form, Tree, Or, First, Second}
use Rattle.token_grammar.specs.Outcome.{Stops, IsSpelt, Fails}
use Rattle.token_grammar.proofs.Sequences.{spelt_order, spelt_first, spelt_second, stops_or, fault_first, fault_second}
use Rattle.token_grammar.proofs.Sequences.{fails_by}

-- the form doesn't begin with the token at i
pub record Quiet (tokens : List Token) (grammar : ℕ → Form) (on : Token → Bool) (f : Form) (i : ℕ) : Type 0 where
  pub stops : (k : ℕ) → i ≤ k → Stops tokens grammar on f i k

pub quiet_or : {tokens : List Token} {grammar : ℕ → Form} {on : Token → Bool} {f g : Form} {i : ℕ} → Quiet tokens
    grammar on f i → Quiet tokens grammar on g i → Quiet tokens grammar on (Or f g) i
quiet_or p q = record { stops = λ k order. stops_or (p.stops k order) (q.stops k order) }

pub take_first : {tokens : List Token} {grammar : ℕ → Form} {on : Token → Bool} {f g : Form} {i k : ℕ} {a : Tree} →
    IsSpelt tokens grammar on f i a k → Quiet tokens grammar on g i → IsSpelt tokens grammar on (Or f g) i (First a) k
take_first {k = k} one q = spelt_first one (q.stops k (spelt_order one))

pub take_second : {tokens : List Token} {grammar : ℕ → Form} {on : Token → Bool} {f g : Form} {i k : ℕ} {a : Tree} →
    Quiet tokens grammar on f i → IsSpelt tokens grammar on g i a k → IsSpelt tokens grammar on (Or f g) i (Second a)
    k
take_second {k = k} q one = spelt_second (q.stops k (spelt_order one)) one

pub fail_first : {tokens : List Token} {grammar : ℕ → Form} {on : Token → Bool} {f g : Form} {i : ℕ}
    {e : SyntaxRefusal} → Fails tokens grammar on f i e → Quiet tokens grammar on g i → Fails tokens grammar on
    (Or f g)
    i e
fail_first r q = fails_by (λ k one. fault_first one (q.stops k one.stops.order)) r

pub fail_second : {tokens : List Token} {grammar : ℕ → Form} {on : Token → Bool} {f g : Form} {i : ℕ}
    {e : SyntaxRefusal} → Quiet tokens grammar on f i → Fails tokens grammar on g i e → Fails tokens grammar on
    (Or f g)
    i e
fail_second q r = fails_by (λ k one. fault_second (q.stops k one.stops.order) one) r
