-- What a reader answers at the exit of a `?`: the refusal that it was given.
use Rattle.std.proofs.Common.{◌≡◌, ℕ, Bool, List, Result, Ok, Err, subst, sym, refl}
use Rattle.std.specs.Result.{IsErrAnd}
use Rattle.token_grammar.specs.declared.token.Token.{Token}
use Rattle.token_grammar.specs.declared.syntax_refusal.SyntaxRefusal.{SyntaxRefusal}
use Rattle.token_grammar.specs.declared.syntax_refusal.SyntaxRefusal.TheVariants.{Memory}
use Rattle.token_grammar.proofs.Sequences.{fails_memory}
use Rattle.token_grammar.specs.Form.{Form, Tree}
use Rattle.token_grammar.specs.Outcome.{Fails, Reads, Skips}

pub exit_skips : {tokens : List Token} {grammar : ℕ → Form} {on : Token → Bool} {f : Form} {i : ℕ} {e : SyntaxRefusal}
    (a : Tree) (r : Result ℕ SyntaxRefusal) → IsErrAnd r (λ d. d ≡ e) → Fails tokens grammar on f i e
    → Skips tokens grammar on f i a r
exit_skips a (Ok k) is fails = absurd is
exit_skips {tokens} {grammar} {on} {f} {i} {e} a (Err d) is fails =
    subst (λ (x : SyntaxRefusal). Fails tokens grammar on f i x) (sym is) fails

pub exit_reads : {tokens : List Token} {grammar : ℕ → Form} {on : Token → Bool} {f : Form} {i : ℕ} {e : SyntaxRefusal}
    {X : Type 0} (view : X → Tree) (r : Result (X × ℕ) SyntaxRefusal) → IsErrAnd r (λ d. d ≡ e)
    → Fails tokens grammar on f i e → Reads tokens grammar on f i view r
exit_reads view (Ok k) is fails = absurd is
exit_reads {tokens} {grammar} {on} {f} {i} {e} view (Err d) is fails =
    subst (λ (x : SyntaxRefusal). Fails tokens grammar on f i x) (sym is) fails

pub memory_skips : (tokens : List Token) (grammar : ℕ → Form) (on : Token → Bool) (f : Form) (i : ℕ) (a : Tree)
    (r : Result ℕ SyntaxRefusal) → IsErrAnd r (λ d. d ≡ Memory) → Skips tokens grammar on f i a r
memory_skips tokens grammar on f i a r is =
    exit_skips {tokens = tokens} {grammar = grammar} {on = on} {f = f} {i = i} a r is (fails_memory refl)

pub memory_reads : (tokens : List Token) (grammar : ℕ → Form) (on : Token → Bool) (f : Form) (i : ℕ) {X : Type 0}
    (view : X → Tree) (r : Result (X × ℕ) SyntaxRefusal) → IsErrAnd r (λ d. d ≡ Memory)
    → Reads tokens grammar on f i view r
memory_reads tokens grammar on f i view r is =
    exit_reads {tokens = tokens} {grammar = grammar} {on = on} {f = f} {i = i} view r is (fails_memory refl)
