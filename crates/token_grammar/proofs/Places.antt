-- Laws on places: a spelling is a beginning, and none goes backwards.
use Rattle.std.proofs.Common.{◌≡◌, ℕ, ◌≤◌, Bool, true, List, Some, ◌∙◌, ap, subst, arith, slice_get}
use Rattle.token_grammar.specs.declared.token.Token.{Token}
use Rattle.token_grammar.specs.Form.{Form, Tree}
use Rattle.token_grammar.specs.Spelling as S
use Rattle.token_grammar.specs.Spelling.{At, passes, Spells}
use Rattle.token_grammar.specs.Beginning as B
use Rattle.token_grammar.specs.Beginning.{Begins}

-- a token that passes the test stands at its place
pub at_token : (tokens : List Token) (i : ℕ) (test : Token → Bool) (token : Token) → slice_get tokens i ≡ Some token
    → test token ≡ true → At tokens i test
at_token tokens i test token e ok = record { passed = ap (passes test) e ∙ ok }

-- a spelling is a beginning
pub spells_begins : {tokens : List Token} {grammar : ℕ → Form} {f : Form} {i k : ℕ} {a : Tree}
    → Spells tokens grammar f i k a → Begins tokens grammar f i k
spells_begins S.no_marks = B.no_tokens
spells_begins (S.marks here others) = B.mark here (spells_begins others)
spells_begins {tokens} (S.keep {test} {i} {k} {token} e ok next) = B.token (at_token tokens i test token e ok) next
spells_begins (S.both s r) = B.rest s (spells_begins r)
spells_begins (S.first s) = B.first (spells_begins s)
spells_begins (S.second s) = B.second (spells_begins s)
spells_begins S.absent = B.no_tokens
spells_begins (S.present s) = B.present (spells_begins s)
spells_begins (S.last s) = B.item (spells_begins s)
spells_begins (S.more s here r) = B.more s here (spells_begins r)
spells_begins S.no_more = B.no_tokens
spells_begins (S.another s r) = B.another s (spells_begins r)
spells_begins (S.enough complete e) = B.no_tokens
spells_begins (S.clause n still s r) = B.clause n still s (spells_begins r)
spells_begins (S.named s) = B.named (spells_begins s)

-- a spelling doesn't go backwards
pub spells_order : {tokens : List Token} {grammar : ℕ → Form} {f : Form} {i k : ℕ} {a : Tree}
    → Spells tokens grammar f i k a → i ≤ k
spells_order S.no_marks = omega arith
spells_order (S.marks here others) = let later = spells_order others in omega arith
spells_order (S.keep e ok next) = omega arith
spells_order (S.both s r) = let one = spells_order s in let two = spells_order r in omega arith
spells_order (S.first s) = spells_order s
spells_order (S.second s) = spells_order s
spells_order S.absent = omega arith
spells_order (S.present s) = spells_order s
spells_order (S.last s) = spells_order s
spells_order (S.more s here r) = let one = spells_order s in let two = spells_order r in omega arith
spells_order S.no_more = omega arith
spells_order (S.another s r) = let one = spells_order s in let two = spells_order r in omega arith
spells_order (S.enough complete e) = omega arith
spells_order (S.clause n still s r) = let one = spells_order s in let two = spells_order r in omega arith
spells_order (S.named s) = spells_order s

-- a spelling from an equal place
pub spells_from : {tokens : List Token} {grammar : ℕ → Form} {f : Form} {i j k : ℕ} {a : Tree} → i ≡ j
    → Spells tokens grammar f i k a → Spells tokens grammar f j k a
spells_from {tokens} {grammar} {f} {i} {j} {k} {a} e s = subst (λ (x : ℕ). Spells tokens grammar f x k a) e s

pub begins_from : {tokens : List Token} {grammar : ℕ → Form} {f : Form} {i j k : ℕ} → i ≡ j
    → Begins tokens grammar f i k → Begins tokens grammar f j k
begins_from {tokens} {grammar} {f} {i} {j} {k} e b = subst (λ (x : ℕ). Begins tokens grammar f x k) e b

-- a token at an equal place
pub at_from : {tokens : List Token} {i j : ℕ} {test : Token → Bool} → i ≡ j → At tokens i test → At tokens j test
at_from {tokens} {i} {j} {test} e here = subst (λ (x : ℕ). At tokens x test) e here
