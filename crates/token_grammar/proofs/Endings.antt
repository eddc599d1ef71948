-- Laws on parts in a row whose readers hand on refusals: two parts, and a clause of keywords, a part and a semicolon.
use Rattle.std.proofs.Common.{◌≡◌, ℕ, Bool, List, Result, Ok, Err, [], ◌∷◌, ◌++◌, sym, ◌∙◌, subst, codes}
use Rattle.token_grammar.specs.declared.token.Token.{Token}
use Rattle.token_grammar.specs.declared.syntax_refusal.SyntaxRefusal.{SyntaxRefusal}
use Rattle.token_grammar.specs.declared.syntax_refusal.SyntaxRefusal.TheVariants.{Memory, Syntax}
use Rattle.token_grammar.specs.Form.{Form, Tree, Bare, Pair, Then}
use Rattle.token_grammar.specs.Parts.{sign}
use Rattle.token_grammar.specs.Turns.{EndsPart, EndsClause, StandsBeside, KeepsPart}
use Rattle.token_grammar.specs.Outcome.{closed, IsSpelt, Fails, Reads}
use Rattle.token_grammar.proofs.Sequences.{Apart, apart_closed, spelt_then, fails_front, fails_rest}

part_ends : (tokens : List Token) {grammar : ℕ → Form} {on : Token → Bool} (marks f : Form) {X : Type 0}
    (view : X → Tree) {i j k : ℕ} (x : X) (answer : Result (X × ℕ) SyntaxRefusal) → IsSpelt tokens grammar closed
    marks i Bare j → Apart tokens grammar on (sign (codes ";")) → IsSpelt tokens grammar on f j (view x) k → EndsPart
    tokens x k answer → Reads tokens grammar closed (Then marks (Then f (sign (codes ";")))) i
    (λ y. Pair Bare (Pair (view y) Bare)) answer
part_ends tokens {grammar} marks f view {i} x (Ok y) begun away one ended =
    subst (λ z. IsSpelt tokens grammar closed (Then marks (Then f (sign (codes ";")))) i
    (Pair Bare (Pair (view z) Bare)) y.1) (sym ended.0)
    (spelt_then begun apart_closed (spelt_then one away (ended.1 grammar)))
part_ends tokens {grammar} marks f view x (Err e) begun away one ended = fails_rest begun apart_closed
    (fails_rest one away (ended grammar))

pub clause_ends : (tokens : List Token) {grammar : ℕ → Form} {on : Token → Bool} {marks : Form} (f : Form)
    {X : Type 0} (view : X → Tree) {i j : ℕ} (read answer : Result (X × ℕ) SyntaxRefusal) → IsSpelt tokens grammar
    closed marks i Bare j → Apart tokens grammar on (sign (codes ";")) → Reads tokens grammar on f j view read →
    EndsClause tokens read answer → Reads tokens grammar closed (Then marks (Then f (sign (codes ";")))) i
    (λ y. Pair Bare (Pair (view y) Bare)) answer
clause_ends tokens {grammar} {on} {marks} f view (Ok x) answer begun away one ended = part_ends tokens marks f view
    x.0 answer begun away one ended
clause_ends tokens {grammar} {on} {marks} f view {i} (Err e) answer begun away one ended = subst
    (λ r. Reads tokens grammar closed (Then marks (Then f (sign (codes ";")))) i (λ y. Pair Bare (Pair (view y) Bare))
    r) (sym ended) (fails_rest begun apart_closed (fails_front away one))

-- The first part was read, and the second one is read behind it.
pub beside_reads : (tokens : List Token) {grammar : ℕ → Form} {on : Token → Bool} (on' : Token → Bool) {f : Form}
    (g : Form) {X Y : Type 0} (first_view : X → Tree) (second_view : Y → Tree) {i j : ℕ} (first : X)
    (second : Result (Y × ℕ) SyntaxRefusal) (answer : Result ((X × Y) × ℕ) SyntaxRefusal) → IsSpelt tokens grammar on
    f i (first_view first) j → Apart tokens grammar on g → Reads tokens grammar on' g j second_view second →
    StandsBeside first second answer → Reads tokens grammar on' (Then f g) i
    (λ p. Pair (first_view p.0) (second_view p.1)) answer
beside_reads tokens {grammar} {on} on' {f} g first_view second_view {i} first (Ok y) answer one away two is = subst
    (λ r. Reads tokens grammar on' (Then f g) i (λ p. Pair (first_view p.0) (second_view p.1)) r) (sym is)
    (spelt_then one away two)
beside_reads tokens {grammar} {on} on' {f} g first_view second_view {i} first (Err e) answer one away two is = subst
    (λ r. Reads tokens grammar on' (Then f g) i (λ p. Pair (first_view p.0) (second_view p.1)) r) (sym is)
    (fails_rest one away two)

-- What says nothing was read, as keywords, and a part is read behind it.
pub behind_reads : (tokens : List Token) {grammar : ℕ → Form} (on : Token → Bool) {f : Form} (g : Form) {X : Type 0}
    (a : Tree) (view : X → Tree) {i j : ℕ} (answer : Result (X × ℕ) SyntaxRefusal) → IsSpelt tokens grammar closed f i
    a j → Reads tokens grammar on g j view answer → Reads tokens grammar on (Then f g) i (λ x. Pair a (view x)) answer
behind_reads tokens on g a view (Ok x) one two = spelt_then one apart_closed two
behind_reads tokens on g a view (Err e) one two = fails_rest one apart_closed two

-- a part that was read up to k, and stands behind the old ones
pub record IsKept {X : Type 0} (tokens : List Token) (grammar : ℕ → Form) (on : Token → Bool) (f : Form)
    (view : X → Tree) (i : ℕ) (old new : List X) (k : ℕ) : Type 0 where
  pub part : X
  pub spelt : IsSpelt tokens grammar on f i (view part) k
  pub items : new ≡ old ++ (part ∷ [])

pub part_kept : (tokens : List Token) {grammar : ℕ → Form} (on : Token → Bool) (f : Form) {X : Type 0}
    (view : X → Tree) (i : ℕ) (read : Result (X × ℕ) SyntaxRefusal) (old new : List X) (k : ℕ) → Reads tokens grammar
    on f i view read → KeepsPart read old new (Ok k) → IsKept tokens grammar on f view i old new k
part_kept tokens {grammar} on f view i (Ok x) old new k one kept =
    record {
      part = x.0;
      spelt = subst (λ n. IsSpelt tokens grammar on f i (view x.0) n) (sym kept.1) one;
      items = kept.0;
    }
part_kept tokens on f view i (Err d) old new k one kept = absurd kept

pub part_fails : (tokens : List Token) {grammar : ℕ → Form} (on : Token → Bool) (f : Form) {X : Type 0}
    (view : X → Tree) (i : ℕ) (read : Result (X × ℕ) SyntaxRefusal) (old new : List X) (e : SyntaxRefusal) → Reads
    tokens grammar on f i view read → KeepsPart read old new (Err e) → Fails tokens grammar on f i e
part_fails tokens {grammar} on f view i (Ok x) old new e one kept =
    record { fault = λ k is. absurd (let never : Memory ≡ Syntax k = sym kept.1 ∙ is in cc) }
part_fails tokens {grammar} on f view i (Err d) old new e one kept = subst (λ r. Fails tokens grammar on f i r)
    (sym kept.1) one
