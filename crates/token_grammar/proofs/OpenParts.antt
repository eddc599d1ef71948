-- Laws on sequences whose later parts may all be missing: where the first part might have gone on, so might
-- the whole.
use Rattle.std.proofs.Common.{◌≡◌, ℕ, ◌≤◌, Bool, true, false, List, ◌⊎◌, inl, inr, sym, arith, slice_get, Result, Ok}
use Rattle.std.proofs.Common.{Err, subst}
use Rattle.token_grammar.specs.declared.token.Token.{Token}
use Rattle.token_grammar.specs.declared.syntax_refusal.SyntaxRefusal.{SyntaxRefusal}
use Rattle.token_grammar.specs.Form.{Form, Then, Tree, Pair}
use Rattle.token_grammar.specs.Spelling as S
use Rattle.token_grammar.specs.Spelling.{At, passes, Spells}
use Rattle.token_grammar.specs.Beginning as B
use Rattle.token_grammar.specs.Beginning.{Begins}
use Rattle.token_grammar.specs.Outcome.{Stops, IsFault, IsSpelt, Fails, Reads}
use Rattle.token_grammar.specs.Turns.{StandsBeside}
use Rattle.token_grammar.proofs.Places.{spells_begins, spells_from, begins_from, at_from}
use Rattle.token_grammar.proofs.Heads.{Firsts, Heads, starts, SpellsFirst, BeginsFirst, spells_first, begins_first}
use Rattle.token_grammar.proofs.Heads.{at_not, at_wider}
use Rattle.token_grammar.proofs.Sequences.{passes_false, fails_by, spelt_order, spelt_on, fails_on}

-- At a token of `on` no tokens of g come, and g may be spelt by none; the whole might go on with it.
pub record Meets (tokens : List Token) (grammar : ℕ → Form) (on on' : Token → Bool) (g : Form) : Type 0 where
  pub meets : (i : ℕ) → At tokens i on → Stops tokens grammar on' g i i

pub meets_by : {tokens : List Token} {grammar : ℕ → Form} (named : Firsts) → Heads grammar named
    → {on on' : Token → Bool} (g : Form) → ((t : Token) → on t ≡ true → on' t ≡ true)
    → ((t : Token) → on t ≡ true → starts named g t ≡ false) → Meets tokens grammar on on' g
meets_by {tokens} {grammar} named heads {on} {on'} g wide never =
    record {
      meets = λ i here.
          record {
            order = omega arith;
            unspelt = λ j a s. ends i j here (spells_first named heads s);
            furthest =
                λ j b. most i j here (begins_first named heads b);
          };
    }
  where
    none : (i : ℕ) → At tokens i on → passes (starts named g) (slice_get tokens i) ≡ false
    none i here = passes_false on (starts named g) (slice_get tokens i) never here.passed

    ends : (i j : ℕ) → At tokens i on → SpellsFirst named tokens g i j → At tokens j on'
    ends i j here (inl p) = at_from (sym p.0) (at_wider on' wide here)
    ends i j here (inr p) = at_not tokens i (starts named g) (none i here) p.1

    most : (i j : ℕ) → At tokens i on → BeginsFirst named tokens g i j → j ≤ i
    most i j here (inl p) = omega (arith, p)
    most i j here (inr p) = at_not tokens i (starts named g) (none i here) p

-- A sequence's first part has its fault.
pub fault_front_on : {tokens : List Token} {grammar : ℕ → Form} {on on' : Token → Bool} {f g : Form} {i k : ℕ}
    → Meets tokens grammar on on' g → IsFault tokens grammar on f i k → IsFault tokens grammar on' (Then f g) i k
fault_front_on {tokens} {grammar} {on} {on'} {f} {g} {i} {k} away r =
    record { begun = B.front r.begun; stops = record { order = r.stops.order; unspelt = unspelt; furthest = furthest } }
  where
    unspelt : (j : ℕ) (a : Tree) → Spells tokens grammar (Then f g) i j a → At tokens j on'
    unspelt j a (S.both {j = m} {a = x} {b = y} s t) = (away.meets m (r.stops.unspelt m x s)).unspelt j y t

    furthest : (j : ℕ) → Begins tokens grammar (Then f g) i j → j ≤ k
    furthest j B.no_tokens = r.stops.order
    furthest j (B.front b) = r.stops.furthest j b
    furthest j (B.rest {j = m} {a = x} s b) = let most =
        (away.meets m (r.stops.unspelt m x s)).furthest j b in let first =
        r.stops.furthest m (spells_begins s) in omega arith

-- The rest of a sequence, behind a first part that is spelt.
rest_furthest : {tokens : List Token} {grammar : ℕ → Form} {on on' : Token → Bool} {f g : Form} {i j k : ℕ} {a : Tree}
    → IsSpelt tokens grammar on f i a j → Meets tokens grammar on on' g → j ≤ k
    → ((m : ℕ) → Begins tokens grammar g j m → m ≤ k) → (m : ℕ) → Begins tokens grammar (Then f g) i m → m ≤ k
rest_furthest one away order most m B.no_tokens = let first = spelt_order one in omega arith
rest_furthest one away order most m (B.front b) = let first = one.furthest m b in omega arith
rest_furthest {tokens} {grammar} {on} {on'} {f} {g} {i} {j} {k} {a} one away order most m (B.rest {j = n} {a = x} s b) =
    go (one.only n x s)
  where
    go : ((n ≡ j) × (x ≡ a)) ⊎ At tokens n on → m ≤ k
    go (inl e) = most m (begins_from e.0 b)
    go (inr here) = let last = (away.meets n here).furthest m b in let first =
        one.furthest n (spells_begins s) in omega arith

pub fault_rest_on : {tokens : List Token} {grammar : ℕ → Form} {on on' : Token → Bool} {f g : Form} {i j k : ℕ}
    {a : Tree} → IsSpelt tokens grammar on f i a j → Meets tokens grammar on on' g → IsFault tokens grammar on' g j k
    → IsFault tokens grammar on' (Then f g) i k
fault_rest_on {tokens} {grammar} {on} {on'} {f} {g} {i} {j} {k} {a} one away r =
    record {
      begun = B.rest one.spelt r.begun;
      stops =
          record {
            order = let first = spelt_order one in let second = r.stops.order in omega arith;
            unspelt = unspelt;
            furthest = rest_furthest one away r.stops.order r.stops.furthest;
          };
    }
  where
    go : (m n : ℕ) (x y : Tree) → ((n ≡ j) × (x ≡ a)) ⊎ At tokens n on → Spells tokens grammar g n m y → At tokens m on'
    go m n x y (inl e) t = r.stops.unspelt m y (spells_from e.0 t)
    go m n x y (inr here) t = (away.meets n here).unspelt m y t

    unspelt : (m : ℕ) (b : Tree) → Spells tokens grammar (Then f g) i m b → At tokens m on'
    unspelt m b (S.both {j = n} {a = x} {b = y} s t) = go m n x y (one.only n x s) t

pub spelt_then_on : {tokens : List Token} {grammar : ℕ → Form} {on on' : Token → Bool} {f g : Form} {i j k : ℕ}
    {a b : Tree} → IsSpelt tokens grammar on f i a j → Meets tokens grammar on on' g
    → IsSpelt tokens grammar on' g j b k → IsSpelt tokens grammar on' (Then f g) i (Pair a b) k
spelt_then_on {tokens} {grammar} {on} {on'} {f} {g} {i} {j} {k} {a} {b} one away two =
    record {
      spelt = S.both one.spelt two.spelt;
      only = only;
      furthest =
          rest_furthest one away (spelt_order two) two.furthest;
    }
  where
    again : (m : ℕ) (x y : Tree) → x ≡ a → ((m ≡ k) × (y ≡ b)) ⊎ At tokens m on' → ((m ≡ k) × (Pair x y ≡ Pair a b))
        ⊎ At tokens m on'
    again m x y e (inl p) = let q = p.1 in inl (p.0, cc (e, q))
    again m x y e (inr here) = inr here

    go : (m n : ℕ) (x y : Tree) → ((n ≡ j) × (x ≡ a)) ⊎ At tokens n on → Spells tokens grammar g n m y
        → ((m ≡ k) × (Pair x y ≡ Pair a b)) ⊎ At tokens m on'
    go m n x y (inl e) t = again m x y e.1 (two.only m y (spells_from e.0 t))
    go m n x y (inr here) t = inr ((away.meets n here).unspelt m y t)

    only : (m : ℕ) (c : Tree) → Spells tokens grammar (Then f g) i m c → ((m ≡ k) × (c ≡ Pair a b)) ⊎ At tokens m on'
    only m c (S.both {j = n} {a = x} {b = y} s t) = go m n x y (one.only n x s) t

pub fails_front_on : {tokens : List Token} {grammar : ℕ → Form} {on on' : Token → Bool} {f g : Form} {i : ℕ}
    {e : SyntaxRefusal} → Meets tokens grammar on on' g → Fails tokens grammar on f i e
    → Fails tokens grammar on' (Then f g) i e
fails_front_on away r = fails_by (λ k. fault_front_on away) r

pub fails_rest_on : {tokens : List Token} {grammar : ℕ → Form} {on on' : Token → Bool} {f g : Form} {i j : ℕ} {a : Tree}
    {e : SyntaxRefusal} → IsSpelt tokens grammar on f i a j → Meets tokens grammar on on' g
    → Fails tokens grammar on' g j e → Fails tokens grammar on' (Then f g) i e
fails_rest_on one away r = fails_by (λ k. fault_rest_on one away) r

-- The first part was read, and the second one is read behind it.
pub beside_reads_on : (tokens : List Token) {grammar : ℕ → Form} {on on' : Token → Bool} {f : Form} (g : Form)
    {X Y : Type 0} (first_view : X → Tree) (second_view : Y → Tree) {i j : ℕ} (first : X)
    (second : Result (Y × ℕ) SyntaxRefusal) (answer : Result ((X × Y) × ℕ) SyntaxRefusal) → IsSpelt tokens grammar on
    f i (first_view first) j → Meets tokens grammar on on' g → Reads tokens grammar on' g j second_view second →
    StandsBeside first second answer → Reads tokens grammar on' (Then f g) i
    (λ p. Pair (first_view p.0) (second_view p.1)) answer
beside_reads_on tokens {grammar} {on} {on'} {f} g first_view second_view {i} first (Ok y) answer one meets two is =
    subst (λ r. Reads tokens grammar on' (Then f g) i (λ p. Pair (first_view p.0) (second_view p.1)) r) (sym is)
    (spelt_then_on one meets two)
beside_reads_on tokens {grammar} {on} {on'} {f} g first_view second_view {i} first (Err e) answer one meets two is =
    subst (λ r. Reads tokens grammar on' (Then f g) i (λ p. Pair (first_view p.0) (second_view p.1)) r) (sym is)
    (fails_rest_on one meets two)

-- What a reader answers of a form that may go on with fewer tokens.
pub reads_on : (tokens : List Token) (grammar : ℕ → Form) {on on' : Token → Bool} (f : Form) {X : Type 0}
    (view : X → Tree) (i : ℕ) (read : Result (X × ℕ) SyntaxRefusal) → ((m : ℕ) → At tokens m on → At tokens m on') →
    Reads tokens grammar on f i view read → Reads tokens grammar on' f i view read
reads_on tokens grammar f view i (Ok x) wide one = spelt_on wide one
reads_on tokens grammar f view i (Err e) wide one = fails_on wide one
