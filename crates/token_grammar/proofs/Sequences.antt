-- Laws on sequences, choices, optional parts and named forms: from what is read of the parts to
-- what is read of the whole.
use Rattle.std.proofs.Common.{◌≡◌, ℕ, ◌≤◌, Bool, true, false, List, Option, None, Some, ◌⊎◌, inl, inr, refl, ap, subst}
use Rattle.std.proofs.Common.{arith, slice_get}
use Rattle.token_grammar.specs.declared.token.Token.{Token}
use Rattle.token_grammar.specs.declared.syntax_refusal.SyntaxRefusal.{SyntaxRefusal}
use Rattle.token_grammar.specs.declared.syntax_refusal.SyntaxRefusal.TheVariants.{Syntax, Memory}
use Rattle.token_grammar.specs.Form.{Form, Tree, Then, Or, Maybe, Named, Pair, First, Second, Absent, Present, Numbered}
use Rattle.token_grammar.specs.Spelling as S
use Rattle.token_grammar.specs.Spelling.{At, passes, Spells}
use Rattle.token_grammar.specs.Beginning as B
use Rattle.token_grammar.specs.Beginning.{Begins}
use Rattle.token_grammar.specs.Outcome.{closed, Stops, IsFault, IsSpelt, Fails}
use Rattle.token_grammar.proofs.Places.{spells_begins, spells_order, spells_from, begins_from}
use Rattle.token_grammar.proofs.Heads.{Firsts, skips, starts, Heads, stops_here}

-- no token passes the test of a closed form
passes_closed : {A : Type 0} (token : Option Token) → passes closed token ≡ true → A
passes_closed None e = absurd (cc)
passes_closed (Some t) e = absurd (cc)

pub not_closed : {A : Type 0} {tokens : List Token} {i : ℕ} → At tokens i closed → A
not_closed {A} {tokens} {i} here = passes_closed (slice_get tokens i) here.passed

-- g can't begin with a token of `on`, nor be spelt by no tokens there
pub record Apart (tokens : List Token) (grammar : ℕ → Form) (on : Token → Bool) (g : Form) : Type 0 where
  pub apart : (i : ℕ) → At tokens i on → Stops tokens grammar closed g i i

pub apart_closed : {tokens : List Token} {grammar : ℕ → Form} {g : Form} → Apart tokens grammar closed g
apart_closed = record { apart = λ i here. not_closed here }

pub passes_false : (p q : Token → Bool) (token : Option Token) → ((t : Token) → p t ≡ true → q t ≡ false)
    → passes p token ≡ true → passes q token ≡ false
passes_false p q None never e = refl
passes_false p q (Some t) never e = never t e

pub apart_by : {tokens : List Token} {grammar : ℕ → Form} (named : Firsts) → Heads grammar named
    → {on : Token → Bool} (g : Form) → skips named g ≡ false → ((t : Token) → on t ≡ true → starts named g t ≡ false)
    → Apart tokens grammar on g
apart_by {tokens} named heads {on} g full never =
    record {
      apart = λ i here. stops_here named heads g i i (omega arith) full
          (passes_false on (starts named g) (slice_get tokens i) never here.passed);
    }

-- the end is not before the start
pub spelt_order : {tokens : List Token} {grammar : ℕ → Form} {on : Token → Bool} {f : Form} {i k : ℕ} {a : Tree}
    → IsSpelt tokens grammar on f i a k → i ≤ k
spelt_order r = spells_order r.spelt

-- what is read of a closed form, as of one that might have gone on
pub stops_wider : {tokens : List Token} {grammar : ℕ → Form} (on : Token → Bool) {f : Form} {i k : ℕ}
    → Stops tokens grammar closed f i k → Stops tokens grammar on f i k
stops_wider on r = record { order = r.order; unspelt = λ j a s. not_closed (r.unspelt j a s); furthest = r.furthest }

pub fault_wider : {tokens : List Token} {grammar : ℕ → Form} (on : Token → Bool) {f : Form} {i k : ℕ}
    → IsFault tokens grammar closed f i k → IsFault tokens grammar on f i k
fault_wider on r = record { begun = r.begun; stops = stops_wider on r.stops }

pub spelt_wider : {tokens : List Token} {grammar : ℕ → Form} (on : Token → Bool) {f : Form} {i k : ℕ} {a : Tree}
    → IsSpelt tokens grammar closed f i a k → IsSpelt tokens grammar on f i a k
spelt_wider {tokens} {grammar} on {f} {i} {k} {a} r =
    record { spelt = r.spelt; only = λ j b s. go j b (r.only j b s); furthest = r.furthest }
  where
    go : (j : ℕ) (b : Tree) → ((j ≡ k) × (b ≡ a)) ⊎ At tokens j closed → ((j ≡ k) × (b ≡ a)) ⊎ At tokens j on
    go j b (inl e) = inl e
    go j b (inr here) = not_closed here

pub fails_wider : {tokens : List Token} {grammar : ℕ → Form} (on : Token → Bool) {f : Form} {i : ℕ} {e : SyntaxRefusal}
    → Fails tokens grammar closed f i e → Fails tokens grammar on f i e
fails_wider on r = record { fault = λ k is. fault_wider on (r.fault k is) }

-- a stop further on
pub stops_later : {tokens : List Token} {grammar : ℕ → Form} {on : Token → Bool} {f : Form} {i k k' : ℕ} → k ≤ k'
    → Stops tokens grammar on f i k → Stops tokens grammar on f i k'
stops_later order r = record {
  order = let first = r.order in omega arith;
  unspelt = r.unspelt;
  furthest =
      λ j b. let most = r.furthest j b in omega arith;
}

-- A sequence's first part has its fault.
pub fault_front : {tokens : List Token} {grammar : ℕ → Form} {on on' : Token → Bool} {f g : Form} {i k : ℕ}
    → Apart tokens grammar on g → IsFault tokens grammar on f i k → IsFault tokens grammar on' (Then f g) i k
fault_front {tokens} {grammar} {on} {on'} {f} {g} {i} {k} away r =
    record { begun = B.front r.begun; stops = record { order = r.stops.order; unspelt = unspelt; furthest = furthest } }
  where
    unspelt : (j : ℕ) (a : Tree) → Spells tokens grammar (Then f g) i j a → At tokens j on'
    unspelt j a (S.both {j = m} {a = x} {b = y} s t) = not_closed ((away.apart m (r.stops.unspelt m x s)).unspelt j y t)

    furthest : (j : ℕ) → Begins tokens grammar (Then f g) i j → j ≤ k
    furthest j B.no_tokens = r.stops.order
    furthest j (B.front b) = r.stops.furthest j b
    furthest j (B.rest {j = m} {a = x} s b) = let most =
        (away.apart m (r.stops.unspelt m x s)).furthest j b in let first =
        r.stops.furthest m (spells_begins s) in omega arith

-- The rest of a sequence, behind a first part that is spelt: what stops the rest stops the whole.
rest_furthest : {tokens : List Token} {grammar : ℕ → Form} {on : Token → Bool} {f g : Form} {i j k : ℕ} {a : Tree}
    → IsSpelt tokens grammar on f i a j → Apart tokens grammar on g → j ≤ k
    → ((m : ℕ) → Begins tokens grammar g j m → m ≤ k) → (m : ℕ) → Begins tokens grammar (Then f g) i m → m ≤ k
rest_furthest one away order most m B.no_tokens = let first = spelt_order one in omega arith
rest_furthest one away order most m (B.front b) = let first = one.furthest m b in omega arith
rest_furthest {tokens} {grammar} {on} {f} {g} {i} {j} {k} {a} one away order most m (B.rest {j = n} {a = x} s b) =
    go (one.only n x s)
  where
    go : ((n ≡ j) × (x ≡ a)) ⊎ At tokens n on → m ≤ k
    go (inl e) = most m (begins_from e.0 b)
    go (inr here) = let last = (away.apart n here).furthest m b in let first =
        one.furthest n (spells_begins s) in omega arith

pub fault_rest : {tokens : List Token} {grammar : ℕ → Form} {on on' : Token → Bool} {f g : Form} {i j k : ℕ} {a : Tree}
    → IsSpelt tokens grammar on f i a j → Apart tokens grammar on g → IsFault tokens grammar on' g j k
    → IsFault tokens grammar on' (Then f g) i k
fault_rest {tokens} {grammar} {on} {on'} {f} {g} {i} {j} {k} {a} one away r =
    record {
      begun = B.rest one.spelt r.begun;
      stops =
          record {
            order = let first = spelt_order one in let second = r.stops.order in omega arith;
            unspelt = unspelt;
            furthest = rest_furthest one away r.stops.order r.stops.furthest;
          };
    }
  where
    go : (m n : ℕ) (x y : Tree) → ((n ≡ j) × (x ≡ a)) ⊎ At tokens n on → Spells tokens grammar g n m y → At tokens m on'
    go m n x y (inl e) t = r.stops.unspelt m y (spells_from e.0 t)
    go m n x y (inr here) t = not_closed ((away.apart n here).unspelt m y t)

    unspelt : (m : ℕ) (b : Tree) → Spells tokens grammar (Then f g) i m b → At tokens m on'
    unspelt m b (S.both {j = n} {a = x} {b = y} s t) = go m n x y (one.only n x s) t

pub spelt_then : {tokens : List Token} {grammar : ℕ → Form} {on on' : Token → Bool} {f g : Form} {i j k : ℕ}
    {a b : Tree} → IsSpelt tokens grammar on f i a j → Apart tokens grammar on g → IsSpelt tokens grammar on' g j b k
    → IsSpelt tokens grammar on' (Then f g) i (Pair a b) k
spelt_then {tokens} {grammar} {on} {on'} {f} {g} {i} {j} {k} {a} {b} one away two =
    record {
      spelt = S.both one.spelt two.spelt;
      only = only;
      furthest =
          rest_furthest one away (spelt_order two) two.furthest;
    }
  where
    again : (m : ℕ) (x y : Tree) → x ≡ a → ((m ≡ k) × (y ≡ b)) ⊎ At tokens m on' → ((m ≡ k) × (Pair x y ≡ Pair a b))
        ⊎ At tokens m on'
    again m x y e (inl p) = let q = p.1 in inl (p.0, cc (e, q))
    again m x y e (inr here) = inr here

    go : (m n : ℕ) (x y : Tree) → ((n ≡ j) × (x ≡ a)) ⊎ At tokens n on → Spells tokens grammar g n m y
        → ((m ≡ k) × (Pair x y ≡ Pair a b)) ⊎ At tokens m on'
    go m n x y (inl e) t = again m x y e.1 (two.only m y (spells_from e.0 t))
    go m n x y (inr here) t = not_closed ((away.apart n here).unspelt m y t)

    only : (m : ℕ) (c : Tree) → Spells tokens grammar (Then f g) i m c → ((m ≡ k) × (c ≡ Pair a b)) ⊎ At tokens m on'
    only m c (S.both {j = n} {a = x} {b = y} s t) = go m n x y (one.only n x s) t

-- A choice, where its first alternative is read and the second stops no further, or the other way.
pub spelt_first : {tokens : List Token} {grammar : ℕ → Form} {on : Token → Bool} {f g : Form} {i k : ℕ} {a : Tree}
    → IsSpelt tokens grammar on f i a k → Stops tokens grammar on g i k
    → IsSpelt tokens grammar on (Or f g) i (First a) k
spelt_first {tokens} {grammar} {on} {f} {g} {i} {k} {a} one other =
    record { spelt = S.first one.spelt; only = only; furthest = furthest }
  where
    go : (m : ℕ) (x : Tree) → ((m ≡ k) × (x ≡ a)) ⊎ At tokens m on → ((m ≡ k) × (First x ≡ First a)) ⊎ At tokens m on
    go m x (inl e) = inl (e.0, ap First e.1)
    go m x (inr here) = inr here

    only : (m : ℕ) (c : Tree) → Spells tokens grammar (Or f g) i m c → ((m ≡ k) × (c ≡ First a)) ⊎ At tokens m on
    only m c (S.first {a = x} s) = go m x (one.only m x s)
    only m c (S.second {a = x} s) = inr (other.unspelt m x s)

    furthest : (m : ℕ) → Begins tokens grammar (Or f g) i m → m ≤ k
    furthest m B.no_tokens = other.order
    furthest m (B.first b) = one.furthest m b
    furthest m (B.second b) = other.furthest m b

pub spelt_second : {tokens : List Token} {grammar : ℕ → Form} {on : Token → Bool} {f g : Form} {i k : ℕ} {a : Tree}
    → Stops tokens grammar on f i k → IsSpelt tokens grammar on g i a k
    → IsSpelt tokens grammar on (Or f g) i (Second a) k
spelt_second {tokens} {grammar} {on} {f} {g} {i} {k} {a} other one =
    record { spelt = S.second one.spelt; only = only; furthest = furthest }
  where
    go : (m : ℕ) (x : Tree) → ((m ≡ k) × (x ≡ a)) ⊎ At tokens m on → ((m ≡ k) × (Second x ≡ Second a)) ⊎ At tokens m on
    go m x (inl e) = inl (e.0, ap Second e.1)
    go m x (inr here) = inr here

    only : (m : ℕ) (c : Tree) → Spells tokens grammar (Or f g) i m c → ((m ≡ k) × (c ≡ Second a)) ⊎ At tokens m on
    only m c (S.first {a = x} s) = inr (other.unspelt m x s)
    only m c (S.second {a = x} s) = go m x (one.only m x s)

    furthest : (m : ℕ) → Begins tokens grammar (Or f g) i m → m ≤ k
    furthest m B.no_tokens = other.order
    furthest m (B.first b) = other.furthest m b
    furthest m (B.second b) = one.furthest m b

pub stops_or : {tokens : List Token} {grammar : ℕ → Form} {on : Token → Bool} {f g : Form} {i k : ℕ}
    → Stops tokens grammar on f i k → Stops tokens grammar on g i k → Stops tokens grammar on (Or f g) i k
stops_or {tokens} {grammar} {on} {f} {g} {i} {k} one other =
    record { order = one.order; unspelt = unspelt; furthest = furthest }
  where
    unspelt : (m : ℕ) (c : Tree) → Spells tokens grammar (Or f g) i m c → At tokens m on
    unspelt m c (S.first {a = x} s) = one.unspelt m x s
    unspelt m c (S.second {a = x} s) = other.unspelt m x s

    furthest : (m : ℕ) → Begins tokens grammar (Or f g) i m → m ≤ k
    furthest m B.no_tokens = other.order
    furthest m (B.first b) = one.furthest m b
    furthest m (B.second b) = other.furthest m b

pub fault_first : {tokens : List Token} {grammar : ℕ → Form} {on : Token → Bool} {f g : Form} {i k : ℕ}
    → IsFault tokens grammar on f i k → Stops tokens grammar on g i k → IsFault tokens grammar on (Or f g) i k
fault_first one other = record { begun = B.first one.begun; stops = stops_or one.stops other }

pub fault_second : {tokens : List Token} {grammar : ℕ → Form} {on : Token → Bool} {f g : Form} {i k : ℕ}
    → Stops tokens grammar on f i k → IsFault tokens grammar on g i k → IsFault tokens grammar on (Or f g) i k
fault_second other one = record { begun = B.second one.begun; stops = stops_or other one.stops }

-- An optional part: it comes, with a token that `on` has, or it doesn't.
pub spelt_present : {tokens : List Token} {grammar : ℕ → Form} {on : Token → Bool} {f : Form} {i k : ℕ} {a : Tree}
    → At tokens i on → IsSpelt tokens grammar on f i a k → IsSpelt tokens grammar on (Maybe f) i (Present a) k
spelt_present {tokens} {grammar} {on} {f} {i} {k} {a} comes one =
    record { spelt = S.present one.spelt; only = only; furthest = furthest }
  where
    go : (m : ℕ) (x : Tree) → ((m ≡ k) × (x ≡ a)) ⊎ At tokens m on → ((m ≡ k) × (Present x ≡ Present a))
        ⊎ At tokens m on
    go m x (inl e) = inl (e.0, ap Present e.1)
    go m x (inr here) = inr here

    only : (m : ℕ) (c : Tree) → Spells tokens grammar (Maybe f) i m c → ((m ≡ k) × (c ≡ Present a)) ⊎ At tokens m on
    only m c S.absent = inr comes
    only m c (S.present {a = x} s) = go m x (one.only m x s)

    furthest : (m : ℕ) → Begins tokens grammar (Maybe f) i m → m ≤ k
    furthest m B.no_tokens = spelt_order one
    furthest m (B.present b) = one.furthest m b

pub spelt_absent : {tokens : List Token} {grammar : ℕ → Form} {on : Token → Bool} {f : Form} {i : ℕ}
    → Stops tokens grammar on f i i → IsSpelt tokens grammar on (Maybe f) i Absent i
spelt_absent {tokens} {grammar} {on} {f} {i} none = record { spelt = S.absent; only = only; furthest = furthest }
  where
    only : (m : ℕ) (c : Tree) → Spells tokens grammar (Maybe f) i m c → ((m ≡ i) × (c ≡ Absent)) ⊎ At tokens m on
    only m c S.absent = inl (refl, refl)
    only m c (S.present {a = x} s) = inr (none.unspelt m x s)

    furthest : (m : ℕ) → Begins tokens grammar (Maybe f) i m → m ≤ i
    furthest m B.no_tokens = omega arith
    furthest m (B.present b) = none.furthest m b

pub fault_present : {tokens : List Token} {grammar : ℕ → Form} {on : Token → Bool} {f : Form} {i k : ℕ} → At tokens i on
    → IsFault tokens grammar on f i k → IsFault tokens grammar on (Maybe f) i k
fault_present {tokens} {grammar} {on} {f} {i} {k} comes one =
    record {
      begun = B.present one.begun;
      stops =
          record { order = one.stops.order; unspelt = unspelt; furthest = furthest };
    }
  where
    unspelt : (m : ℕ) (c : Tree) → Spells tokens grammar (Maybe f) i m c → At tokens m on
    unspelt m c S.absent = comes
    unspelt m c (S.present {a = x} s) = one.stops.unspelt m x s

    furthest : (m : ℕ) → Begins tokens grammar (Maybe f) i m → m ≤ k
    furthest m B.no_tokens = one.stops.order
    furthest m (B.present b) = one.stops.furthest m b

-- A named form, which has the number of its document beside it.
pub spelt_named : {tokens : List Token} {grammar : ℕ → Form} {on : Token → Bool} (n : ℕ) {i k : ℕ} {a : Tree}
    → IsSpelt tokens grammar on (grammar n) i a k → IsSpelt tokens grammar on (Named n) i (Numbered 0 a) k
spelt_named {tokens} {grammar} {on} n {i} {k} {a} one =
    record { spelt = S.named one.spelt; only = only; furthest = furthest }
  where
    go : (m : ℕ) (x : Tree) → ((m ≡ k) × (x ≡ a)) ⊎ At tokens m on → ((m ≡ k) × (Numbered 0 x ≡ Numbered 0 a))
        ⊎ At tokens m on
    go m x (inl e) = inl (e.0, ap (Numbered 0) e.1)
    go m x (inr here) = inr here

    only : (m : ℕ) (c : Tree) → Spells tokens grammar (Named n) i m c → ((m ≡ k) × (c ≡ Numbered 0 a)) ⊎ At tokens m on
    only m c (S.named {a = x} s) = go m x (one.only m x s)

    furthest : (m : ℕ) → Begins tokens grammar (Named n) i m → m ≤ k
    furthest m B.no_tokens = spelt_order one
    furthest m (B.named b) = one.furthest m b

pub stops_named : {tokens : List Token} {grammar : ℕ → Form} {on : Token → Bool} (n : ℕ) {i k : ℕ}
    → Stops tokens grammar on (grammar n) i k → Stops tokens grammar on (Named n) i k
stops_named {tokens} {grammar} {on} n {i} {k} one = record { order = one.order; unspelt = unspelt; furthest = furthest }
  where
    unspelt : (m : ℕ) (c : Tree) → Spells tokens grammar (Named n) i m c → At tokens m on
    unspelt m c (S.named {a = x} s) = one.unspelt m x s

    furthest : (m : ℕ) → Begins tokens grammar (Named n) i m → m ≤ k
    furthest m B.no_tokens = one.order
    furthest m (B.named b) = one.furthest m b

pub fault_named : {tokens : List Token} {grammar : ℕ → Form} {on : Token → Bool} (n : ℕ) {i k : ℕ}
    → IsFault tokens grammar on (grammar n) i k → IsFault tokens grammar on (Named n) i k
fault_named n one = record { begun = B.named one.begun; stops = stops_named n one.stops }

-- The refusals of the parts are refusals of the whole.
pub fails_by : {tokens : List Token} {grammar : ℕ → Form} {on on' : Token → Bool} {f g : Form} {i j : ℕ}
    {e : SyntaxRefusal} → ((k : ℕ) → IsFault tokens grammar on f i k → IsFault tokens grammar on' g j k)
    → Fails tokens grammar on f i e → Fails tokens grammar on' g j e
fails_by law r = record { fault = λ k is. law k (r.fault k is) }

pub fails_at : {tokens : List Token} {grammar : ℕ → Form} {on : Token → Bool} {f : Form} {i k : ℕ}
    → IsFault tokens grammar on f i k → Fails tokens grammar on f i (Syntax k)
fails_at {tokens} {grammar} {on} {f} {i} {k} r =
    record { fault = λ m is. subst (λ (x : ℕ). IsFault tokens grammar on f i x) (same m is) r }
  where
    same : (m : ℕ) → Syntax k ≡ Syntax m → k ≡ m
    same m is = cc

pub fails_memory : {tokens : List Token} {grammar : ℕ → Form} {on : Token → Bool} {f : Form} {i : ℕ} {e : SyntaxRefusal}
    → e ≡ Memory → Fails tokens grammar on f i e
fails_memory is = record { fault = λ k other. absurd (cc (is, other)) }

pub fails_front : {tokens : List Token} {grammar : ℕ → Form} {on on' : Token → Bool} {f g : Form} {i : ℕ}
    {e : SyntaxRefusal} → Apart tokens grammar on g → Fails tokens grammar on f i e
    → Fails tokens grammar on' (Then f g) i e
fails_front away r = fails_by (λ k. fault_front away) r

pub fails_rest : {tokens : List Token} {grammar : ℕ → Form} {on on' : Token → Bool} {f g : Form} {i j : ℕ} {a : Tree}
    {e : SyntaxRefusal} → IsSpelt tokens grammar on f i a j → Apart tokens grammar on g → Fails tokens grammar on' g j e
    → Fails tokens grammar on' (Then f g) i e
fails_rest one away r = fails_by (λ k. fault_rest one away) r

pub fails_named : {tokens : List Token} {grammar : ℕ → Form} {on : Token → Bool} (n : ℕ) {i : ℕ} {e : SyntaxRefusal}
    → Fails tokens grammar on (grammar n) i e → Fails tokens grammar on (Named n) i e
fails_named n r = fails_by (λ k. fault_named n) r

pub fails_present : {tokens : List Token} {grammar : ℕ → Form} {on : Token → Bool} {f : Form} {i : ℕ}
    {e : SyntaxRefusal} → At tokens i on → Fails tokens grammar on f i e → Fails tokens grammar on (Maybe f) i e
fails_present comes r = fails_by (λ k. fault_present comes) r

-- what is read of a form, as of one that goes on with more tokens
pub spelt_on : {tokens : List Token} {grammar : ℕ → Form} {on on' : Token → Bool} {f : Form} {i k : ℕ} {a : Tree}
    → ((m : ℕ) → At tokens m on → At tokens m on') → IsSpelt tokens grammar on f i a k
    → IsSpelt tokens grammar on' f i a k
spelt_on {tokens} {grammar} {on} {on'} {f} {i} {k} {a} wide r =
    record { spelt = r.spelt; only = λ j b s. go j b (r.only j b s); furthest = r.furthest }
  where
    go : (j : ℕ) (b : Tree) → ((j ≡ k) × (b ≡ a)) ⊎ At tokens j on → ((j ≡ k) × (b ≡ a)) ⊎ At tokens j on'
    go j b (inl e) = inl e
    go j b (inr here) = inr (wide j here)

pub fails_on : {tokens : List Token} {grammar : ℕ → Form} {on on' : Token → Bool} {f : Form} {i : ℕ} {e : SyntaxRefusal}
    → ((m : ℕ) → At tokens m on → At tokens m on') → Fails tokens grammar on f i e → Fails tokens grammar on' f i e
fails_on wide r = fails_by
    (λ k one. record {
      begun = one.begun;
      stops =
          record {
            order = one.stops.order;
            unspelt = λ j a s. wide j (one.stops.unspelt j a s);
            furthest =
                one.stops.furthest;
          };
    }) r
