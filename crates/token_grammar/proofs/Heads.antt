-- Laws on first tokens: a computed test that each token passes with which a form begins, and one
-- that says that a form can't be spelt by no tokens.
use Rattle.std.proofs.Common.{◌≡◌, ℕ, zero, suc, ◌≤◌, ◌<◌, Bool, true, false, ◌&&◌, ◌||◌, List, [], ◌∷◌, Option, None}
use Rattle.std.proofs.Common.{Some, ◌⊎◌, inl, inr, refl, sym, ◌∙◌, ap, arith, slice_get}
use Rattle.token_grammar.specs.declared.token.Token.{Token}
use Rattle.token_grammar.specs.Form.{Form, Tree, Marks, Keep, Then, Or, Maybe, Listed, Many, AnyOrder, Named, Slots}
use Rattle.token_grammar.specs.Form.{Slot, NoSlots, After, form_at, filled}
use Rattle.token_grammar.specs.Spelling as S
use Rattle.token_grammar.specs.Spelling.{At, passes, Spells}
use Rattle.token_grammar.specs.Beginning as B
use Rattle.token_grammar.specs.Beginning.{Begins}
use Rattle.token_grammar.specs.Outcome.{Stops}
use Rattle.token_grammar.proofs.Places.{spells_order, at_token, at_from}

-- What is known of the named forms: a test that their first tokens pass, and whether they may be spelt
-- by no tokens.
pub record Firsts : Type 0 where
  pub begins : ℕ → Token → Bool
  pub empty : ℕ → Bool

-- whether a form may be spelt by no tokens
abbrev pub skips : Firsts → Form → Bool
skips named (Marks []) = true
skips named (Marks (test ∷ tests)) = false
skips named (Keep test) = false
skips named (Then f g) = skips named f && skips named g
skips named (Or f g) = skips named f || skips named g
skips named (Maybe f) = true
skips named (Listed separator s f) = skips named f
skips named (Many s f) = true
skips named (AnyOrder s) = true
skips named (Named n) = named.empty n

-- the test of a first part, or of what stands behind it where the part may be missing
abbrev pub past : Bool → Bool → Bool → Bool
past true a b = a || b
past false a b = a

-- whether a form may begin with a token
abbrev mutual
  pub starts : Firsts → Form → Token → Bool
  starts named (Marks []) token = false
  starts named (Marks (test ∷ tests)) token = test token
  starts named (Keep test) token = test token
  starts named (Then f g) token = past (skips named f) (starts named f token) (starts named g token)
  starts named (Or f g) token = starts named f token || starts named g token
  starts named (Maybe f) token = starts named f token
  starts named (Listed separator s f) token = past (skips named f) (starts named f token) (separator token)
  starts named (Many s f) token = starts named f token
  starts named (AnyOrder s) token = opens named s token
  starts named (Named n) token = named.begins n token

  pub opens : Firsts → Slots → Token → Bool
  opens named NoSlots token = false
  opens named (Slot needed f came slots) token = starts named f token || opens named slots token

-- `named` holds of the grammar's forms
pub record Heads (grammar : ℕ → Form) (named : Firsts) : Type 0 where
  pub empty : (n : ℕ) → skips named (grammar n) ≡ true → named.empty n ≡ true
  pub first : (n : ℕ) (token : Token) → starts named (grammar n) token ≡ true → named.begins n token ≡ true

-- what holds of every grammar: no more than that a named form may begin with any token, or with none
abbrev pub unknown : Firsts
unknown = record { begins = λ n token. true; empty = λ n. true }

pub heads_unknown : {grammar : ℕ → Form} → Heads grammar unknown
heads_unknown = record { empty = λ n e. refl; first = λ n token e. refl }

-- one of two tests passes
pub or_left : (a b : Bool) → a ≡ true → (a || b) ≡ true
or_left a b e = rw e refl

pub or_right : (a b : Bool) → b ≡ true → (a || b) ≡ true
or_right true b e = refl
or_right false b e = e

past_left : (s a b : Bool) → a ≡ true → past s a b ≡ true
past_left true a b e = or_left a b e
past_left false a b e = e

past_right : (s a b : Bool) → s ≡ true → b ≡ true → past s a b ≡ true
past_right true a b e h = or_right a b h
past_right false a b e h = absurd (cc e)

pub and_both : (a b : Bool) → a ≡ true → b ≡ true → (a && b) ≡ true
and_both a b p q = rw (p, q) refl

-- a token that passes a test passes a wider one
pub passes_wider : (p q : Token → Bool) (token : Option Token) → ((t : Token) → p t ≡ true → q t ≡ true)
    → passes p token ≡ true → passes q token ≡ true
passes_wider p q None wide e = e
passes_wider p q (Some t) wide e = wide t e

pub at_wider : {tokens : List Token} {i : ℕ} {p : Token → Bool} (q : Token → Bool)
    → ((t : Token) → p t ≡ true → q t ≡ true) → At tokens i p → At tokens i q
at_wider {tokens} {i} {p} q wide here = record { passed = passes_wider p q (slice_get tokens i) wide here.passed }

-- a clause's first tokens are among those of all clauses
opens_form : (named : Firsts) (n : ℕ) (s : Slots) (t : Token) → starts named (form_at n s) t ≡ true
    → opens named s t ≡ true
opens_form named n NoSlots t e = e
opens_form named zero (Slot needed f came s) t e = or_left (starts named f t) (opens named s t) e
opens_form named (suc n) (Slot needed f came s) t e =
    or_right (starts named f t) (opens named s t) (opens_form named n s t e)

opens_filled : (named : Firsts) (n : ℕ) (a : Tree) (s : Slots) (t : Token)
    → opens named (filled n a s) t ≡ opens named s t
opens_filled named n a NoSlots t = refl
opens_filled named zero a (Slot needed f came s) t = refl
opens_filled named (suc n) a (Slot needed f came s) t = ap (λ x. starts named f t || x) (opens_filled named n a s t)

-- What is known of a spelling's first token: there is none and the form can be spelt so, or there is
-- one and it passes the test.
abbrev pub SpellsFirst : Firsts → List Token → Form → ℕ → ℕ → Type 0
SpellsFirst named tokens f i k = ((k ≡ i) × (skips named f ≡ true)) ⊎ ((i < k) × At tokens i (starts named f))

then_first : {tokens : List Token} (named : Firsts) (f g : Form) (i j k : ℕ) → j ≤ k → SpellsFirst named tokens f i j
    → SpellsFirst named tokens g j k → SpellsFirst named tokens (Then f g) i k
then_first named f g i j k order (inl p) (inl q) =
    inl (omega (arith, p.0, q.0), and_both (skips named f) (skips named g) p.1 q.1)
then_first named f g i j k order (inl p) (inr q) =
    inr (
      omega (arith, p.0, q.0),
      at_wider (starts named (Then f g)) (λ t e. past_right (skips named f) (starts named f t) (starts named g t) p.1 e)
          (at_from p.0 q.1),
    )
then_first named f g i j k order (inr p) q =
    inr (
      omega (arith, p.0, order),
      at_wider (starts named (Then f g)) (λ t e. past_left (skips named f) (starts named f t) (starts named g t) e) p.1,
    )

or_first : {tokens : List Token} (named : Firsts) (f g : Form) (i k : ℕ) → SpellsFirst named tokens f i k
    → SpellsFirst named tokens (Or f g) i k
or_first named f g i k (inl p) = inl (p.0, or_left (skips named f) (skips named g) p.1)
or_first named f g i k (inr p) =
    inr (p.0, at_wider (starts named (Or f g)) (λ t e. or_left (starts named f t) (starts named g t) e) p.1)

or_second : {tokens : List Token} (named : Firsts) (f g : Form) (i k : ℕ) → SpellsFirst named tokens g i k
    → SpellsFirst named tokens (Or f g) i k
or_second named f g i k (inl p) = inl (p.0, or_right (skips named f) (skips named g) p.1)
or_second named f g i k (inr p) =
    inr (p.0, at_wider (starts named (Or f g)) (λ t e. or_right (starts named f t) (starts named g t) e) p.1)

maybe_first : {tokens : List Token} (named : Firsts) (f : Form) (i k : ℕ) → SpellsFirst named tokens f i k
    → SpellsFirst named tokens (Maybe f) i k
maybe_first named f i k (inl p) = inl (p.0, refl)
maybe_first named f i k (inr p) = inr (p.0, at_wider (starts named (Maybe f)) (λ t e. e) p.1)

last_first : {tokens : List Token} (named : Firsts) (separator : Token → Bool) (s : Tree) (f : Form) (i k : ℕ)
    → SpellsFirst named tokens f i k → SpellsFirst named tokens (Listed separator s f) i k
last_first named separator s f i k (inl p) = inl p
last_first named separator s f i k (inr p) =
    inr (
      p.0,
      at_wider (starts named (Listed separator s f))
          (λ t e. past_left (skips named f) (starts named f t) (separator t) e) p.1,
    )

more_first : {tokens : List Token} (named : Firsts) (separator : Token → Bool) (s : Tree) (f : Form) (i j k : ℕ) → j < k
    → At tokens j separator → SpellsFirst named tokens f i j → SpellsFirst named tokens (Listed separator s f) i k
more_first named separator s f i j k order here (inl p) =
    inr (
      omega (arith, p.0, order),
      at_wider (starts named (Listed separator s f))
          (λ t e. past_right (skips named f) (starts named f t) (separator t) p.1 e) (at_from p.0 here),
    )
more_first named separator s f i j k order here (inr p) =
    inr (
      omega (arith, p.0, order),
      at_wider (starts named (Listed separator s f))
          (λ t e. past_left (skips named f) (starts named f t) (separator t) e) p.1,
    )

another_first : {tokens : List Token} (named : Firsts) (s s' : Tree) (f : Form) (i j k : ℕ) → j ≤ k
    → SpellsFirst named tokens f i j → SpellsFirst named tokens (Many s' f) j k
    → SpellsFirst named tokens (Many s f) i k
another_first named s s' f i j k order (inl p) (inl q) = inl (omega (arith, p.0, q.0), refl)
another_first named s s' f i j k order (inl p) (inr q) =
    inr (omega (arith, p.0, q.0), at_wider (starts named (Many s f)) (λ t e. e) (at_from p.0 q.1))
another_first named s s' f i j k order (inr p) q =
    inr (omega (arith, p.0, order), at_wider (starts named (Many s f)) (λ t e. e) p.1)

clause_first : {tokens : List Token} (named : Firsts) (n : ℕ) (a : Tree) (s : Slots) (i j k : ℕ) → j ≤ k
    → SpellsFirst named tokens (form_at n s) i j → SpellsFirst named tokens (AnyOrder (filled n a s)) j k
    → SpellsFirst named tokens (AnyOrder s) i k
clause_first named n a s i j k order (inl p) (inl q) = inl (omega (arith, p.0, q.0), refl)
clause_first named n a s i j k order (inl p) (inr q) =
    inr (
      omega (arith, p.0, q.0),
      at_wider (starts named (AnyOrder s)) (λ t e. sym (opens_filled named n a s t) ∙ e)
          (at_from p.0 q.1),
    )
clause_first named n a s i j k order (inr p) q =
    inr (omega (arith, p.0, order), at_wider (starts named (AnyOrder s)) (λ t e. opens_form named n s t e) p.1)

named_first : {tokens : List Token} {grammar : ℕ → Form} (named : Firsts) → Heads grammar named → (n i k : ℕ)
    → SpellsFirst named tokens (grammar n) i k → SpellsFirst named tokens (Named n) i k
named_first named heads n i k (inl p) = inl (p.0, heads.empty n p.1)
named_first named heads n i k (inr p) = inr (p.0, at_wider (starts named (Named n)) (heads.first n) p.1)

pub spells_first : {tokens : List Token} {grammar : ℕ → Form} (named : Firsts) → Heads grammar named
    → {f : Form} {i k : ℕ} {a : Tree} → Spells tokens grammar f i k a → SpellsFirst named tokens f i k
spells_first named heads S.no_marks = inl (refl, refl)
spells_first named heads (S.marks {test} {tests} here others) = let later =
    spells_order others in inr (omega (arith, later), at_wider (starts named (Marks (test ∷ tests))) (λ t e. e) here)
spells_first {tokens} named heads (S.keep {test} {i} {k} {token} e ok next) =
    inr (omega (arith, next), at_wider (starts named (Keep test)) (λ t h. h) (at_token tokens i test token e ok))
spells_first named heads (S.both {f} {g} {i} {j} {k} s r) =
    then_first named f g i j k (spells_order r) (spells_first named heads s) (spells_first named heads r)
spells_first named heads (S.first {f} {g} {i} {k} s) = or_first named f g i k (spells_first named heads s)
spells_first named heads (S.second {f} {g} {i} {k} s) = or_second named f g i k (spells_first named heads s)
spells_first named heads S.absent = inl (refl, refl)
spells_first named heads (S.present {f} {i} {k} s) = maybe_first named f i k (spells_first named heads s)
spells_first named heads (S.last {separator} {f} {s} {a} {i} {k} sp) =
    last_first named separator s f i k (spells_first named heads sp)
spells_first named heads (S.more {separator} {f} {s} {a} {b} {i} {j} {k} sp here r) =
    more_first named separator s f i j k (let later = spells_order r in omega (arith, later)) here
    (spells_first named heads sp)
spells_first named heads S.no_more = inl (refl, refl)
spells_first named heads (S.another {f} {s} {a} {b} {i} {j} {k} sp r) =
    another_first named s (After s a) f i j k (spells_order r) (spells_first named heads sp)
    (spells_first named heads r)
spells_first named heads (S.enough complete e) = inl (refl, refl)
spells_first named heads (S.clause {s} {i} {j} {k} {a} n still sp r) =
    clause_first named n a s i j k (spells_order r) (spells_first named heads sp) (spells_first named heads r)
spells_first named heads (S.named {n} {i} {k} s) = named_first named heads n i k (spells_first named heads s)

-- What is known of a beginning's first token: there is none, or it passes the test.
abbrev pub BeginsFirst : Firsts → List Token → Form → ℕ → ℕ → Type 0
BeginsFirst named tokens f i k = (k ≡ i) ⊎ At tokens i (starts named f)

begins_wider : {tokens : List Token} (named : Firsts) (f g : Form) (i k : ℕ)
    → ((t : Token) → starts named f t ≡ true → starts named g t ≡ true) → BeginsFirst named tokens f i k
    → BeginsFirst named tokens g i k
begins_wider named f g i k wide (inl p) = inl p
begins_wider named f g i k wide (inr p) = inr (at_wider (starts named g) wide p)

-- behind a first part that is spelt
rest_begins : {tokens : List Token} (named : Firsts) (f g h : Form) (i j k : ℕ)
    → ((t : Token) → starts named f t ≡ true → starts named h t ≡ true)
    → (skips named f ≡ true → (t : Token) → starts named g t ≡ true → starts named h t ≡ true)
    → SpellsFirst named tokens f i j → BeginsFirst named tokens g j k → BeginsFirst named tokens h i k
rest_begins named f g h i j k one two (inl p) (inl q) = inl (q ∙ p.0)
rest_begins named f g h i j k one two (inl p) (inr q) = inr (at_wider (starts named h) (two p.1) (at_from p.0 q))
rest_begins named f g h i j k one two (inr p) q = inr (at_wider (starts named h) one p.1)

separator_begins : {tokens : List Token} (named : Firsts) (separator : Token → Bool) (s : Tree) (f : Form) (i j k : ℕ)
    → At tokens j separator → SpellsFirst named tokens f i j → BeginsFirst named tokens (Listed separator s f) i k
separator_begins named separator s f i j k here (inl p) =
    inr (at_wider (starts named (Listed separator s f))
    (λ t e. past_right (skips named f) (starts named f t) (separator t) p.1 e) (at_from p.0 here))
separator_begins named separator s f i j k here (inr p) =
    inr (at_wider (starts named (Listed separator s f))
    (λ t e. past_left (skips named f) (starts named f t) (separator t) e) p.1)

pub begins_first : {tokens : List Token} {grammar : ℕ → Form} (named : Firsts) → Heads grammar named
    → {f : Form} {i k : ℕ} → Begins tokens grammar f i k → BeginsFirst named tokens f i k
begins_first named heads B.no_tokens = inl refl
begins_first named heads (B.token {test} here next) = inr (at_wider (starts named (Keep test)) (λ t e. e) here)
begins_first named heads (B.mark {test} {tests} here b) =
    inr (at_wider (starts named (Marks (test ∷ tests))) (λ t e. e) here)
begins_first named heads (B.front {f} {g} {i} {k} b) =
    begins_wider named f (Then f g) i k (λ t e. past_left (skips named f) (starts named f t) (starts named g t) e)
    (begins_first named heads b)
begins_first named heads (B.rest {f} {g} {i} {j} {k} s b) =
    rest_begins named f g (Then f g) i j k (λ t e. past_left (skips named f) (starts named f t) (starts named g t) e)
    (λ skip t e. past_right (skips named f) (starts named f t) (starts named g t) skip e) (spells_first named heads s)
    (begins_first named heads b)
begins_first named heads (B.first {f} {g} {i} {k} b) =
    begins_wider named f (Or f g) i k (λ t e. or_left (starts named f t) (starts named g t) e)
    (begins_first named heads b)
begins_first named heads (B.second {f} {g} {i} {k} b) =
    begins_wider named g (Or f g) i k (λ t e. or_right (starts named f t) (starts named g t) e)
    (begins_first named heads b)
begins_first named heads (B.present {f} {i} {k} b) =
    begins_wider named f (Maybe f) i k (λ t e. e) (begins_first named heads b)
begins_first named heads (B.item {separator} {f} {s} {i} {k} b) =
    begins_wider named f (Listed separator s f) i k
    (λ t e. past_left (skips named f) (starts named f t) (separator t) e) (begins_first named heads b)
begins_first named heads (B.more {separator} {f} {s} {a} {i} {j} {k} sp here b) =
    separator_begins named separator s f i j k here (spells_first named heads sp)
begins_first named heads (B.one {f} {s} {i} {k} b) =
    begins_wider named f (Many s f) i k (λ t e. e) (begins_first named heads b)
begins_first named heads (B.another {f} {s} {a} {i} {j} {k} sp b) =
    rest_begins named f (Many (After s a) f) (Many s f) i j k (λ t e. e) (λ skip t e. e) (spells_first named heads sp)
    (begins_first named heads b)
begins_first named heads (B.one_clause {s} {i} {k} n still b) =
    begins_wider named (form_at n s) (AnyOrder s) i k (λ t e. opens_form named n s t e) (begins_first named heads b)
begins_first named heads (B.clause {s} {i} {j} {k} {a} n still sp b) =
    rest_begins named (form_at n s) (AnyOrder (filled n a s)) (AnyOrder s) i j k (λ t e. opens_form named n s t e)
    (λ skip t e. sym (opens_filled named n a s t) ∙ e) (spells_first named heads sp) (begins_first named heads b)
begins_first {grammar = grammar} named heads (B.named {n} {i} {k} b) =
    begins_wider named (grammar n) (Named n) i k (heads.first n) (begins_first named heads b)

-- no token passes a test that fails
pub at_not : {A : Type 0} (tokens : List Token) (i : ℕ) (test : Token → Bool) → passes test (slice_get tokens i) ≡ false
    → At tokens i test → A
at_not tokens i test fails here = absurd (let p = here.passed in cc (fails, p))

-- a form that can't begin with the next token stops there
pub stops_here : {tokens : List Token} {grammar : ℕ → Form} (named : Firsts) → Heads grammar named
    → {on : Token → Bool} (f : Form) (i k : ℕ) → i ≤ k → skips named f ≡ false
    → passes (starts named f) (slice_get tokens i) ≡ false → Stops tokens grammar on f i k
stops_here {tokens} {grammar} named heads {on} f i k order full fails = record {
  order = order;
  unspelt = λ j a s. unspelt j (spells_first named heads s);
  furthest = λ j b. furthest j (begins_first named heads b);
}
  where
    unspelt : (j : ℕ) → SpellsFirst named tokens f i j → At tokens j on
    unspelt j (inl p) = absurd (cc (p.1, full))
    unspelt j (inr p) = at_not tokens i (starts named f) fails p.1

    furthest : (j : ℕ) → BeginsFirst named tokens f i j → j ≤ k
    furthest j (inl p) = omega (arith, p, order)
    furthest j (inr p) = at_not tokens i (starts named f) fails p

-- a form that isn't spelt by no tokens takes one
pub advances : {tokens : List Token} {grammar : ℕ → Form} (named : Firsts) → Heads grammar named
    → {f : Form} {i k : ℕ} {a : Tree} → skips named f ≡ false → Spells tokens grammar f i k a → i < k
advances {tokens} named heads {f} {i} {k} full s = go (spells_first named heads s)
  where
    go : SpellsFirst named tokens f i k → i < k
    go (inl p) = absurd (cc (p.1, full))
    go (inr p) = p.0

-- a form stops where the next token fails a test that its first tokens pass
pub stops_unless : {tokens : List Token} {grammar : ℕ → Form} (named : Firsts) → Heads grammar named
    → {on : Token → Bool} (p : Token → Bool) (f : Form) (i k : ℕ) → i ≤ k → skips named f ≡ false
    → ((t : Token) → starts named f t ≡ true → p t ≡ true) → passes p (slice_get tokens i) ≡ false
    → Stops tokens grammar on f i k
stops_unless {tokens} {grammar} named heads {on} p f i k order full implies fails =
    stops_here named heads f i k order full (go (slice_get tokens i) fails)
  where
    rule : (a b : Bool) → (a ≡ true → b ≡ true) → b ≡ false → a ≡ false
    rule true b both e = absurd (let h = both refl in cc (h, e))
    rule false b both e = refl

    go : (x : Option Token) → passes p x ≡ false → passes (starts named f) x ≡ false
    go None e = refl
    go (Some t) e = rule (starts named f t) (p t) (implies t) e
