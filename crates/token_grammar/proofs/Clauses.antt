-- Laws on clauses in any order.
use Rattle.std.specs.Result.{IsErrAnd}
use Rattle.std.proofs.Common.{◌≡◌, ◌≢◌, ℕ, zero, suc, ◌+◌, ◌≤◌, Bool, true, false, not, ◌&&◌, ◌||◌, List, ◌∷◌, Option}
use Rattle.std.proofs.Common.{None, Some, is_none, is_some, option_map, Result, Ok, Err, ◌⊎◌, inl, inr, refl, sym, ◌∙◌}
use Rattle.std.proofs.Common.{ap, subst, arith, slice_get}
use Rattle.token_grammar.specs.declared.token.Token.{Token}
use Rattle.token_grammar.specs.Form.{Form, Tree, Marks, Then, AnyOrder, Slots, Slot, NoSlots, form_at, is_open, filled}
use Rattle.token_grammar.specs.Form.{is_complete, slots_tree, option_tree, Present}
use Rattle.token_grammar.specs.Spelling as S
use Rattle.token_grammar.specs.Spelling.{At, passes, Spells}
use Rattle.token_grammar.specs.Beginning as B
use Rattle.token_grammar.specs.Beginning.{Begins}
pub use Rattle.token_grammar.specs.Turns.{AllStop, IsTaken, IsOver, TakesClause}
use Rattle.token_grammar.specs.declared.syntax_refusal.SyntaxRefusal.{SyntaxRefusal}
use Rattle.token_grammar.specs.declared.syntax_refusal.SyntaxRefusal.TheVariants.{Syntax}
use Rattle.token_grammar.specs.Outcome.{closed, Stops, IsFault, IsSpelt, Fails}
use Rattle.token_grammar.proofs.Places.{spells_from, begins_from}
use Rattle.token_grammar.proofs.Heads.{Firsts, skips, starts, Heads, stops_here, at_wider, advances}
use Rattle.token_grammar.proofs.Sequences.{not_closed, apart_closed, fault_front, spelt_order, stops_later, fails_by}
use Rattle.token_grammar.proofs.Sequences.{fails_at}
use Rattle.token_grammar.proofs.Tokens.{marks_fault, marks_rest_fault}
use Rattle.token_grammar.proofs.Parts.{at_within, spelt_as}
use Rattle.token_grammar.proofs.Turns.{Leads, spelt_led, fault_led}

-- each clause that may still come, but the one at n, stops at k
pub record OthersStop (tokens : List Token) (grammar : ℕ → Form) (n : ℕ) (s : Slots) (i k : ℕ) : Type 0 where
  pub others : (m : ℕ) → m ≢ n → is_open m s ≡ true → Stops tokens grammar closed (form_at m s) i k

pub same_place : (m n : ℕ) → (m ≡ n) ⊎ (m ≢ n)
same_place zero zero = inl refl
same_place zero (suc n) = inr (λ e. omega (arith, e))
same_place (suc m) zero = inr (λ e. omega (arith, e))
same_place (suc m) (suc n) = go (same_place m n)
  where
    go : (m ≡ n) ⊎ (m ≢ n) → (suc m ≡ suc n) ⊎ (suc m ≢ suc n)
    go (inl e) = inl (ap suc e)
    go (inr never) = inr (λ e. never (omega (arith, e)))

clause_at : {tokens : List Token} {grammar : ℕ → Form} (s : Slots) {m n i k : ℕ} {a : Tree} → m ≡ n
    → Spells tokens grammar (form_at m s) i k a → Spells tokens grammar (form_at n s) i k a
clause_at {tokens} {grammar} s {m} {n} {i} {k} {a} e t =
    subst (λ (x : ℕ). Spells tokens grammar (form_at x s) i k a) e t

clause_begins_at : {tokens : List Token} {grammar : ℕ → Form} (s : Slots) {m n i k : ℕ} → m ≡ n
    → Begins tokens grammar (form_at m s) i k → Begins tokens grammar (form_at n s) i k
clause_begins_at {tokens} {grammar} s {m} {n} {i} {k} e t =
    subst (λ (x : ℕ). Begins tokens grammar (form_at x s) i k) e t

filled_at : {tokens : List Token} {grammar : ℕ → Form} (s : Slots) {m n i k : ℕ} {a b c : Tree} → m ≡ n → a ≡ b
    → Spells tokens grammar (AnyOrder (filled m a s)) i k c → Spells tokens grammar (AnyOrder (filled n b s)) i k c
filled_at {tokens} {grammar} s {m} {n} {i} {k} {a} {b} {c} e q t =
    subst (λ (x : ℕ). Spells tokens grammar (AnyOrder (filled x b s)) i k c) e
    (subst (λ (x : Tree). Spells tokens grammar (AnyOrder (filled m x s)) i k c) q t)

filled_begins_at : {tokens : List Token} {grammar : ℕ → Form} (s : Slots) {m n i k : ℕ} {a b : Tree} → m ≡ n → a ≡ b
    → Begins tokens grammar (AnyOrder (filled m a s)) i k → Begins tokens grammar (AnyOrder (filled n b s)) i k
filled_begins_at {tokens} {grammar} s {m} {n} {i} {k} {a} {b} e q t =
    subst (λ (x : ℕ). Begins tokens grammar (AnyOrder (filled x b s)) i k) e
    (subst (λ (x : Tree). Begins tokens grammar (AnyOrder (filled m x s)) i k) q t)

-- The clause at n was read, and no other one comes there; `on` has the token with which it begins.
pub clause_leads : {tokens : List Token} {grammar : ℕ → Form} {on : Token → Bool} (n : ℕ) (s : Slots) {i j : ℕ}
    {a : Tree} → is_open n s ≡ true → At tokens i on → IsSpelt tokens grammar closed (form_at n s) i a j
    → OthersStop tokens grammar n s i j → Leads tokens grammar on (AnyOrder s) i (AnyOrder (filled n a s)) j
clause_leads {tokens} {grammar} {on} n s {i} {j} {a} still comes one rivals = record {
  order = spelt_order one;
  spells = λ k b t. S.clause n still one.spelt t;
  only = only;
  begins = λ k b. B.clause n still one.spelt b;
  furthest = furthest;
}
  where
    same : (k m p : ℕ) (x b : Tree) → m ≡ n → ((p ≡ j) × (x ≡ a)) ⊎ At tokens p closed
        → Spells tokens grammar (AnyOrder (filled m x s)) p k b → Spells tokens grammar (AnyOrder (filled n a s)) j k b
    same k m p x b e (inl q) r = spells_from q.0 (filled_at s e q.1 r)
    same k m p x b e (inr here) r = not_closed here

    goes : (k m p : ℕ) (x b : Tree) → (m ≡ n) ⊎ (m ≢ n) → is_open m s ≡ true → Spells tokens grammar (form_at m s) i p x
        → Spells tokens grammar (AnyOrder (filled m x s)) p k b → Spells tokens grammar (AnyOrder (filled n a s)) j k b
    goes k m p x b (inl e) open_m t r = same k m p x b e (one.only p x (clause_at s e t)) r
    goes k m p x b (inr never) open_m t r = not_closed ((rivals.others m never open_m).unspelt p x t)

    only : (k : ℕ) (b : Tree) → Spells tokens grammar (AnyOrder s) i k b
        → Spells tokens grammar (AnyOrder (filled n a s)) j k b ⊎ At tokens k on
    only k b (S.enough complete e) = inr comes
    only k b (S.clause {j = p} {a = x} m open_m t r) = inl (goes k m p x b (same_place m n) open_m t r)

    begun_same : (k m p : ℕ) (x : Tree) → m ≡ n → ((p ≡ j) × (x ≡ a)) ⊎ At tokens p closed
        → Begins tokens grammar (AnyOrder (filled m x s)) p k → Begins tokens grammar (AnyOrder (filled n a s)) j k
    begun_same k m p x e (inl q) r = begins_from q.0 (filled_begins_at s e q.1 r)
    begun_same k m p x e (inr here) r = not_closed here

    begun : (k m p : ℕ) (x : Tree) → (m ≡ n) ⊎ (m ≢ n) → is_open m s ≡ true → Spells tokens grammar (form_at m s) i p x
        → Begins tokens grammar (AnyOrder (filled m x s)) p k → Begins tokens grammar (AnyOrder (filled n a s)) j k
    begun k m p x (inl e) open_m t r = begun_same k m p x e (one.only p x (clause_at s e t)) r
    begun k m p x (inr never) open_m t r = not_closed ((rivals.others m never open_m).unspelt p x t)

    front : (k m : ℕ) → (m ≡ n) ⊎ (m ≢ n) → is_open m s ≡ true → Begins tokens grammar (form_at m s) i k → k ≤ j
    front k m (inl e) open_m b = one.furthest k (clause_begins_at s e b)
    front k m (inr never) open_m b = (rivals.others m never open_m).furthest k b

    furthest : (k : ℕ) → Begins tokens grammar (AnyOrder s) i k → (k ≤ j)
        ⊎ Begins tokens grammar (AnyOrder (filled n a s)) j k
    furthest k B.no_tokens = inl (spelt_order one)
    furthest k (B.one_clause m open_m b) = inl (front k m (same_place m n) open_m b)
    furthest k (B.clause {j = p} {a = x} m open_m t b) = inr (begun k m p x (same_place m n) open_m t b)

-- The clause at n has its fault, and no other one goes further.
pub clause_fault : {tokens : List Token} {grammar : ℕ → Form} {on : Token → Bool} (n : ℕ) (s : Slots) {i k : ℕ}
    → is_open n s ≡ true → At tokens i on → IsFault tokens grammar closed (form_at n s) i k
    → OthersStop tokens grammar n s i k → IsFault tokens grammar on (AnyOrder s) i k
clause_fault {tokens} {grammar} {on} n s {i} {k} still comes one rivals =
    record {
      begun = B.one_clause n still one.begun;
      stops =
          record { order = one.stops.order; unspelt = unspelt; furthest = furthest };
    }
  where
    gone : {A : Type 0} (m p : ℕ) (x : Tree) → (m ≡ n) ⊎ (m ≢ n) → is_open m s ≡ true
        → Spells tokens grammar (form_at m s) i p x → A
    gone m p x (inl e) open_m t = not_closed (one.stops.unspelt p x (clause_at s e t))
    gone m p x (inr never) open_m t = not_closed ((rivals.others m never open_m).unspelt p x t)

    unspelt : (m : ℕ) (b : Tree) → Spells tokens grammar (AnyOrder s) i m b → At tokens m on
    unspelt m b (S.enough complete e) = comes
    unspelt m b (S.clause {j = p} {a = x} c open_c t r) = gone c p x (same_place c n) open_c t

    front : (m c : ℕ) → (c ≡ n) ⊎ (c ≢ n) → is_open c s ≡ true → Begins tokens grammar (form_at c s) i m → m ≤ k
    front m c (inl e) open_c b = one.stops.furthest m (clause_begins_at s e b)
    front m c (inr never) open_c b = (rivals.others c never open_c).furthest m b

    furthest : (m : ℕ) → Begins tokens grammar (AnyOrder s) i m → m ≤ k
    furthest m B.no_tokens = one.stops.order
    furthest m (B.one_clause c open_c b) = front m c (same_place c n) open_c b
    furthest m (B.clause {j = p} {a = x} c open_c t b) = gone c p x (same_place c n) open_c t

-- No further clause comes, and all needed ones came.
pub clauses_end : {tokens : List Token} {grammar : ℕ → Form} {on : Token → Bool} (s : Slots) {i : ℕ}
    → is_complete s ≡ true → AllStop tokens grammar s i i → IsSpelt tokens grammar on (AnyOrder s) i (slots_tree s) i
clauses_end {tokens} {grammar} {on} s {i} complete none =
    record { spelt = S.enough complete refl; only = only; furthest = furthest }
  where
    only : (k : ℕ) (b : Tree) → Spells tokens grammar (AnyOrder s) i k b → ((k ≡ i) × (b ≡ slots_tree s))
        ⊎ At tokens k on
    only k b (S.enough all e) = inl (refl, e)
    only k b (S.clause {j = p} {a = x} m open_m t r) = not_closed ((none.each m open_m).unspelt p x t)

    furthest : (k : ℕ) → Begins tokens grammar (AnyOrder s) i k → k ≤ i
    furthest k B.no_tokens = omega arith
    furthest k (B.one_clause m open_m b) = (none.each m open_m).furthest k b
    furthest k (B.clause {j = p} {a = x} m open_m t b) = not_closed ((none.each m open_m).unspelt p x t)

-- No further clause comes, and a needed one is missing.
pub clauses_short : {tokens : List Token} {grammar : ℕ → Form} {on : Token → Bool} (s : Slots) {i : ℕ}
    → is_complete s ≡ false → AllStop tokens grammar s i i → IsFault tokens grammar on (AnyOrder s) i i
clauses_short {tokens} {grammar} {on} s {i} missing none =
    record { begun = B.no_tokens; stops = record { order = omega arith; unspelt = unspelt; furthest = furthest } }
  where
    unspelt : (k : ℕ) (b : Tree) → Spells tokens grammar (AnyOrder s) i k b → At tokens k on
    unspelt k b (S.enough all e) = absurd (cc (all, missing))
    unspelt k b (S.clause {j = p} {a = x} m open_m t r) = not_closed ((none.each m open_m).unspelt p x t)

    furthest : (k : ℕ) → Begins tokens grammar (AnyOrder s) i k → k ≤ i
    furthest k B.no_tokens = omega arith
    furthest k (B.one_clause m open_m b) = (none.each m open_m).furthest k b
    furthest k (B.clause {j = p} {a = x} m open_m t b) = not_closed ((none.each m open_m).unspelt p x t)

-- how `AllStop` and `OthersStop` are shown, slot by slot
pub no_slots_stop : {tokens : List Token} {grammar : ℕ → Form} {i k : ℕ} → AllStop tokens grammar NoSlots i k
no_slots_stop = record { each = λ m e. absurd (cc e) }

pub slot_stops : {tokens : List Token} {grammar : ℕ → Form} {needed : Bool} {f : Form} {came : Option Tree} {s : Slots}
    {i k : ℕ} → (is_none came ≡ true → Stops tokens grammar closed f i k) → AllStop tokens grammar s i k
    → AllStop tokens grammar (Slot needed f came s) i k
slot_stops {tokens} {grammar} {needed} {f} {came} {s} {i} {k} here later = record { each = each }
  where
    each : (m : ℕ) → is_open m (Slot needed f came s) ≡ true
        → Stops tokens grammar closed (form_at m (Slot needed f came s)) i k
    each zero e = here e
    each (suc m) e = later.each m e

pub others_here : {tokens : List Token} {grammar : ℕ → Form} {needed : Bool} {f : Form} {came : Option Tree} {s : Slots}
    {i k : ℕ} → AllStop tokens grammar s i k → OthersStop tokens grammar zero (Slot needed f came s) i k
others_here {tokens} {grammar} {needed} {f} {came} {s} {i} {k} later = record { others = others }
  where
    others : (m : ℕ) → m ≢ zero → is_open m (Slot needed f came s) ≡ true
        → Stops tokens grammar closed (form_at m (Slot needed f came s)) i k
    others zero never e = absurd (never refl)
    others (suc m) never e = later.each m e

pub others_past : {tokens : List Token} {grammar : ℕ → Form} {n : ℕ} {needed : Bool} {f : Form} {came : Option Tree}
    {s : Slots} {i k : ℕ} → (is_none came ≡ true → Stops tokens grammar closed f i k)
    → OthersStop tokens grammar n s i k → OthersStop tokens grammar (suc n) (Slot needed f came s) i k
others_past {tokens} {grammar} {n} {needed} {f} {came} {s} {i} {k} here later = record { others = others }
  where
    others : (m : ℕ) → m ≢ suc n → is_open m (Slot needed f came s) ≡ true
        → Stops tokens grammar closed (form_at m (Slot needed f came s)) i k
    others zero never e = here e
    others (suc m) never e = later.others m (λ same. never (ap suc same)) e

-- whether a clause may begin with a token, or be spelt by no tokens
abbrev pub opens_any : Firsts → Slots → Token → Bool
opens_any named NoSlots t = false
opens_any named (Slot needed f came s) t = (starts named f t || skips named f) || opens_any named s t

-- the same of the clauses but the one at n
abbrev pub opens_but : Firsts → ℕ → Slots → Token → Bool
opens_but named n NoSlots t = false
opens_but named zero (Slot needed f came s) t = opens_any named s t
opens_but named (suc n) (Slot needed f came s) t = (starts named f t || skips named f) || opens_but named n s t

or_false_left : (a b : Bool) → (a || b) ≡ false → a ≡ false
or_false_left true b e = e
or_false_left false b e = refl

or_false_right : (a b : Bool) → (a || b) ≡ false → b ≡ false
or_false_right true b e = absurd (cc e)
or_false_right false b e = e

-- a token that passes p is one with which f can't begin
pub stops_by : {tokens : List Token} {grammar : ℕ → Form} (named : Firsts) → Heads grammar named
    → {p on : Token → Bool} (f : Form) {i k : ℕ} → i ≤ k → At tokens i p
    → ((t : Token) → p t ≡ true → (starts named f t || skips named f) ≡ false) → Stops tokens grammar on f i k
stops_by {tokens} {grammar} named heads {p} {on} f {i} {k} order here never = go (slice_get tokens i) refl here.passed
  where
    go : (x : Option Token) → slice_get tokens i ≡ x → passes p x ≡ true → Stops tokens grammar on f i k
    go None e pass = absurd (cc pass)
    go (Some t) e pass = stops_here named heads f i k order
        (or_false_right (starts named f t) (skips named f) (never t pass)) (ap (passes (starts named f)) e
        ∙ or_false_left (starts named f t) (skips named f) (never t pass))

pub all_stop_by : {tokens : List Token} {grammar : ℕ → Form} (named : Firsts) → Heads grammar named
    → {p : Token → Bool} (s : Slots) {i k : ℕ} → i ≤ k → At tokens i p
    → ((t : Token) → p t ≡ true → opens_any named s t ≡ false) → AllStop tokens grammar s i k
all_stop_by named heads NoSlots order here never = no_slots_stop
all_stop_by named heads {p} (Slot needed f came s) order here never =
    slot_stops (λ e. stops_by named heads f order here
    (λ t pass. or_false_left (starts named f t || skips named f) (opens_any named s t) (never t pass)))
    (all_stop_by named heads s order here
    (λ t pass. or_false_right (starts named f t || skips named f) (opens_any named s t) (never t pass)))

-- a token that passes p is one with which no other clause than the one at n can begin
pub others_stop_by : {tokens : List Token} {grammar : ℕ → Form} (named : Firsts) → Heads grammar named
    → {p : Token → Bool} (n : ℕ) (s : Slots) {i k : ℕ} → i ≤ k → At tokens i p
    → ((t : Token) → p t ≡ true → opens_but named n s t ≡ false) → OthersStop tokens grammar n s i k
others_stop_by named heads n NoSlots order here never = record { others = λ m other e. absurd (cc e) }
others_stop_by named heads zero (Slot needed f came s) order here never =
    others_here (all_stop_by named heads s order here never)
others_stop_by named heads (suc n) (Slot needed f came s) order here never =
    others_past (λ e. stops_by named heads f order here
    (λ t pass. or_false_left (starts named f t || skips named f) (opens_but named n s t) (never t pass)))
    (others_stop_by named heads n s order here
    (λ t pass. or_false_right (starts named f t || skips named f) (opens_but named n s t) (never t pass)))

-- The clause at n comes, which p tells from the others, and was read.
pub clause_taken : {tokens : List Token} {grammar : ℕ → Form} (named : Firsts) → Heads grammar named
    → (on : Token → Bool) {p : Token → Bool} (n : ℕ) (s : Slots) {i j : ℕ} {a : Tree}
    → skips named (form_at n s) ≡ false → ((t : Token) → p t ≡ true → on t ≡ true)
    → ((t : Token) → p t ≡ true → opens_but named n s t ≡ false) → is_open n s ≡ true
    → passes p (slice_get tokens i) ≡ true → IsSpelt tokens grammar closed (form_at n s) i a j
    → IsTaken tokens grammar on s (filled n a s) i j
clause_taken {tokens} named heads on {p} n s {i} {j} full wide away still comes one = record {
  leads = clause_leads n s still (at_wider on wide (record { passed = comes })) one
      (others_stop_by named heads n s (spelt_order one) (record { passed = comes }) away);
  forward = advances named heads full one.spelt;
  within = at_within tokens i p comes;
}

pub fails_clause : {tokens : List Token} {grammar : ℕ → Form} (named : Firsts) → Heads grammar named
    → (on : Token → Bool) {p : Token → Bool} (n : ℕ) (s : Slots) {i : ℕ} {e : SyntaxRefusal}
    → ((t : Token) → p t ≡ true → on t ≡ true) → ((t : Token) → p t ≡ true → opens_but named n s t ≡ false)
    → is_open n s ≡ true → passes p (slice_get tokens i) ≡ true → Fails tokens grammar closed (form_at n s) i e
    → Fails tokens grammar on (AnyOrder s) i e
fails_clause named heads on n s wide away still comes r =
    fails_by (λ k one. clause_fault n s still (at_wider on wide (record { passed = comes })) one
    (others_stop_by named heads n s one.stops.order (record { passed = comes }) away)) r

-- what the answers of `is_none` say of a clause that may come
pub came_not : {X : Type 0} (view : X → Tree) (o : Option X) (b comes : Bool) → is_some o ≡ not b → (b && comes) ≡ true
    → is_none (option_map view o) ≡ true
came_not view None true comes e h = refl
came_not view None false comes e h = refl
came_not view (Some x) true comes e h = absurd (cc e)
came_not view (Some x) false comes e h = absurd (cc h)

pub comes_here : (b comes : Bool) → (b && comes) ≡ true → comes ≡ true
comes_here true comes h = h
comes_here false comes h = absurd (cc h)

pub comes_not : {X : Type 0} (view : X → Tree) (o : Option X) (b comes : Bool) → is_some o ≡ not b
    → (b && comes) ≡ false → is_none (option_map view o) ≡ true → comes ≡ false
comes_not view None true comes e h open_now = h
comes_not view None false comes e h open_now = absurd (cc e)
comes_not view (Some x) b comes e h open_now = absurd (cc open_now)

-- what the answer of a reader of one clause says at the exit of a `?`
pub exit_clause : {tokens : List Token} {grammar : ℕ → Form} {on : Token → Bool} {before : Slots} {i : ℕ}
    {e : SyntaxRefusal} (after : Slots) (r : Result (Option ℕ) SyntaxRefusal) → IsErrAnd r (λ d. d ≡ e)
    → Fails tokens grammar on (AnyOrder before) i e → TakesClause tokens grammar on before after i r
exit_clause after (Ok None) is fails = absurd is
exit_clause after (Ok (Some k)) is fails = absurd is
exit_clause {tokens} {grammar} {on} {before} {i} {e} after (Err d) is fails =
    subst (λ (x : SyntaxRefusal). Fails tokens grammar on (AnyOrder before) i x) (sym is) fails

-- what the reader of one clause answered where it found none
pub over : {tokens : List Token} {grammar : ℕ → Form} (on : Token → Bool) (before after : Slots) (i : ℕ) (o : Option ℕ)
    → o ≡ None → TakesClause tokens grammar on before after i (Ok o) → IsOver tokens grammar before after i
over on before after i None e taken = taken
over on before after i (Some k) e taken = absurd (cc e)

-- All clauses were read, or a needed one is missing.
pub clauses_done : {tokens : List Token} {grammar : ℕ → Form} {on : Token → Bool} {whole : Form} (before after : Slots)
    {i k : ℕ} {a : Tree} → Leads tokens grammar on whole i (AnyOrder before) k → IsOver tokens grammar before after k
    → is_complete after ≡ true → a ≡ slots_tree after → IsSpelt tokens grammar on whole i a k
clauses_done before after led none complete tree =
    spelt_as (tree ∙ ap slots_tree none.same)
    (spelt_led led (clauses_end before (sym (ap is_complete none.same) ∙ complete) none.none))

pub clauses_missing : {tokens : List Token} {grammar : ℕ → Form} {on : Token → Bool} {whole : Form}
    (before after : Slots) {i k : ℕ} → Leads tokens grammar on whole i (AnyOrder before) k
    → IsOver tokens grammar before after k → is_complete after ≡ false → Fails tokens grammar on whole i (Syntax k)
clauses_missing before after led none missing =
    fails_at (fault_led led (clauses_short before (sym (ap is_complete none.same) ∙ missing) none.none))

pub fails_led : {tokens : List Token} {grammar : ℕ → Form} {on : Token → Bool} {whole left : Form} {i j : ℕ}
    {e : SyntaxRefusal} → Leads tokens grammar on whole i left j → Fails tokens grammar on left j e
    → Fails tokens grammar on whole i e
fails_led led r = fails_by (λ k one. fault_led led one) r

-- a needed clause that came, or didn't
pub needed_some : {X : Type 0} (view : X → Tree) (o : Option X) (x : X) (others : Bool) → o ≡ Some x → others ≡ true
    → (is_some (option_map view o) && others) ≡ true
needed_some view None x others e h = absurd (cc e)
needed_some view (Some y) x others e h = h

pub needed_none : {X : Type 0} (view : X → Tree) (o : Option X) (others : Bool) → o ≡ None
    → (is_some (option_map view o) && others) ≡ false
needed_none view None others e = refl
needed_none view (Some y) others e = absurd (cc e)

pub came_tree : {X : Type 0} (view : X → Tree) (o : Option X) (x : X) → o ≡ Some x
    → Present (view x) ≡ option_tree (option_map view o)
came_tree view o x e = sym (ap (λ y. option_tree (option_map view y)) e)

-- A clause whose second word isn't there stops at it.
pub second_word_stops : {tokens : List Token} {grammar : ℕ → Form} {p q : Token → Bool} {tests : List (Token → Bool)}
    {g : Form} {i k : ℕ} → passes p (slice_get tokens i) ≡ true → passes q (slice_get tokens (i + 1)) ≡ false
    → i + 1 ≤ k → Stops tokens grammar closed (Then (Marks (p ∷ q ∷ tests)) g) i k
second_word_stops here fails order =
    stops_later order (fault_front apart_closed (marks_rest_fault (record { passed = here }) (marks_fault fails))).stops

-- A clause whose first word is there goes past it.
pub first_word_begins : {tokens : List Token} {grammar : ℕ → Form} {p : Token → Bool} {tests : List (Token → Bool)}
    {g : Form} {i : ℕ} → passes p (slice_get tokens i) ≡ true
    → Begins tokens grammar (Then (Marks (p ∷ tests)) g) i (i + 1)
first_word_begins here = B.front (B.mark (record { passed = here }) B.no_tokens)

-- The clause at n comes, and what is known of the others is shown apart.
pub clause_taken_with : {tokens : List Token} {grammar : ℕ → Form} (named : Firsts) → Heads grammar named
    → (on : Token → Bool) {p : Token → Bool} (n : ℕ) (s : Slots) {i j : ℕ} {a : Tree}
    → skips named (form_at n s) ≡ false → ((t : Token) → p t ≡ true → on t ≡ true) → is_open n s ≡ true
    → passes p (slice_get tokens i) ≡ true
    → ((k : ℕ) → ((m : ℕ) → Begins tokens grammar (form_at n s) i m → m ≤ k) → OthersStop tokens grammar n s i k)
    → IsSpelt tokens grammar closed (form_at n s) i a j → IsTaken tokens grammar on s (filled n a s) i j
clause_taken_with {tokens} named heads on {p} n s {i} {j} full wide still comes away one = record {
  leads = clause_leads n s still (at_wider on wide (record { passed = comes })) one (away j one.furthest);
  forward = advances named heads full one.spelt;
  within = at_within tokens i p comes;
}

pub fails_clause_with : {tokens : List Token} {grammar : ℕ → Form} (on : Token → Bool) {p : Token → Bool} (n : ℕ)
    (s : Slots) {i : ℕ} {e : SyntaxRefusal} → ((t : Token) → p t ≡ true → on t ≡ true) → is_open n s ≡ true
    → passes p (slice_get tokens i) ≡ true
    → ((k : ℕ) → ((m : ℕ) → Begins tokens grammar (form_at n s) i m → m ≤ k) → OthersStop tokens grammar n s i k)
    → Fails tokens grammar closed (form_at n s) i e → Fails tokens grammar on (AnyOrder s) i e
fails_clause_with on n s wide still comes away r =
    fails_by (λ k one. clause_fault n s still (at_wider on wide (record { passed = comes })) one
    (away k one.stops.furthest)) r

-- what three tests in a row say
pub both_first : (a b : Bool) → (a && not b) ≡ true → a ≡ true
both_first true b e = refl
both_first false b e = absurd (cc e)

pub both_second : (a b : Bool) → (a && not b) ≡ true → b ≡ false
both_second true true e = absurd (cc e)
both_second true false e = refl
both_second false b e = absurd (cc e)

-- where the information clause doesn't come, though its first word is there and it may come: the reply
-- clause comes
pub both_not : (a b : Bool) → (a && not b) ≡ false → a ≡ true → b ≡ true
both_not true true e h = refl
both_not true false e h = absurd (cc e)
both_not false b e h = absurd (cc h)

-- a clause that may come, and doesn't
pub pair_not : {X : Type 0} (view : X → Tree) (o : Option X) (b p q : Bool) → is_some o ≡ not b
    → (b && (p && q)) ≡ false → is_none (option_map view o) ≡ true → p ≡ true → q ≡ false
pair_not view None true true q e h open_now f = h
pair_not view None true false q e h open_now f = absurd (cc f)
pair_not view None false p q e h open_now f = absurd (cc e)
pair_not view (Some x) b p q e h open_now f = absurd (cc open_now)

pub pair_comes : (b p q : Bool) → (b && (p && q)) ≡ true → q ≡ true
pair_comes true true q e = e
pair_comes true false q e = absurd (cc e)
pair_comes false p q e = absurd (cc e)

pub open_and : {X : Type 0} (view : X → Tree) (o : Option X) (b : Bool) → is_some o ≡ not b
    → is_none (option_map view o) ≡ true → b ≡ true
open_and view None true e open_now = refl
open_and view None false e open_now = absurd (cc e)
open_and view (Some x) b e open_now = absurd (cc open_now)
