-- Laws on clauses in any order that are no clause's end by themselves: a clause may go on with a token with
-- which no clause begins.
use Rattle.std.proofs.Common.{◌≡◌, ◌≢◌, ℕ, zero, suc, ◌≤◌, Bool, true, false, not, ◌||◌, ◌&&◌, List, Option, Some}
use Rattle.std.proofs.Common.{is_none, is_some, option_map, Result, Ok, Err, ◌⊎◌, inl, inr, refl, sym, ◌∙◌, ap, subst}
use Rattle.std.proofs.Common.{arith, slice_get}
use Rattle.token_grammar.specs.declared.token.Token.{Token}
use Rattle.token_grammar.specs.declared.syntax_refusal.SyntaxRefusal.{SyntaxRefusal}
use Rattle.token_grammar.specs.Form.{Form, Tree, AnyOrder, Slots, Slot, NoSlots, form_at, is_open, filled}
use Rattle.token_grammar.specs.Spelling as S
use Rattle.token_grammar.specs.Spelling.{At, passes, Spells}
use Rattle.token_grammar.specs.Beginning as B
use Rattle.token_grammar.specs.Beginning.{Begins}
use Rattle.token_grammar.specs.Turns.{Leads, IsTaken, TakesClause, KeepsClause}
use Rattle.token_grammar.specs.Outcome.{closed, IsFault, IsSpelt, Fails, Reads}
use Rattle.token_grammar.proofs.Places.{spells_begins, spells_from, begins_from}
use Rattle.token_grammar.proofs.Heads.{Firsts, Heads, skips, starts, opens, advances, at_wider}
use Rattle.token_grammar.proofs.Sequences.{not_closed, spelt_order, spelt_wider, fails_by, fails_wider}
use Rattle.token_grammar.proofs.Parts.{at_within}
use Rattle.token_grammar.proofs.Clauses.{OthersStop, same_place, others_stop_by, opens_but, came_not, comes_here}
use Rattle.token_grammar.proofs.ByWord.{clause_kept}
use Rattle.token_grammar.proofs.OpenParts.{Meets, meets_by}

opens_filled : (named : Firsts) (n : ℕ) (a : Tree) (s : Slots) (t : Token)
    → opens named (filled n a s) t ≡ opens named s t
opens_filled named n a NoSlots t = refl
opens_filled named zero a (Slot needed f came s) t = refl
opens_filled named (suc n) a (Slot needed f came s) t =
    ap (λ (x : Bool). starts named f t || x) (opens_filled named n a s t)

clause_at : {tokens : List Token} {grammar : ℕ → Form} (s : Slots) {m n i k : ℕ} {a : Tree} → m ≡ n
    → Spells tokens grammar (form_at m s) i k a → Spells tokens grammar (form_at n s) i k a
clause_at {tokens} {grammar} s {m} {n} {i} {k} {a} e t =
    subst (λ (x : ℕ). Spells tokens grammar (form_at x s) i k a) e t

clause_begins_at : {tokens : List Token} {grammar : ℕ → Form} (s : Slots) {m n i k : ℕ} → m ≡ n
    → Begins tokens grammar (form_at m s) i k → Begins tokens grammar (form_at n s) i k
clause_begins_at {tokens} {grammar} s {m} {n} {i} {k} e t =
    subst (λ (x : ℕ). Begins tokens grammar (form_at x s) i k) e t

filled_at : {tokens : List Token} {grammar : ℕ → Form} (s : Slots) {m n i k : ℕ} {a b c : Tree} → m ≡ n → a ≡ b
    → Spells tokens grammar (AnyOrder (filled m a s)) i k c → Spells tokens grammar (AnyOrder (filled n b s)) i k c
filled_at {tokens} {grammar} s {m} {n} {i} {k} {a} {b} {c} e q t =
    subst (λ (x : ℕ). Spells tokens grammar (AnyOrder (filled x b s)) i k c) e
    (subst (λ (x : Tree). Spells tokens grammar (AnyOrder (filled m x s)) i k c) q t)

filled_begins_at : {tokens : List Token} {grammar : ℕ → Form} (s : Slots) {m n i k : ℕ} {a b : Tree} → m ≡ n → a ≡ b
    → Begins tokens grammar (AnyOrder (filled m a s)) i k → Begins tokens grammar (AnyOrder (filled n b s)) i k
filled_begins_at {tokens} {grammar} s {m} {n} {i} {k} {a} {b} e q t =
    subst (λ (x : ℕ). Begins tokens grammar (AnyOrder (filled x b s)) i k) e
    (subst (λ (x : Tree). Begins tokens grammar (AnyOrder (filled m x s)) i k) q t)

-- behind each clause the others are not begun by a token of `part`
pub record AllMeet (tokens : List Token) (grammar : ℕ → Form) (part on : Token → Bool) (s : Slots) : Type 0 where
  pub all : (m : ℕ) (x : Tree) → Meets tokens grammar part on (AnyOrder (filled m x s))

pub all_meet_by : {tokens : List Token} {grammar : ℕ → Form} (named : Firsts) → Heads grammar named
    → {part on : Token → Bool} (s : Slots) → ((t : Token) → part t ≡ true → on t ≡ true)
    → ((t : Token) → part t ≡ true → opens named s t ≡ false) → AllMeet tokens grammar part on s
all_meet_by named heads s wide never =
    record {
      all = λ m x. meets_by named heads (AnyOrder (filled m x s)) wide (λ t e. opens_filled named m x s t
          ∙ never t e);
    }

-- The clause at n was read, and no other one comes there.
pub open_clause_leads : {tokens : List Token} {grammar : ℕ → Form} {part on : Token → Bool} (n : ℕ) (s : Slots)
    {i j : ℕ} {a : Tree} → is_open n s ≡ true → At tokens i on → AllMeet tokens grammar part on s
    → IsSpelt tokens grammar part (form_at n s) i a j → OthersStop tokens grammar n s i j
    → Leads tokens grammar on (AnyOrder s) i (AnyOrder (filled n a s)) j
open_clause_leads {tokens} {grammar} {part} {on} n s {i} {j} {a} still comes away one rivals = record {
  order = spelt_order one;
  spells = λ k b t. S.clause n still one.spelt t;
  only = only;
  begins = λ k b. B.clause n still one.spelt b;
  furthest = furthest;
}
  where
    same : (k m p : ℕ) (x b : Tree) → m ≡ n → ((p ≡ j) × (x ≡ a)) ⊎ At tokens p part
        → Spells tokens grammar (AnyOrder (filled m x s)) p k b → Spells tokens grammar (AnyOrder (filled n a s)) j k b
        ⊎ At tokens k on
    same k m p x b e (inl q) r = inl (spells_from q.0 (filled_at s e q.1 r))
    same k m p x b e (inr here) r = inr (((away.all m x).meets p here).unspelt k b r)

    goes : (k m p : ℕ) (x b : Tree) → (m ≡ n) ⊎ (m ≢ n) → is_open m s ≡ true → Spells tokens grammar (form_at m s) i p x
        → Spells tokens grammar (AnyOrder (filled m x s)) p k b → Spells tokens grammar (AnyOrder (filled n a s)) j k b
        ⊎ At tokens k on
    goes k m p x b (inl e) open_m t r = same k m p x b e (one.only p x (clause_at s e t)) r
    goes k m p x b (inr never) open_m t r = not_closed ((rivals.others m never open_m).unspelt p x t)

    only : (k : ℕ) (b : Tree) → Spells tokens grammar (AnyOrder s) i k b
        → Spells tokens grammar (AnyOrder (filled n a s)) j k b ⊎ At tokens k on
    only k b (S.enough complete e) = inr comes
    only k b (S.clause {j = p} {a = x} m open_m t r) = goes k m p x b (same_place m n) open_m t r

    begun_same : (k m p : ℕ) (x : Tree) → m ≡ n → p ≤ j → ((p ≡ j) × (x ≡ a)) ⊎ At tokens p part
        → Begins tokens grammar (AnyOrder (filled m x s)) p k → (k ≤ j)
        ⊎ Begins tokens grammar (AnyOrder (filled n a s)) j k
    begun_same k m p x e order (inl q) r = inr (begins_from q.0 (filled_begins_at s e q.1 r))
    begun_same k m p x e order (inr here) r = inl (let most = ((away.all m x).meets p here).furthest k r in omega arith)

    begun : (k m p : ℕ) (x : Tree) → (m ≡ n) ⊎ (m ≢ n) → is_open m s ≡ true → Spells tokens grammar (form_at m s) i p x
        → Begins tokens grammar (AnyOrder (filled m x s)) p k → (k ≤ j)
        ⊎ Begins tokens grammar (AnyOrder (filled n a s)) j k
    begun k m p x (inl e) open_m t r =
        begun_same k m p x e (one.furthest p (spells_begins (clause_at s e t))) (one.only p x (clause_at s e t)) r
    begun k m p x (inr never) open_m t r = not_closed ((rivals.others m never open_m).unspelt p x t)

    front : (k m : ℕ) → (m ≡ n) ⊎ (m ≢ n) → is_open m s ≡ true → Begins tokens grammar (form_at m s) i k → k ≤ j
    front k m (inl e) open_m b = one.furthest k (clause_begins_at s e b)
    front k m (inr never) open_m b = (rivals.others m never open_m).furthest k b

    furthest : (k : ℕ) → Begins tokens grammar (AnyOrder s) i k → (k ≤ j)
        ⊎ Begins tokens grammar (AnyOrder (filled n a s)) j k
    furthest k B.no_tokens = inl (spelt_order one)
    furthest k (B.one_clause m open_m b) = inl (front k m (same_place m n) open_m b)
    furthest k (B.clause {j = p} {a = x} m open_m t b) = begun k m p x (same_place m n) open_m t b

-- The clause at n has its fault, and no other one goes further.
pub open_clause_fault : {tokens : List Token} {grammar : ℕ → Form} {part on : Token → Bool} (n : ℕ) (s : Slots)
    {i k : ℕ} → is_open n s ≡ true → At tokens i on → AllMeet tokens grammar part on s
    → IsFault tokens grammar part (form_at n s) i k → OthersStop tokens grammar n s i k
    → IsFault tokens grammar on (AnyOrder s) i k
open_clause_fault {tokens} {grammar} {part} {on} n s {i} {k} still comes away one rivals =
    record {
      begun = B.one_clause n still one.begun;
      stops =
          record { order = one.stops.order; unspelt = unspelt; furthest = furthest };
    }
  where
    short : (m c p : ℕ) (x b : Tree) → (c ≡ n) ⊎ (c ≢ n) → is_open c s ≡ true
        → Spells tokens grammar (form_at c s) i p x → Spells tokens grammar (AnyOrder (filled c x s)) p m b
        → At tokens m on
    short m c p x b (inl e) open_c t r =
        ((away.all c x).meets p (one.stops.unspelt p x (clause_at s e t))).unspelt m b r
    short m c p x b (inr never) open_c t r = not_closed ((rivals.others c never open_c).unspelt p x t)

    unspelt : (m : ℕ) (b : Tree) → Spells tokens grammar (AnyOrder s) i m b → At tokens m on
    unspelt m b (S.enough complete e) = comes
    unspelt m b (S.clause {j = p} {a = x} {b = y} c open_c t r) = short m c p x y (same_place c n) open_c t r

    front : (m c : ℕ) → (c ≡ n) ⊎ (c ≢ n) → is_open c s ≡ true → Begins tokens grammar (form_at c s) i m → m ≤ k
    front m c (inl e) open_c b = one.stops.furthest m (clause_begins_at s e b)
    front m c (inr never) open_c b = (rivals.others c never open_c).furthest m b

    ends : (m c p : ℕ) (x : Tree) → (c ≡ n) ⊎ (c ≢ n) → is_open c s ≡ true → Spells tokens grammar (form_at c s) i p x
        → Begins tokens grammar (AnyOrder (filled c x s)) p m → m ≤ k
    ends m c p x (inl e) open_c t b = let most =
        ((away.all c x).meets p (one.stops.unspelt p x (clause_at s e t))).furthest m b in let first =
        one.stops.furthest p (spells_begins (clause_at s e t)) in omega arith
    ends m c p x (inr never) open_c t b = not_closed ((rivals.others c never open_c).unspelt p x t)

    furthest : (m : ℕ) → Begins tokens grammar (AnyOrder s) i m → m ≤ k
    furthest m B.no_tokens = one.stops.order
    furthest m (B.one_clause c open_c b) = front m c (same_place c n) open_c b
    furthest m (B.clause {j = p} {a = x} c open_c t b) = ends m c p x (same_place c n) open_c t b

-- The clause at n comes, which p tells from the others, and was read.
pub open_clause_taken : {tokens : List Token} {grammar : ℕ → Form} (named : Firsts) → Heads grammar named
    → {part : Token → Bool} (on : Token → Bool) {p : Token → Bool} (n : ℕ) (s : Slots) {i j : ℕ} {a : Tree}
    → AllMeet tokens grammar part on s → skips named (form_at n s) ≡ false → ((t : Token) → p t ≡ true → on t ≡ true)
    → ((t : Token) → p t ≡ true → opens_but named n s t ≡ false) → is_open n s ≡ true
    → passes p (slice_get tokens i) ≡ true → IsSpelt tokens grammar part (form_at n s) i a j
    → IsTaken tokens grammar on s (filled n a s) i j
open_clause_taken {tokens} named heads on {p} n s {i} {j} meet full wide away still comes one = record {
  leads = open_clause_leads n s still (at_wider on wide (record { passed = comes })) meet one
      (others_stop_by named heads n s (spelt_order one) (record { passed = comes }) away);
  forward = advances named heads full one.spelt;
  within = at_within tokens i p comes;
}

pub fails_open_clause : {tokens : List Token} {grammar : ℕ → Form} (named : Firsts) → Heads grammar named
    → {part : Token → Bool} (on : Token → Bool) {p : Token → Bool} (n : ℕ) (s : Slots) {i : ℕ} {e : SyntaxRefusal}
    → AllMeet tokens grammar part on s → ((t : Token) → p t ≡ true → on t ≡ true)
    → ((t : Token) → p t ≡ true → opens_but named n s t ≡ false) → is_open n s ≡ true
    → passes p (slice_get tokens i) ≡ true → Fails tokens grammar part (form_at n s) i e
    → Fails tokens grammar on (AnyOrder s) i e
fails_open_clause named heads on n s meet wide away still comes r =
    fails_by (λ k one. open_clause_fault n s still (at_wider on wide (record { passed = comes })) meet one
    (others_stop_by named heads n s one.stops.order (record { passed = comes }) away)) r

-- What a reader of a closed form answers, as of one that might have gone on.
pub reads_wider : (tokens : List Token) (grammar : ℕ → Form) (on : Token → Bool) (f : Form) {X : Type 0}
    (view : X → Tree) (i : ℕ) (read : Result (X × ℕ) SyntaxRefusal) → Reads tokens grammar closed f i view read →
    Reads tokens grammar on f i view read
reads_wider tokens grammar on f view i (Ok x) one = spelt_wider on one
reads_wider tokens grammar on f view i (Err e) one = fails_wider on one

-- The clause at n comes, which p tells from the others, and is kept: from what the code asked, whether the clause
-- is still missing (b) and whether p is passed (w).
pub open_clause_kept : (tokens : List Token) {grammar : ℕ → Form} (named : Firsts) → Heads grammar named →
    (part on : Token → Bool) {p : Token → Bool} (n : ℕ) (s : Slots) {X : Type 0} (view : X → Tree)
    (put : Option X → Slots) (o : Option X) (b : Bool) {w : Bool} (new : Option X) (i : ℕ)
    (read : Result (X × ℕ) SyntaxRefusal) (answer : Result (Option ℕ) SyntaxRefusal) → is_open n s ≡ is_none
    (option_map view o) → AllMeet tokens grammar part on s → skips named (form_at n s) ≡ false →
    ((t : Token) → p t ≡ true → on t ≡ true) → ((t : Token) → p t ≡ true → opens_but named n s t ≡ false) →
    ((x : X) → put (Some x) ≡ filled n (view x) s) → is_some o ≡ not b → w ≡ passes p (slice_get tokens i) → (b && w)
    ≡ true → Reads tokens grammar part (form_at n s) i view read → KeepsClause read o new answer → TakesClause tokens
    grammar on s (put new) i answer
open_clause_kept tokens named heads part on n s view put o b {w} new i read answer mine meet full wide away fills
    missing asked comes one kept =
    clause_kept tokens part on n s view put o new i read answer fills
    (λ j a spelt. open_clause_taken named heads on n s meet full wide away (mine ∙ came_not view o b w missing comes)
    (sym asked ∙ comes_here b w comes) spelt)
    (λ e fault. fails_open_clause named heads on n s meet wide away (mine ∙ came_not view o b w missing comes)
    (sym asked ∙ comes_here b w comes) fault)
    one kept
