-- The first one of the tokens with which a form goes on, as a test of one token.
use Rattle.std.proofs.Common.{◌≡◌, ℕ, Bool, true, false, ◌||◌, List, [], ◌∷◌, Option, refl}
use Rattle.token_grammar.specs.declared.token.Token.{Token}
use Rattle.token_grammar.specs.Form.{Form, Marks, Keep, Then, Or, Maybe, Listed, Many, AnyOrder, Named}
use Rattle.token_grammar.specs.Form.{Slots, Slot, NoSlots}
use Rattle.grammar_laws.specs.Opening.{Opening, past, front, one_of, marks_opening, opening, clauses_opening}
use Rattle.grammar_laws.specs.Decided.{Parts}
use Rattle.grammar_laws.proofs.Fronts.{past_left, past_right}
use Rattle.grammar_laws.proofs.Leading.{Leads, leads, clauses_lead, front_first}

-- one part or another, where `a` and `b` are tests of tokens with which they go on
abbrev pub one_further : Opening → Opening → (Token → Bool) → (Token → Bool) → Token → Bool
one_further p q a b t =
    past p.empty (past q.empty (past p.single (past q.single (a t || b t) (p.second t)) (q.second t))
    (p.first t)) (q.first t)

abbrev mutual
  pub further : (ℕ → Opening) → (ℕ → Token → Bool) → Form → Token → Bool
  further named later (Marks tests) t = false
  further named later (Keep test) t = false
  further named later (Then f g) t = past (opening named g).empty (further named later g t) (further named later f t)
  further named later (Or f g) t =
      one_further (opening named f) (opening named g) (further named later f) (further named later g) t
  further named later (Maybe f) t = further named later f t || (opening named f).first t
  further named later (Listed separator s f) t = separator t || further named later f t
  further named later (Many s f) t = further named later f t || (opening named f).first t
  further named later (AnyOrder s) t = clauses_further named later s t || (clauses_opening named s).first t
  further named later (Named n) t = later n t

  pub clauses_further : (ℕ → Opening) → (ℕ → Token → Bool) → Slots → Token → Bool
  clauses_further named later NoSlots t = false
  clauses_further named later (Slot needed f came s) t =
      one_further (opening named f) (clauses_opening named s) (further named later f) (clauses_further named later s) t

past_mono : (s a b : Bool) {c d : Bool} → (a ≡ true → c ≡ true) → (b ≡ true → d ≡ true) → past s a b ≡ true
    → past s c d ≡ true
past_mono true a b {c} {d} one two e = both a b one two e
  where
    both : (x y : Bool) → (x ≡ true → c ≡ true) → (y ≡ true → d ≡ true) → (x || y) ≡ true → (c || d) ≡ true
    both true y f g h = past_left true c d (f refl)
    both false true f g h = past_right true c d refl (g refl)
    both false false f g h = absurd (cc h)
past_mono false a b one two e = one e

-- the forms with a name go on as `later` says
pub record GoesOn (named : ℕ → Opening) (later : ℕ → Token → Bool) : Type 0 where
  pub leads : (n : ℕ) → Leads (named n)
  pub on : (n : ℕ) (t : Token) (u : Option Token) → (named n).on t u ≡ true → later n t ≡ true

marks_end : (tests : List (Token → Bool)) (t : Token) (u : Option Token) → (marks_opening tests).on t u ≡ true
    → false ≡ true
marks_end [] t u e = e
marks_end (test ∷ []) t u e = e
marks_end (test ∷ (next ∷ tests)) t u e =
    ended (marks_opening (next ∷ tests)).empty ((marks_opening (next ∷ tests)).on t u) (marks_end (next ∷ tests) t u) e
  where
    ended : (s b : Bool) → (b ≡ true → false ≡ true) → past s b false ≡ true → false ≡ true
    ended true true go e = go refl
    ended true false go e = e
    ended false b go e = go e

one_goes_on : (p q : Opening) (a b : Token → Bool) (t : Token) (u : Option Token) → Leads p → Leads q
    → (p.on t u ≡ true → a t ≡ true) → (q.on t u ≡ true → b t ≡ true) → (one_of p q).on t u ≡ true
    → one_further p q a b t ≡ true
one_goes_on p q a b t u one two goes goes' =
    past_mono p.empty
    (past q.empty (past p.single (past q.single (p.on t u || q.on t u) (p.second t)) (q.second t)) (front p t u))
    (front q t u)
    (past_mono q.empty (past p.single (past q.single (p.on t u || q.on t u) (p.second t)) (q.second t)) (front p t u)
    (past_mono p.single (past q.single (p.on t u || q.on t u) (p.second t)) (q.second t)
    (past_mono q.single (p.on t u || q.on t u) (p.second t)
    (past_mono true (p.on t u) (q.on t u) goes goes') (λ e. e)) (λ e. e)) (front_first t u one))
    (front_first t u two)

mutual
  pub goes_on : (named : ℕ → Opening) (later : ℕ → Token → Bool) → GoesOn named later → (f : Form) (t : Token)
      (u : Option Token) → (opening named f).on t u ≡ true → further named later f t ≡ true
  goes_on named later all (Marks tests) t u e = marks_end tests t u e
  goes_on named later all (Keep test) t u e = e
  goes_on named later all (Then f g) t u e =
      past_mono (opening named g).empty ((opening named g).on t u) ((opening named f).on t u)
      (goes_on named later all g t u) (goes_on named later all f t u) e
  goes_on named later all (Or f g) t u e =
      one_goes_on (opening named f) (opening named g) (further named later f) (further named later g) t u
      (leads named all.leads f) (leads named all.leads g) (goes_on named later all f t u) (goes_on named later all g t
      u) e
  goes_on named later all (Maybe f) t u e =
      past_mono true ((opening named f).on t u) (front (opening named f) t u) (goes_on named later all f t u)
      (front_first t u (leads named all.leads f)) e
  goes_on named later all (Listed separator s f) t u e =
      past_mono true (separator t) ((opening named f).on t u) (λ h. h) (goes_on named later all f t u) e
  goes_on named later all (Many s f) t u e =
      past_mono true ((opening named f).on t u) (front (opening named f) t u) (goes_on named later all f t u)
      (front_first t u (leads named all.leads f)) e
  goes_on named later all (AnyOrder s) t u e =
      past_mono true ((clauses_opening named s).on t u) (front (clauses_opening named s) t u)
      (clauses_go_on named later all s t u) (front_first t u (clauses_lead named all.leads s)) e
  goes_on named later all (Named n) t u e = all.on n t u e

  clauses_go_on : (named : ℕ → Opening) (later : ℕ → Token → Bool) → GoesOn named later → (s : Slots) (t : Token)
      (u : Option Token) → (clauses_opening named s).on t u ≡ true → clauses_further named later s t ≡ true
  clauses_go_on named later all NoSlots t u e = e
  clauses_go_on named later all (Slot needed f came s) t u e =
      one_goes_on (opening named f) (clauses_opening named s) (further named later f) (clauses_further named later s)
      t u
      (leads named all.leads f) (clauses_lead named all.leads s) (goes_on named later all f t u)
      (clauses_go_on named later all s t u) e

-- what a form goes on with is apart from what another one begins with, where no token is first in both
pub ends_before : (named : ℕ → Opening) (later : ℕ → Token → Bool) → GoesOn named later → (f g : Form)
    → ((t : Token) → further named later f t ≡ true → (opening named g).first t ≡ true → ⊥)
    → Parts (opening named f).on (front (opening named g))
ends_before named later all f g apart t u e h = apart t (goes_on named later all f t u e)
    (front_first t u (leads named all.leads g) h)
