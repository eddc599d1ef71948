-- Clauses in any order: which clause comes, and that those that are left are decided.
use Rattle.std.proofs.Common.{◌≡◌, ℕ, zero, suc, Bool, true, false, ◌||◌, List, Option, None, Some, refl, sym, ap}
use Rattle.std.proofs.Common.{subst}
use Rattle.token_grammar.specs.declared.token.Token.{Token}
use Rattle.token_grammar.specs.Form.{Form, Tree, Slots, Slot, NoSlots, form_at, is_open, filled}
use Rattle.token_grammar.specs.Spelling.{passes}
use Rattle.token_grammar.proofs.Heads.{or_left, or_right}
use Rattle.grammar_laws.specs.Opening.{Opening, front, opening, clauses_opening}
use Rattle.grammar_laws.specs.Decided.{Parts, EndsBefore, IsDecided, AreDecided, IsWithin, Meets}
use Rattle.grammar_laws.proofs.Fronts.{within_clauses, filled_opening}
use Rattle.grammar_laws.proofs.Meeting.{meets_wider, meets_apart, on_first, on_second}

-- a clause that is decided, and behind which another may come
pub record IsClause (named : ℕ → Opening) (f : Form) (follows : Token → Option Token → Bool) : Type 0 where
  pub decided : IsDecided named f
  pub ends : EndsBefore (opening named f) follows

pub decided_at : (named : ℕ → Opening) (n : ℕ) (s : Slots) {follows : Token → Option Token → Bool}
    → AreDecided named s follows → is_open n s ≡ true → IsClause named (form_at n s) follows
decided_at named n NoSlots d still = absurd (cc still)
decided_at named zero (Slot needed f came s) d still = record { decided = d.0; ends = d.1 }
decided_at named (suc n) (Slot needed f came s) d still = decided_at named n s d.3 still

-- a test that is passed by the front of one is passed by the front of a wider one
next_wider : (p q : Opening) (t : Token) (u : Option Token) → IsWithin p q → passes (p.two t) u ≡ true
    → passes (q.two t) u ≡ true
next_wider p q t None within e = e
next_wider p q t (Some u) within e = within.two t u e

pub front_wider : (p q : Opening) → IsWithin p q → (t : Token) (u : Option Token) → front p t u ≡ true
    → front q t u ≡ true
front_wider p q within t u e = by_cases (p.alone t) refl e
  where
    by_cases : (b : Bool) → p.alone t ≡ b → (b || passes (p.two t) u) ≡ true → front q t u ≡ true
    by_cases true is h = or_left (q.alone t) (passes (q.two t) u) (within.alone t is)
    by_cases false is h = or_right (q.alone t) (passes (q.two t) u) (next_wider p q t u within h)

pub clause_front : (named : ℕ → Opening) (n : ℕ) (s : Slots) → is_open n s ≡ true → (t : Token) (u : Option Token)
    → front (opening named (form_at n s)) t u ≡ true → front (clauses_opening named s) t u ≡ true
clause_front named n s still = front_wider (opening named (form_at n s)) (clauses_opening named s) (within_clauses
    named n s still)

pub clause_on : (named : ℕ → Opening) (n : ℕ) (s : Slots) → is_open n s ≡ true → (t : Token) (u : Option Token)
    → (opening named (form_at n s)).on t u ≡ true → (clauses_opening named s).on t u ≡ true
clause_on named n NoSlots still t u e = absurd (cc still)
clause_on named zero (Slot needed f came s) still t u e = on_first (opening named f) (clauses_opening named s) t u e
clause_on named (suc n) (Slot needed f came s) still t u e = on_second (opening named f) (clauses_opening named s) t u
    (clause_on named n s still t u e)

-- two clauses that begin at one place are one
pub one_clause : {tokens : List Token} {i : ℕ} (named : ℕ → Opening) (n m : ℕ) (s : Slots) (follows : Token
    → Option Token → Bool) → AreDecided named s follows → is_open n s ≡ true → is_open m s ≡ true
    → Meets tokens i (front (opening named (form_at n s))) → Meets tokens i (front (opening named (form_at m s)))
    → m ≡ n
one_clause named n m NoSlots follows d still still' here here' = absurd (cc still)
one_clause named zero zero (Slot needed f came s) follows d still still' here here' = refl
one_clause named zero (suc m) (Slot needed f came s) follows d still still' here here' = absurd (meets_apart d.2 here
    (meets_wider (front (clauses_opening named s)) (clause_front named m s still') here'))
one_clause named (suc n) zero (Slot needed f came s) follows d still still' here here' = absurd (meets_apart d.2 here'
    (meets_wider (front (clauses_opening named s)) (clause_front named n s still) here))
one_clause named (suc n) (suc m) (Slot needed f came s) follows d still still' here here' = ap suc (one_clause named n
    m s follows d.3 still still' here here')

-- what came doesn't matter
pub filled_decided : (named : ℕ → Opening) (n : ℕ) (a : Tree) (s : Slots) (follows : Token → Option Token → Bool)
    → AreDecided named s follows → AreDecided named (filled n a s) follows
filled_decided named n a NoSlots follows d = d
filled_decided named zero a (Slot needed f came s) follows d = d
filled_decided named (suc n) a (Slot needed f came s) follows d = (
  d.0,
  d.1,
  subst (λ p. Parts (front (opening named
      f)) (front p)) (sym (filled_opening named n a s)) d.2,
  filled_decided named n a s follows d.3,
)
