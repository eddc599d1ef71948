-- What was placed for associations and taken, and what has ended, once an association is changed, opened or closed, and
-- once bytes are placed for it.
use Rattle.std.proofs.Common.{◌≡◌, ℕ, ◌+◌, ◌-◌, ◌≤◌, Bool, true, false, List, [], ◌∷◌, ◌++◌, length, Option, Some}
use Rattle.std.proofs.Common.{None, refl, sym, ap, ◌∙◌, ⊎_elim, arith, subst, length-append, zero-add}
use Rattle.std.specs.Prelude.{ℤ, ◌==◌, ◌&&◌, not, nat_lt, map, count_by, sum_by, position, if◌then◌else◌}
use Rattle.std.specs.List.{position_or_len}
use Rattle.std.specs.Option.{option_map_or}
use Rattle.std.proofs.lemmas.Bool.{cases_Bool, eqb-true, eqb-false, false≢true, le-ltb}
use Rattle.std.proofs.lemmas.List.Elements.{All-head, All-map, All-tail, All-weaker}
use Rattle.std.proofs.lemmas.List.Sums.{sum_by-cons}
use Rattle.std.proofs.lemmas.Option.{same_Some}
use Rattle.agent_model.specs.declared.agent_state.AgentState.{AgentState}
use Rattle.agent_model.specs.declared.agent_state.Association.{Association}
use Rattle.agent_model.specs.declared.agent_state.AssociationState.TheVariants as standing
use Rattle.agent_model.specs.declared.agent_state.Operation.{Operation}
use Rattle.agent_model.specs.AgentState.{association_of, is_asked_by, is_closed_state, is_ended_state, is_outstanding}
use Rattle.agent_model.specs.AgentState.{left_to_take, numbered}
use Rattle.agent_model.specs.Step.{changed_association, ended_with, is_asked_as, is_outstanding_as, with_placed}
use Rattle.agent_model.specs.Step.{with_state}
use Rattle.agent_model.proofs.StandingLaws.{stands_from_some}
use Rattle.agent_model.specs.Placing.{overrun, placed_for, placed_within}
use Rattle.script_playing.specs.Ready.{AreTaken, HaveEnded, IsTaken}
use Rattle.script_playing.proofs.Standing.{changed_other, changed_own, numbered_push}

-- no more was taken than was placed, and where the association is closed, all of it
abbrev pub IsSound : Association → Type 0
IsSound a = (a.taken ≤ length a.placed) × (is_closed_state a.state ≡ true → IsTaken a)

-- all was taken but for what is left of the association under a number
pub record AreTakenBut (number : ℕ) (associations : List Association) : Type 0 where
  pub others : (k : ℕ) (a : Association) → numbered associations k ≡ Some a → (k ≡ number → ⊥) → IsTaken a
  pub own : (a : Association) → numbered associations number ≡ Some a → IsSound a

-- the association under a number is not closed, where there is one
abbrev pub IsOpen : ℕ → List Association → Type 0
IsOpen number associations =
    (a : Association) → numbered associations number ≡ Some a → is_closed_state a.state ≡ false

pub same_number : (P : Type 0) (k number : ℕ) → (k ≡ number → P) → ((k ≡ number → ⊥) → P) → P
same_number P k number one other =
    ⊎_elim
    (λ (e : (k == number) ≡ true). one (eqb-true k number e))
    (λ (e : (k == number) ≡ false). other (eqb-false k number e))
    (cases_Bool (k == number))

taken_sound : (a : Association) → IsTaken a → IsSound a
taken_sound a t = (omega (arith, t), λ c. t)

pub taken_but : (number : ℕ) (xs : List Association) → AreTaken xs → AreTakenBut number xs
taken_but number xs all = record {
  others = λ k a e other. all k a e;
  own = λ a e. taken_sound a (all number a e);
}

pub changed_but : (number : ℕ) (xs : List Association) (change : Association → Association) (a : Association)
    → AreTaken xs → numbered xs number ≡ Some a → IsSound (change a)
    → AreTakenBut number (changed_association xs number change)
changed_but number xs change a all there sound =
    let s = stands_from_some xs number a there in
    record {
      others = λ k b e other. all k b (sym (changed_other xs number k change s.positive other) ∙ e);
      own = λ b e. subst IsSound (same_Some (change a) b (sym (changed_own xs number change a there) ∙ e)) sound;
    }

pub changed_taken : (number : ℕ) (xs : List Association) (change : Association → Association) (a : Association)
    → AreTakenBut number xs → numbered xs number ≡ Some a → IsTaken (change a)
    → AreTaken (changed_association xs number change)
changed_taken number xs change a but there taken k b e =
    let s = stands_from_some xs number a there in
    same_number (IsTaken b) k number
    (λ same.
    subst IsTaken (same_Some (change a) b (sym (changed_own xs number change a there)
    ∙ (ap (λ n. numbered (changed_association xs number change) n) (sym same) ∙ e))) taken)
    (λ other. but.others k b (sym (changed_other xs number k change s.positive other) ∙ e) other)

pub pushed_taken : (xs : List Association) (y : Association) → AreTaken xs → IsTaken y → AreTaken (xs ++ y ∷ [])
pushed_taken xs y all taken k b e =
    ⊎_elim
    (λ (h : numbered xs k ≡ Some b). all k b h)
    (λ (h : (k ≡ length xs + 1) × (b ≡ y)). subst IsTaken (sym h.1) taken)
    (numbered_push xs y k b e)

-- the association is gone, or nothing is left of it to take
none_left : (a : Association) → IsSound a → left_to_take a ≡ 0 → IsTaken a
none_left a sound none =
    ⊎_elim
    (λ (e : is_closed_state a.state ≡ true). sound.1 e)
    (λ (e : is_closed_state a.state ≡ false).
    let zero_ : length a.placed - a.taken ≡ 0 = rw e at none in
    let within = sound.0 in omega arith)
    (cases_Bool (is_closed_state a.state))

pub left_none : (a : Association) → IsTaken a → left_to_take a ≡ 0
left_none a taken =
    ⊎_elim
    (λ (e : is_closed_state a.state ≡ true). rw e refl)
    (λ (e : is_closed_state a.state ≡ false). rw e (omega (arith, taken)))
    (cases_Bool (is_closed_state a.state))

pub nothing_left : (number : ℕ) (xs : List Association) → AreTakenBut number xs
    → ((a : Association) → numbered xs number ≡ Some a → left_to_take a ≡ 0) → AreTaken xs
nothing_left number xs but none k b e =
    same_number (IsTaken b) k number
    (λ same.
    let there = ap (λ n. numbered xs n) (sym same) ∙ e in none_left b (but.own b there) (none b there))
    (but.others k b e)

-- once bytes are placed for one that is open, something may be left of it
within_but : (agent : AgentState) (number : ℕ) (bytes : List ℕ) (a : Association) (b : Bool)
    → AreTaken agent.associations → association_of agent number ≡ Some a → is_closed_state a.state ≡ false
    → AreTakenBut number
    (if b then overrun agent number
    else record agent { associations = changed_association agent.associations number (with_placed bytes) }).associations
within_but agent number bytes a true all there live =
    changed_but number agent.associations (with_state standing.Overrun) a all there
    (taken_sound (with_state standing.Overrun a) (all number a there))
within_but agent number bytes a false all there live =
    let taken = all number a there in
    changed_but number agent.associations (with_placed bytes) a all there
    (omega (arith, taken, length-append a.placed bytes), λ closed. absurd (false≢true (sym live ∙ closed)))

found_but : (agent : AgentState) (number : ℕ) (bytes : List ℕ) (o : Option Association)
    → AreTaken agent.associations → IsOpen number agent.associations → association_of agent number ≡ o
    → AreTakenBut number (option_map_or (placed_within agent number bytes) o agent).associations
found_but agent number bytes None all live e = taken_but number agent.associations all
found_but agent number bytes (Some a) all live e =
    within_but agent number bytes a (nat_lt agent.limits.untaken (left_to_take a + length bytes)) all e (live a e)

pub placed_but : (agent : AgentState) (number : ℕ) (bytes : List ℕ) → AreTaken agent.associations
    → IsOpen number agent.associations → AreTakenBut number (placed_for agent number bytes).associations
placed_but agent number [] all live = taken_but number agent.associations all
placed_but agent number (byte ∷ bytes) all live =
    found_but agent number (byte ∷ bytes) (association_of agent number) all live refl

-- operations that have ended
ended_once : (number place : ℕ) (o : Operation) → is_ended_state o.state ≡ true
    → is_ended_state (ended_with number place o).state ≡ true
ended_once number place o h =
    ⊎_elim
    (λ (e : is_outstanding number o ≡ true). rw e refl)
    (λ (e : is_outstanding number o ≡ false). rw e h)
    (cases_Bool (is_outstanding number o))

pub mapped_ended : (number place : ℕ) (xs : List Operation) → HaveEnded xs
    → HaveEnded (map (ended_with number place) xs)
mapped_ended number place xs all =
    All-map (λ (o : Operation). is_ended_state o.state ≡ true) (ended_with number place) xs
    (All-weaker (λ (o : Operation). is_ended_state o.state ≡ true)
    (λ (o : Operation). is_ended_state (ended_with number place o).state ≡ true)
    (λ o h. ended_once number place o h) xs all)

within_ended : (agent : AgentState) (number : ℕ) (bytes : List ℕ) (b : Bool) → HaveEnded agent.operations
    → HaveEnded
    (if b then overrun agent number
    else record agent { associations = changed_association agent.associations number (with_placed bytes) }).operations
within_ended agent number bytes true all = mapped_ended number agent.entries agent.operations all
within_ended agent number bytes false all = all

found_ended : (agent : AgentState) (number : ℕ) (bytes : List ℕ) (o : Option Association) → HaveEnded agent.operations
    → HaveEnded (option_map_or (placed_within agent number bytes) o agent).operations
found_ended agent number bytes None all = all
found_ended agent number bytes (Some a) all =
    within_ended agent number bytes (nat_lt agent.limits.untaken (left_to_take a + length bytes)) all

pub placed_ended : (agent : AgentState) (number : ℕ) (bytes : List ℕ) → HaveEnded agent.operations
    → HaveEnded (placed_for agent number bytes).operations
placed_ended agent number [] all = all
placed_ended agent number (byte ∷ bytes) all =
    found_ended agent number (byte ∷ bytes) (association_of agent number) all

-- none that has ended is outstanding, or found by its invoke id
and_no : (a b : Bool) → b ≡ true → (a && not b) ≡ false
and_no true b h = rw h refl
and_no false b h = refl

and_false : (a b : Bool) → b ≡ false → (a && b) ≡ false
and_false true b h = h
and_false false b h = refl

outstanding_not : (number : ℕ) (o : Operation) → is_ended_state o.state ≡ true → is_outstanding number o ≡ false
outstanding_not number o h = and_no (is_asked_by number o.work) (is_ended_state o.state) h

pub none_outstanding : (number : ℕ) (xs : List Operation) → HaveEnded xs → count_by (is_outstanding number) xs ≡ 0
none_outstanding number [] all = refl
none_outstanding number (o ∷ xs) all =
    let P = λ (p : Operation). is_ended_state p.state ≡ true in
    let counts : Operation → ℕ = λ p. if is_outstanding number p then 1 else 0 in
    let rest : sum_by counts xs ≡ 0 = none_outstanding number xs (All-tail P o xs all) in
    let first : counts o ≡ 0 = rw (outstanding_not number o (All-head P o xs all)) refl in
    sum_by-cons counts o xs ∙ (ap (λ n. n + sum_by counts xs) first ∙ (zero-add (sum_by counts xs) ∙ rest))

passed_over : (number : ℕ) (invoke : ℤ) (xs : List Operation) → HaveEnded xs
    → position_or_len (is_outstanding_as number invoke) xs ≡ length xs
passed_over number invoke [] all = refl
passed_over number invoke (o ∷ xs) all =
    let P = λ (p : Operation). is_ended_state p.state ≡ true in
    let no_ = outstanding_not number o (All-head P o xs all) in
    let rest = passed_over number invoke xs (All-tail P o xs all) in
    rw (and_false (is_asked_as number invoke o.work) (is_outstanding number o) no_) (omega (arith, rest))

pub none_as : (number : ℕ) (invoke : ℤ) (xs : List Operation) → HaveEnded xs
    → position (is_outstanding_as number invoke) xs ≡ None
none_as number invoke xs all =
    rw (passed_over number invoke xs all, le-ltb (length xs) (length xs) (omega arith)) refl
