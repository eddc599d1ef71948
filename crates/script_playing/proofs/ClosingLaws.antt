-- Associations are finished and closed, one after the other.
use Rattle.std.proofs.Common.{◌≡◌, ℕ, zero, suc, ◌+◌, ◌-◌, ◌<◌, ◌≤◌, true, false, Option, Some, None}
use Rattle.std.proofs.Common.{refl, sym, ap, ◌∙◌, ⊎_elim, arith, subst}
use Rattle.std.specs.Prelude.{is_some, if◌then◌else◌}
use Rattle.std.specs.Option.{option_map_or}
use Rattle.std.proofs.lemmas.Bool.{cases_Bool, false≢true}
use Rattle.std.proofs.lemmas.Option.{none-some, same_Some}
use Rattle.agent_model.specs.declared.agent_state.Association.{Association}
use Rattle.agent_model.specs.declared.agent_state.AssociationState.{AssociationState}
use Rattle.agent_model.specs.declared.agent_state.AssociationState.TheVariants as standing
use Rattle.agent_model.specs.declared.entry.Entry.TheVariants as entry
use Rattle.agent_model.specs.declared.entry.Why.TheVariants as why
use Rattle.agent_model.specs.AgentState.{association_of, is_closed_state, is_finished_state, is_live_state}
use Rattle.agent_model.specs.Played.{Play}
use Rattle.agent_model.specs.Step.{changed_association, counted, is_legal, may_close, with_state}
use Rattle.agent_model.proofs.StandingLaws.{stands_from_some}
use Rattle.agent_model.specs.Playing.{closed, closed_from, finished, taken_all, with_entry}
use Rattle.agent_model.specs.Stepping.{step}
use Rattle.agent_model.proofs.StepLaws.{closed_at_end, finished_at}
use Rattle.script_playing.proofs.EntryLaws.{IsIdle}
use Rattle.script_playing.proofs.Standing.{changed_other, changed_own}
use Rattle.script_playing.proofs.TakenLaws.{changed_taken, left_none, none_outstanding, same_number, taken_but}

-- the associations under other numbers are as they were
abbrev pub OthersStay : ℕ → Play → Play → Type 0
OthersStay number before after =
    (k : ℕ) → (k ≡ number → ⊥) → association_of after.agent k ≡ association_of before.agent k

-- the association under a number is finished, and may be closed
pub record IsFinished (number : ℕ) (before play : Play) : Type 0 where
  pub idle : IsIdle play.agent
  pub association : Association
  pub there : association_of play.agent number ≡ Some association
  pub finished_ : is_finished_state association.state ≡ true
  pub others : OthersStay number before play

open_finished : (state : AssociationState) → is_closed_state state ≡ false → is_live_state state ≡ false
    → is_finished_state state ≡ true
open_finished standing.Live open_ dead = absurd (false≢true (sym dead))
open_finished standing.Finished open_ dead = refl
open_finished (standing.Closed cause) open_ dead = absurd (false≢true (sym open_))
open_finished standing.Overrun open_ dead = absurd (false≢true (sym open_))

module _ (number : ℕ) (play : Play) (i : IsIdle play.agent) (a : Association)
    (there : association_of play.agent number ≡ Some a) where
  -- its state alone changes
  state_idle : (state : AssociationState) → IsIdle (counted (record play.agent {
    associations = changed_association play.agent.associations number (with_state state);
  }))
  state_idle state = record {
    taken = changed_taken number play.agent.associations (with_state state) a
        (taken_but number play.agent.associations i.taken) there (i.taken number a there);
    ended = i.ended;
  }

  pub finish_legal : is_live_state a.state ≡ true → is_legal play.agent (entry.Finished number) ≡ true
  finish_legal live = ap (λ o. option_map_or (λ (b : Association). is_live_state b.state) o false) there ∙ live

  live_finished : is_live_state a.state ≡ true → IsFinished number play (with_entry play (entry.Finished number))
  live_finished live =
      let xs = play.agent.associations in
      let change = with_state standing.Finished in
      let next = counted (record play.agent { associations = changed_association xs number change }) in
      let is : step play.agent (entry.Finished number) ≡ next = finished_at play.agent number (finish_legal live) in
      let s = stands_from_some xs number a there in
      record {
        idle = subst IsIdle (sym is) (state_idle standing.Finished);
        association = change a;
        there = ap (λ q. association_of q number) is ∙ changed_own xs number change a there;
        finished_ = refl;
        others = λ k other. ap (λ q. association_of q k) is ∙ changed_other xs number k change s.positive other;
      }

  pub finished_there : is_closed_state a.state ≡ false → IsFinished number play (finished number play)
  finished_there open_ =
      ⊎_elim
      (λ (e : is_live_state a.state ≡ true).
      let is : finished number play ≡ with_entry play (entry.Finished number) = rw (there, e) refl in
      subst (IsFinished number play) (sym is) (live_finished e))
      (λ (e : is_live_state a.state ≡ false).
      let is : finished number play ≡ play = rw (there, e) refl in
      subst (IsFinished number play) (sym is) (record {
        idle = i;
        association = a;
        there = there;
        finished_ = open_finished a.state open_ e;
        others = λ k other. refl;
      }))
      (cases_Bool (is_live_state a.state))

pub found_open : (o : Option Association) → is_some o ≡ true
    → option_map_or (λ (a : Association). is_closed_state a.state) o false ≡ false
    → (a : Association) × (o ≡ Some a) × (is_closed_state a.state ≡ false)
found_open None h open_ = absurd (false≢true h)
found_open (Some a) h open_ = (a, refl, open_)

-- nothing is left of it, and it is closed
pub taken_finished : (number : ℕ) (before play : Play) → IsFinished number before play → taken_all number play ≡ play
taken_finished number before play f =
    rw (f.there, left_none f.association (f.idle.taken number f.association f.there)) refl

pub close_legal : (number : ℕ) (before play : Play) → IsFinished number before play
    → is_legal play.agent (entry.Closed number why.End) ≡ true
close_legal number before play f =
    ap (λ o. option_map_or (may_close play.agent number why.End) o false) f.there
    ∙ rw (
      f.finished_,
      none_outstanding number play.agent.operations f.idle.ended,
      left_none f.association (f.idle.taken number f.association f.there),
    ) refl

-- what closing leaves
pub record IsClosing (number : ℕ) (before after : Play) : Type 0 where
  pub idle : IsIdle after.agent
  pub own : (a : Association) → association_of after.agent number ≡ Some a → is_closed_state a.state ≡ true
  pub others : OthersStay number before after

finished_closing : (number : ℕ) (before play : Play) → IsFinished number before play
    → IsClosing number before (with_entry play (entry.Closed number why.End))
finished_closing number before play f =
    let xs = play.agent.associations in
    let change = with_state (standing.Closed why.End) in
    let next = counted (record play.agent { associations = changed_association xs number change }) in
    let is : step play.agent (entry.Closed number why.End) ≡ next =
    closed_at_end play.agent number (close_legal number before play f) in
    let s = stands_from_some xs number f.association f.there in
    record {
      idle = subst IsIdle (sym is)
          (state_idle number play f.idle f.association f.there (standing.Closed why.End));
      own = λ b e.
          subst (λ (c : Association). is_closed_state c.state ≡ true)
          (same_Some (change f.association) b
          (sym (ap (λ q. association_of q number) is ∙ changed_own xs number change f.association f.there) ∙ e)) refl;
      others = λ k other.
          ap (λ q. association_of q k) is
          ∙ (changed_other xs number k change s.positive other ∙ f.others k other);
    }

-- where it is not closed
pub closed_form : (number : ℕ) (play : Play) (a : Association) → association_of play.agent number ≡ Some a
    → is_closed_state a.state ≡ false
    → closed number play ≡ with_entry (taken_all number (finished number play)) (entry.Closed number why.End)
closed_form number play a there open_ =
    ap (λ o. option_map_or (λ (b : Association). if is_closed_state b.state then play
    else with_entry (taken_all number (finished number play)) (entry.Closed number why.End)) o play) there
    ∙ rw open_ refl

pub closed_same : (number : ℕ) (play : Play) (a : Association) → association_of play.agent number ≡ Some a
    → is_closed_state a.state ≡ true → closed number play ≡ play
closed_same number play a there over = rw (there, over) refl

found_closing : (number : ℕ) (play : Play) (o : Option Association) → IsIdle play.agent
    → association_of play.agent number ≡ o → IsClosing number play (closed number play)
found_closing number play None i e =
    let is : closed number play ≡ play = rw e refl in
    subst (IsClosing number play) (sym is)
    (record { idle = i; own = λ a h. absurd (none-some a (sym e ∙ h)); others = λ k other. refl })
found_closing number play (Some a) i e =
    ⊎_elim
    (λ (c : is_closed_state a.state ≡ true).
    subst (IsClosing number play) (sym (closed_same number play a e c))
    (record {
      idle = i;
      own = λ b h. subst (λ (x : Association). is_closed_state x.state ≡ true) (same_Some a b (sym e ∙ h)) c;
      others = λ k other. refl;
    }))
    (λ (c : is_closed_state a.state ≡ false).
    let f = finished_there number play i a e c in
    let last = finished number play in
    let is = closed_form number play a e c
    ∙ ap (λ p. with_entry p (entry.Closed number why.End)) (taken_finished number play last f) in
    subst (IsClosing number play) (sym is) (finished_closing number play last f))
    (cases_Bool (is_closed_state a.state))

pub closed_closing : (number : ℕ) (play : Play) → IsIdle play.agent → IsClosing number play (closed number play)
closed_closing number play i = found_closing number play (association_of play.agent number) i refl

-- all of them
pub record IsClosedBelow (number : ℕ) (play : Play) : Type 0 where
  pub idle : IsIdle play.agent
  pub below : (k : ℕ) (a : Association) → k < number → association_of play.agent k ≡ Some a
      → is_closed_state a.state ≡ true

closed_more : (number : ℕ) (play : Play) → IsClosedBelow number play → IsClosedBelow (number + 1) (closed number play)
closed_more number play h =
    let c = closed_closing number play h.idle in
    record {
      idle = c.idle;
      below = λ k a within e.
          same_number (is_closed_state a.state ≡ true) k number
          (λ same. c.own a (ap (λ n. association_of (closed number play).agent n) (sym same) ∙ e))
          (λ other. h.below k a (omega arith) (sym (c.others k other) ∙ e));
    }

closed_all : (count number : ℕ) (play : Play) → IsClosedBelow number play
    → IsClosedBelow (number + count) (closed_from count number play)
closed_all zero number play h = subst (λ n. IsClosedBelow n play) (omega arith) h
closed_all (suc count) number play h =
    subst (λ n. IsClosedBelow n (closed_from (suc count) number play)) (omega arith)
    (closed_all count (number + 1) (closed number play) (closed_more number play h))

none_below : (play : Play) (k : ℕ) (a : Association) → k < 1 → association_of play.agent k ≡ Some a
    → is_closed_state a.state ≡ true
none_below play zero a h e = absurd (none-some a e)
none_below play (suc k) a h e = absurd (omega arith)

pub all_closed : (count : ℕ) (play : Play) → IsIdle play.agent → IsClosedBelow (1 + count) (closed_from count 1 play)
all_closed count play i = closed_all count 1 play (record { idle = i; below = none_below play })

-- closing one more, and the last
pub closed_step : (count before : ℕ) (play : Play) → before < count
    → closed_from (count - before) (before + 1) play
    ≡ closed_from (count - (before + 1)) (before + 1 + 1) (closed (before + 1) play)
closed_step count before play h =
    let one : count - before ≡ suc (count - (before + 1)) = omega arith in
    ap (λ n. closed_from n (before + 1) play) one

pub closed_last : (count before : ℕ) (play : Play) → count ≤ before
    → closed_from (count - before) (before + 1) play ≡ play
closed_last count before play h =
    let none : count - before ≡ 0 = omega arith in ap (λ n. closed_from n (before + 1) play) none
