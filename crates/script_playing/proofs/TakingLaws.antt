-- All that is left of the association of a line is taken, and nothing of the others.
use Rattle.std.proofs.Common.{◌≡◌, ℕ, zero, suc, ◌+◌, ◌-◌, ◌<◌, ◌≤◌, Bool, true, false, length, Option}
use Rattle.std.proofs.Common.{Some, None, refl, sym, ap, ◌∙◌, ⊎_elim, arith, subst}
use Rattle.std.specs.Prelude.{◌==◌, nat_lt, if◌then◌else◌}
use Rattle.std.specs.Option.{option_map_or}
use Rattle.std.proofs.lemmas.Bool.{cases_Bool, eqb-true, eqb-false, ltb-false, ltb-true, ne_eqb}
use Rattle.std.proofs.lemmas.Option.{none-some, same_Some, slice_get_past}
use Rattle.agent_model.specs.declared.agent_state.Association.{Association}
use Rattle.agent_model.specs.declared.entry.Entry.TheVariants as entry
use Rattle.agent_model.specs.AgentState.{association_of, is_closed_state, left_to_take}
use Rattle.agent_model.specs.Played.{Play}
use Rattle.agent_model.specs.Step.{changed_association, counted, with_taken}
use Rattle.agent_model.specs.Playing.{all_taken, taken_all, taken_from, with_entry}
use Rattle.agent_model.specs.Stepping.{step}
use Rattle.agent_model.proofs.StepLaws.{taken_at}
use Rattle.script_playing.proofs.EntryLaws.{IsIdle, IsMidway, idle_midway}
use Rattle.script_playing.proofs.TakenLaws.{IsSound, changed_taken, left_none, nothing_left}

-- what was taken and what is left are all that was placed
taken_whole : (a : Association) → IsSound a → (left_to_take a ≡ 0 → ⊥) → a.taken + left_to_take a ≡ length a.placed
taken_whole a sound some =
    ⊎_elim
    (λ (e : is_closed_state a.state ≡ true). absurd (some (rw e refl)))
    (λ (e : is_closed_state a.state ≡ false).
    let left : left_to_take a ≡ length a.placed - a.taken = rw e refl in
    let within = sound.0 in omega arith)
    (cases_Bool (is_closed_state a.state))

-- all that is left of an association is taken
module _ (number : ℕ) (play : Play) (m : IsMidway number play.agent) where
  abbrev taking : Association → Bool → Play
  taking a b = if b then play else with_entry play (entry.Taken number (left_to_take a))

  none_taken : (a : Association) → association_of play.agent number ≡ Some a → left_to_take a ≡ 0 → IsIdle play.agent
  none_taken a there none = record {
    taken = nothing_left number play.agent.associations m.but
        (λ b found. ap left_to_take (sym (same_Some a b (sym there ∙ found))) ∙ none);
    ended = m.ended;
  }

  some_taken : (a : Association) → association_of play.agent number ≡ Some a → (left_to_take a ≡ 0 → ⊥)
      → IsIdle (step play.agent (entry.Taken number (left_to_take a)))
  some_taken a there some =
      let left = left_to_take a in
      let xs = play.agent.associations in
      let idle : IsIdle (counted (record play.agent {
        associations = changed_association xs number (with_taken left);
      })) = record {
        taken = changed_taken number xs (with_taken left) a m.but there (taken_whole a (m.but.own a there) some);
        ended = m.ended;
      } in
      subst IsIdle (sym (taken_at play.agent number left a there refl some)) idle

  found_taken : (a : Association) → association_of play.agent number ≡ Some a
      → IsIdle (taking a (left_to_take a == 0)).agent
  found_taken a there =
      ⊎_elim
      (λ (e : (left_to_take a == 0) ≡ true).
      subst (λ b. IsIdle (taking a b).agent) (sym e) (none_taken a there (eqb-true (left_to_take a) 0 e)))
      (λ (e : (left_to_take a == 0) ≡ false).
      subst (λ b. IsIdle (taking a b).agent) (sym e) (some_taken a there (eqb-false (left_to_take a) 0 e)))
      (cases_Bool (left_to_take a == 0))

  any_taken : (o : Option Association) → association_of play.agent number ≡ o
      → IsIdle (option_map_or (λ (a : Association). taking a (left_to_take a == 0)) o play).agent
  any_taken None e = record {
    taken = nothing_left number play.agent.associations m.but (λ b found. absurd (none-some b (sym e ∙ found)));
    ended = m.ended;
  }
  any_taken (Some a) e = found_taken a e

  pub taken_all_idle : IsIdle (taken_all number play).agent
  taken_all_idle = any_taken (association_of play.agent number) refl

  -- nothing is left of the others
  other_found : (k : ℕ) (o : Option Association) → association_of play.agent k ≡ o → (k ≡ number → ⊥)
      → option_map_or (λ (a : Association). if left_to_take a == 0 then play else with_entry play
      (entry.Taken k (left_to_take a))) o play ≡ play
  other_found k None e other = refl
  other_found k (Some a) e other = rw (left_none a (m.but.others k a e other)) refl

  pub taken_other : (k : ℕ) → (k ≡ number → ⊥) → taken_all k play ≡ play
  taken_other k other = other_found k (association_of play.agent k) refl other

-- so nothing is taken for the others
passed : (number count first : ℕ) (play : Play) → IsMidway number play.agent → number < first
    → taken_from count first play ≡ play
passed number zero first play m h = refl
passed number (suc count) first play m h =
    ap (λ p. taken_from count (first + 1) p) (taken_other number play m first (λ e. omega arith))
    ∙ passed number count (first + 1) play m (omega arith)

ahead : (number count first : ℕ) (play : Play) → IsMidway number play.agent → first + count ≤ number
    → taken_from count first play ≡ play
ahead number zero first play m h = refl
ahead number (suc count) first play m h =
    ap (λ p. taken_from count (first + 1) p) (taken_other number play m first (λ e. omega arith))
    ∙ ahead number count (first + 1) play m (omega arith)

among : (number count first : ℕ) (play : Play) → IsMidway number play.agent → first ≤ number → number < first + count
    → taken_from count first play ≡ taken_all number play
among number zero first play m h k = absurd (omega arith)
among number (suc count) first play m h k =
    ⊎_elim
    (λ (e : (first == number) ≡ true).
    let same : first ≡ number = eqb-true first number e in
    ap (λ n. taken_from count (n + 1) (taken_all n play)) same
    ∙ passed number count (number + 1) (taken_all number play)
    (idle_midway number (taken_all number play).agent (taken_all_idle number play m)) (omega arith))
    (λ (e : (first == number) ≡ false).
    let other : first ≡ number → ⊥ = eqb-false first number e in
    ap (λ p. taken_from count (first + 1) p) (taken_other number play m first other)
    ∙ among number count (first + 1) play m (omega arith) (omega arith))
    (cases_Bool (first == number))

absent_past : (number : ℕ) (play : Play) → length play.agent.associations < number → taken_all number play ≡ play
absent_past number play h =
    let none : association_of play.agent number ≡ None =
    rw (ne_eqb number 0 (λ e. omega arith)) (slice_get_past play.agent.associations (number - 1) (omega arith)) in
    ap (λ o. option_map_or (λ (a : Association). if left_to_take a == 0 then play else with_entry play
    (entry.Taken number (left_to_take a))) o play) none

positive_taken : (number : ℕ) (play : Play) → IsMidway number play.agent → 1 ≤ number
    → all_taken play ≡ taken_all number play
positive_taken number play m h =
    let count = length play.agent.associations in
    ⊎_elim
    (λ (e : nat_lt count number ≡ true).
    let past : count < number = ltb-true count number e in
    ahead number count 1 play m (omega arith) ∙ sym (absent_past number play past))
    (λ (e : nat_lt count number ≡ false).
    let within : number ≤ count = ltb-false count number e in among number count 1 play m h (omega arith))
    (cases_Bool (nat_lt count number))

pub one_taken : (number : ℕ) (play : Play) → IsMidway number play.agent → all_taken play ≡ taken_all number play
one_taken zero play m = passed 0 (length play.agent.associations) 1 play m (omega arith)
one_taken (suc n) play m = positive_taken (suc n) play m (omega arith)
