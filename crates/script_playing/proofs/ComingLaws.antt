-- The journal of a play is legal from the agent that it began with, and comes to its agent.
use Rattle.std.proofs.Common.{◌≡◌, ℕ, zero, suc, ◌+◌, ◌<◌, Bool, true, false, length, Option, Some}
use Rattle.std.proofs.Common.{None, refl, sym, ap, ◌∙◌, subst}
use Rattle.std.specs.Prelude.{◌==◌, nat_lt, if◌then◌else◌}
use Rattle.std.specs.Option.{option_map_or}
use Rattle.std.proofs.lemmas.Bool.{eqb-false, ltb-true}
use Rattle.agent_model.specs.declared.agent_state.AgentState.{AgentState}
use Rattle.agent_model.specs.declared.agent_state.Association.{Association}
use Rattle.agent_model.specs.declared.entry.Entry.{Entry}
use Rattle.agent_model.specs.declared.entry.Entry.TheVariants as entry
use Rattle.agent_model.specs.declared.entry.Why.TheVariants as why
use Rattle.agent_model.specs.AgentState.{association_of, is_closed_state, is_live_state, left_to_take}
use Rattle.agent_model.specs.Played.{Play}
use Rattle.agent_model.specs.Step.{is_legal}
use Rattle.agent_model.specs.Journals.{is_legal_journal, replayed}
use Rattle.agent_model.specs.Playing.{all_taken, answered, beginning, closed, closed_from, finished, taken_all}
use Rattle.agent_model.specs.Playing.{taken_from, with_entry}
use Rattle.agent_model.specs.Stepping.{step}
use Rattle.agent_model.proofs.HistoryLaws.{legal_more, replay_more}
use Rattle.agent_model.proofs.StepLaws.{takes_what_is_left}
use Rattle.script_playing.proofs.AnsweringLaws.{granted_commits}
use Rattle.script_playing.proofs.ClosingLaws.{close_legal, closed_closing, finish_legal, finished_there, taken_finished}
use Rattle.script_playing.proofs.EntryLaws.{IsIdle}

pub record Comes (first : AgentState) (play : Play) : Type 0 where
  pub legal : is_legal_journal first play.journal ≡ true
  pub comes : replayed first play.journal ≡ play.agent

pub beginning_comes : (agent : AgentState) → Comes agent (beginning agent)
beginning_comes agent = record { legal = refl; comes = refl }

pub entry_comes : (first : AgentState) (play : Play) (next : Entry) → Comes first play → is_legal play.agent next ≡ true
    → Comes first (with_entry play next)
entry_comes first play next c legal = record {
  legal = legal_more first play.journal next c.legal (ap (λ s. is_legal s next) c.comes ∙ legal);
  comes = replay_more first play.journal next ∙ ap (λ s. step s next) c.comes;
}

module _ (first : AgentState) where
  comes_if : (b : Bool) (p q : Play) → (b ≡ true → Comes first p) → (b ≡ false → Comes first q)
      → Comes first (if b then p else q)
  comes_if true p q h k = h refl
  comes_if false p q h k = k refl

  -- all that is left is taken
  found_comes : (number : ℕ) (play : Play) (o : Option Association) → Comes first play
      → association_of play.agent number ≡ o
      → Comes first (option_map_or (λ (a : Association). if left_to_take a == 0 then play else with_entry play
      (entry.Taken number (left_to_take a))) o play)
  found_comes number play None c e = c
  found_comes number play (Some a) c e =
      let left = left_to_take a in
      comes_if (left == 0) play (with_entry play (entry.Taken number left)) (λ h. c)
      (λ h.
      entry_comes first play (entry.Taken number left) c
      (takes_what_is_left play.agent number left a e refl (eqb-false left 0 h)))

  pub taken_comes : (number : ℕ) (play : Play) → Comes first play → Comes first (taken_all number play)
  taken_comes number play c = found_comes number play (association_of play.agent number) c refl

  from_comes : (count number : ℕ) (play : Play) → Comes first play → Comes first (taken_from count number play)
  from_comes zero number play c = c
  from_comes (suc count) number play c =
      from_comes count (number + 1) (taken_all number play) (taken_comes number play c)

  pub all_comes : (play : Play) → Comes first play → Comes first (all_taken play)
  all_comes play c = from_comes (length play.agent.associations) 1 play c

  -- a new operation is granted and committed
  pub answered_comes : (before : ℕ) (play : Play) → Comes first play
      → (before < length play.agent.operations
      → is_legal play.agent (entry.Granted (length play.agent.operations) play.moment) ≡ true)
      → Comes first (answered before play)
  answered_comes before play c legal =
      let number = length play.agent.operations in
      let granted = with_entry play (entry.Granted number play.moment) in
      comes_if (nat_lt before number) (with_entry granted (entry.Committed number)) play
      (λ h.
      let grants = legal (ltb-true before number h) in
      entry_comes first granted (entry.Committed number) (entry_comes first play (entry.Granted number play.moment) c
      grants) (granted_commits play.agent number play.moment grants))
      (λ h. c)

  -- an association is finished and closed
  finishing_comes : (number : ℕ) (play : Play) (a : Association) → IsIdle play.agent
      → association_of play.agent number ≡ Some a → Comes first play → Comes first (finished number play)
  finishing_comes number play a i there c =
      let is : finished number play
      ≡ (if is_live_state a.state then with_entry play (entry.Finished number) else play) = rw there refl in
      subst (Comes first) (sym is)
      (comes_if (is_live_state a.state) (with_entry play (entry.Finished number)) play
      (λ h. entry_comes first play (entry.Finished number) c (finish_legal number play i a there h)) (λ h. c))

  none_closed : (number : ℕ) (play : Play) → association_of play.agent number ≡ None → closed number play ≡ play
  none_closed number play e = rw e refl

  closing_comes : (number : ℕ) (play : Play) (o : Option Association) → IsIdle play.agent
      → association_of play.agent number ≡ o → Comes first play → Comes first (closed number play)
  closing_comes number play None i e c = subst (Comes first) (sym (none_closed number play e)) c
  closing_comes number play (Some a) i e c =
      let last = finished number play in
      let over = with_entry (taken_all number last) (entry.Closed number why.End) in
      let is : closed number play ≡ (if is_closed_state a.state then play else over) =
      ap (λ o. option_map_or (λ (b : Association). if is_closed_state b.state then play else over) o play) e in
      subst (Comes first) (sym is)
      (comes_if (is_closed_state a.state) play over (λ h. c)
      (λ h.
      let f = finished_there number play i a e h in
      let same = taken_finished number play last f in
      entry_comes first (taken_all number last) (entry.Closed number why.End)
      (taken_comes number last (finishing_comes number play a i e c))
      (ap (λ (p : Play). is_legal p.agent (entry.Closed number why.End)) same ∙ close_legal number play last f)))

  pub closed_comes : (number : ℕ) (play : Play) → IsIdle play.agent → Comes first play
      → Comes first (closed number play)
  closed_comes number play i c = closing_comes number play (association_of play.agent number) i refl c

  pub closed_from_comes : (count number : ℕ) (play : Play) → IsIdle play.agent → Comes first play
      → Comes first (closed_from count number play)
  closed_from_comes zero number play i c = c
  closed_from_comes (suc count) number play i c =
      closed_from_comes count (number + 1) (closed number play) (closed_closing number play i).idle
      (closed_comes number play i c)
