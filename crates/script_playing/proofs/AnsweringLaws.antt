-- The operation that a line queues is granted and committed.
use Rattle.std.proofs.Common.{◌≡◌, ℕ, ◌+◌, ◌<◌, ◌≤◌, true, false, length, Some}
use Rattle.std.proofs.Common.{refl, sym, ap, ◌∙◌, arith, subst}
use Rattle.std.specs.Option.{option_map_or}
use Rattle.std.proofs.lemmas.Bool.{le-ltb, lt-ltb}
use Rattle.std.proofs.lemmas.List.{length_push}
use Rattle.agent_model.specs.declared.agent_state.AgentState.{AgentState}
use Rattle.agent_model.specs.declared.agent_state.Association.{Association}
use Rattle.agent_model.specs.declared.entry.Entry.TheVariants as entry
use Rattle.term_model.specs.declared.request.Invocation.{Invocation}
use Rattle.agent_model.specs.AgentState.{association_of, is_live_state, operation_of}
use Rattle.agent_model.specs.Played.{Play}
use Rattle.agent_model.specs.Step.{is_legal, last_moment, queued}
use Rattle.agent_model.proofs.StandingLaws.{granted_stands}
use Rattle.agent_model.specs.Playing.{answered, with_entry}
use Rattle.agent_model.specs.Stepping.{step}
use Rattle.agent_model.proofs.StepLaws.{commits_granted, granted_then}
use Rattle.agent_steps.specs.States.{moment_of_grant}
use Rattle.script_playing.proofs.EntryLaws.{Arrives, IsIdle, IsMidway, committed_midway, found_live, granted_to}
use Rattle.script_playing.proofs.EntryLaws.{grants_legal, live_open, with_granted, with_queued}
use Rattle.script_playing.proofs.EntryLaws.Arrives.{answers, queues}

-- where no operation is queued, none is answered
pub answered_none : (before : ℕ) (play : Play) → length play.agent.operations ≡ before → answered before play ≡ play
answered_none before play e = rw (e, le-ltb before before (omega arith)) refl

pub answered_some : (before number : ℕ) (play : Play) → length play.agent.operations ≡ number → before < number
    → answered before play ≡ with_entry (with_entry play (entry.Granted number play.moment)) (entry.Committed number)
answered_some before number play e h = rw (e, lt-ltb before number h) refl

-- one that is granted may be committed
pub commits_where_granted : (agent : AgentState) (number moment : ℕ) → moment_of_grant agent number ≡ Some moment
    → is_legal agent (entry.Committed number) ≡ true
commits_where_granted agent number moment granted =
    let s = granted_stands (operation_of agent number) moment granted in
    commits_granted agent number moment s.0 s.1 s.2

pub granted_commits : (agent : AgentState) (number moment : ℕ) → is_legal agent (entry.Granted number moment) ≡ true
    → is_legal (step agent (entry.Granted number moment)) (entry.Committed number) ≡ true
granted_commits agent number moment legal =
    commits_where_granted (step agent (entry.Granted number moment)) number moment
    (granted_then agent number moment legal)

-- what an APDU brought, with the association that it came of
module _ (agent : AgentState) (number : ℕ) (i : IsIdle agent)
    (live : option_map_or (λ (a : Association). is_live_state a.state) (association_of agent number) false ≡ true)
    (next : Play) (within : next.moment ≤ last_moment) where
  abbrev before : ℕ
  before = length agent.operations

  queued_size : (invocation : Invocation) → next.agent ≡ with_queued agent number invocation
      → length next.agent.operations ≡ before + 1
  queued_size invocation is =
      ap (λ (s : AgentState). length s.operations) is ∙ length_push agent.operations (queued number invocation)

  pub grant_legal : Arrives agent number next.agent → length agent.operations < length next.agent.operations
      → is_legal next.agent (entry.Granted (length next.agent.operations) next.moment) ≡ true
  grant_legal (answers same m) h = absurd (omega (arith, same))
  grant_legal (queues invocation is) h =
      ap (λ n. is_legal next.agent (entry.Granted n next.moment)) (queued_size invocation is)
      ∙ (ap (λ s. is_legal s (entry.Granted (before + 1) next.moment)) is
      ∙ grants_legal agent number invocation next.moment within)

  queued_midway : (invocation : Invocation) → next.agent ≡ with_queued agent number invocation
      → IsMidway number (answered before next).agent
  queued_midway invocation is =
      let granted = with_granted agent number invocation next.moment in
      let found = found_live (association_of agent number) live in
      let form : (answered before next).agent ≡ step granted (entry.Committed (before + 1)) =
      ap (λ (p : Play). p.agent)
      (answered_some before (before + 1) next (queued_size invocation is) (omega arith))
      ∙ ap (λ s. step s (entry.Committed (before + 1)))
      (ap (λ s. step s (entry.Granted (before + 1) next.moment)) is
      ∙ granted_to agent number invocation next.moment within) in
      subst (IsMidway number) (sym form)
      (committed_midway granted agent.operations number invocation next.moment (record {
        taken = i.taken;
        ended = i.ended;
        last = refl;
        association = found.0;
        there = found.1;
        live = live_open found.0.state found.2;
      }))

  pub answered_midway : Arrives agent number next.agent
      → IsMidway number (answered (length agent.operations) next).agent
  answered_midway (answers same m) =
      subst (λ (p : Play). IsMidway number p.agent) (sym (answered_none before next same)) m
  answered_midway (queues invocation is) = queued_midway invocation is
