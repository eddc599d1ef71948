use Rattle.std.proofs.Common.{◌≡◌, Some, refl, sym, ap, ◌∙◌, subst, rules, to_z, of_z, w32, w64}
use Rattle.std.proofs.Math.Facts.{to_z-of_z}
use Rattle.term_model.specs.RemoteOperation.{integer}
use Rattle.agent_model.specs.Step.{no_such_invoke_id}
use Rattle.agent_model.specs.Stepping.{sending_to, sent_error, taken_in}
use Rattle.agent_model.specs.declared.agent_state.AgentState.{AgentState}
use Rattle.apdu_receiving.specs.Arrivals.{HasValidRequest, arriving_of}
use Rattle.agent_steps.proofs.AskingLaws.{queued_askable}
use Rattle.agent_steps.proofs.EntryLaws.{cancels_none}
use Rattle.agent_steps.proofs.agent.Agent.take_in.Goals as goal

pub invariant_of-self-in-Queued : goal.invariant_of-self-in-Queued
invariant_of-self-in-Queued g c =
    let i = c.self.inside in
    let valid : HasValidRequest i.schema c.args.received =
    subst (λ (s : AgentState). HasValidRequest s.schema c.args.received) (sym c.self.view_is) c.requires.valid in
    rw c.in_ok-queue-in-Queued.ensures.queued
    (queued_askable i.schema i.operations c.args.number c.in-Queued.invocation
    (subst (λ r. HasValidRequest i.schema r) c.in-Queued.is valid) c.self.invariant)

pub returns-in_ok-no_such_invoke-in-Cancels : goal.returns-in_ok-no_such_invoke-in-Cancels
returns-in_ok-no_such_invoke-in-Cancels g c =
    let agent = c.args.self.now in
    let number = c.args.number in
    let id = c.in-Cancels.id in
    let cancelled = c.in-Cancels.cancelled in
    let same_id : to_z w32 (of_z w32 id) ≡ id = to_z-of_z {w = w32} {z = id} (search rules) in
    let same_other : to_z w64 (of_z w64 cancelled) ≡ cancelled =
    to_z-of_z {w = w64} {z = cancelled} (search rules) in
    let bytes = c.in_ok-no_such_invoke-in-Cancels.ensures
    ∙ (ap (λ z. sent_error z no_such_invoke_id (Some (integer (to_z w64 (of_z w64 cancelled))))) same_id
    ∙ ap (λ z. sent_error id no_such_invoke_id (Some (integer z))) same_other) in
    record {
      taken_in = ap (λ b. sending_to number b agent) bytes ∙ (cancels_none agent number id cancelled c.requires.idle
          ∙ ap (λ r. taken_in agent number (arriving_of r)) (sym c.in-Cancels.is));
      entries = refl;
    }
