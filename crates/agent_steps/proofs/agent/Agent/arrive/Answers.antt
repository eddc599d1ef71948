use Rattle.std.proofs.Common.{[], ap, ◌∙◌}
use Rattle.agent_model.specs.declared.agent_state.AgentState.{AgentState}
use Rattle.agent_model.specs.Receiving.{received_where}
use Rattle.apdu_receiving.specs.Arrivals.{arriving_of, is_listed}
use Rattle.agent_steps.proofs.EntryLaws.{arrive_steps}
use Rattle.agent_steps.proofs.agent.Agent.arrive.Goals as goal

pub returns : goal.returns
returns g c =
    let agent = c.args.self.now in
    record {
      stepped = c.count_entry.ensures ∙ arrive_steps agent c.args.number c.args.apdu.now
          (arriving_of c.in_ok-received.received) c.take_in.new.self c.send.new.self c.in_ok-sending.sending
          c.requires.legal c.requires.idle
          (c.in_ok-received.ensures.received
          ∙ ap (λ (s : AgentState). received_where s.schema (is_listed []) c.args.apdu.now) c.self.view_is)
          c.in_ok-sending.ensures.taken_in c.in_ok-send.ensures.placed;
    }
