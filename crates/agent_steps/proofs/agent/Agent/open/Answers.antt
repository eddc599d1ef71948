use Rattle.std.proofs.Common.{◌+◌, ◌++◌, ◌∷◌, [], ap, ◌∙◌}
use Rattle.agent_model.specs.declared.agent_state.AgentState.{AgentState}
use Rattle.agent_steps.specs.States.{agent_of}
use Rattle.agent_steps.proofs.EntryLaws.{open_steps}
use Rattle.agent_steps.proofs.agent.Agent.open.Goals as goal

pub returns : goal.returns
returns g c =
    let agent = c.args.self.now in
    let i = c.self.inside in
    let added = c.associated-association.result in
    record {
      stepped = c.count_entry.ensures ∙ open_steps agent c.args.bind.now c.in_ok-title.title
          c.answer_to-answer.result (c.count_associations-number.result + 1) c.in_ok-items.items.items added
          (agent_of i.schema i.limits i.mib c.push.new.self i.operations i.entries) c.send.new.self
          c.in_ok-title.ensures c.answer_to-answer.ensures (ap (λ n. n + 1) c.count_associations-number.ensures)
          c.in_ok-items.ensures c.associated-association.ensures
          (ap (λ xs. agent_of i.schema i.limits i.mib xs i.operations i.entries) c.in_ok-push.ensures
          ∙ ap (λ (s : AgentState). record s { associations = s.associations ++ added ∷ [] }) c.self.view_is)
          c.in_ok-send.ensures.placed;
    }
