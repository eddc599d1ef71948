use Rattle.std.proofs.Common.{◌+◌, sym, ap, ◌∙◌}
use Rattle.agent_model.specs.declared.agent_state.AgentState.{AgentState}
use Rattle.agent_model.specs.declared.agent_state.AssociationState.TheVariants.{Closed}
use Rattle.agent_model.specs.declared.entry.Why.TheVariants.{End}
use Rattle.agent_model.specs.Step.{changed_association, counted, with_state}
use Rattle.agent_model.proofs.StepLaws.{closed_at_end}
use Rattle.agent_steps.specs.States.{agent_of}
use Rattle.agent_steps.proofs.agent.Agent.close_at_end.Goals as goal

pub returns : goal.returns
returns g c =
    let i = c.self.inside in
    ap (λ xs. agent_of i.schema i.limits i.mib xs i.operations (i.entries + 1)) c.close.ensures
    ∙ (ap (λ (s : AgentState). counted (record s {
      associations = changed_association s.associations c.args.number (with_state (Closed End));
    })) c.self.view_is ∙ sym (closed_at_end c.args.self.now c.args.number c.requires.legal))
