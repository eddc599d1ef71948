use Rattle.std.proofs.Common.{◌+◌, sym, ap, ◌∙◌}
use Rattle.agent_model.specs.declared.agent_state.AgentState.{AgentState}
use Rattle.agent_model.specs.declared.agent_state.OperationState.TheVariants.{Granted}
use Rattle.agent_model.specs.Step.{changed_operation, counted}
use Rattle.agent_model.proofs.StepLaws.{granted_at}
use Rattle.agent_steps.specs.States.{agent_of}
use Rattle.agent_steps.proofs.agent.Agent.grant.Goals as goal

pub returns : goal.returns
returns g c =
    let i = c.self.inside in
    ap (λ ops. agent_of i.schema i.limits i.mib i.associations ops (i.entries + 1)) c.set_operation_state.ensures
    ∙ (ap (λ (s : AgentState). counted (record s {
      operations = changed_operation s.operations c.args.number (Granted c.args.moment);
    })) c.self.view_is ∙ sym (granted_at c.args.self.now c.args.number c.args.moment c.requires.legal))
