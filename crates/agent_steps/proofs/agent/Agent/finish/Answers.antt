use Rattle.std.proofs.Common.{◌+◌, sym, ap, ◌∙◌}
use Rattle.agent_model.specs.declared.agent_state.AgentState.{AgentState}
use Rattle.agent_model.specs.declared.agent_state.AssociationState.TheVariants.{Finished}
use Rattle.agent_model.specs.Step.{changed_association, counted, with_state}
use Rattle.agent_model.proofs.StepLaws.{finished_at}
use Rattle.agent_steps.specs.States.{agent_of}
use Rattle.agent_steps.proofs.agent.Agent.finish.Goals as goal

pub returns : goal.returns
returns g c =
    let i = c.self.inside in
    ap (λ xs. agent_of i.schema i.limits i.mib xs i.operations (i.entries + 1)) c.finish.ensures
    ∙ (ap (λ (s : AgentState). counted (record s {
      associations = changed_association s.associations c.args.number (with_state Finished);
    })) c.self.view_is ∙ sym (finished_at c.args.self.now c.args.number c.requires.legal))
