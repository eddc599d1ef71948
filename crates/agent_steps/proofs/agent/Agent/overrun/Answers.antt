use Rattle.std.proofs.Common.{ap, ◌∙◌}
use Rattle.agent_model.specs.declared.agent_state.AgentState.{AgentState}
use Rattle.agent_model.specs.declared.agent_state.AssociationState.TheVariants.{Overrun}
use Rattle.agent_model.specs.Step.{changed_association, with_state}
use Rattle.agent_model.specs.Placing.{overrun}
use Rattle.agent_steps.specs.States.{agent_of}
use Rattle.agent_steps.proofs.AskingLaws.{ended_askable}
use Rattle.agent_steps.proofs.agent.Agent.overrun.Goals as goal

pub invariant_of-self : goal.invariant_of-self
invariant_of-self g c =
    rw c.end_all_outstanding.ensures
    (ended_askable c.self.inside.schema c.args.number c.self.inside.entries c.self.inside.operations c.self.invariant)

pub returns : goal.returns
returns g c =
    let i = c.self.inside in
    ap (λ xs. agent_of i.schema i.limits i.mib xs c.end_all_outstanding.new.operations i.entries) c.close.ensures
    ∙ (ap (λ ops. agent_of i.schema i.limits i.mib
    (changed_association i.associations c.args.number (with_state Overrun)) ops i.entries) c.end_all_outstanding.ensures
    ∙ ap (λ (s : AgentState). overrun s c.args.number) c.self.view_is)
