use Rattle.std.proofs.Common.{subst}
use Rattle.agent_model.specs.declared.agent_state.AgentState.{AgentState}
use Rattle.agent_steps.specs.Asking.{AreAskable}
use Rattle.agent_steps.proofs.agent.Agent.has_valid_filters.Goals as goal

pub returns : goal.returns
returns g c = subst (λ (s : AgentState). AreAskable s) c.self.view_is c.self.invariant
