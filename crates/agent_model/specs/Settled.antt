-- Settled: no association is open, nothing that was placed for one is left to take, and no operation of one is
-- outstanding; docs/PROFILE.md, section 7.
use Rattle.std.specs.Prelude.{◌≡◌, ℕ, length, IsTrue, Some}
use Rattle.agent_model.specs.declared.agent_state.AgentState.{AgentState}
use Rattle.agent_model.specs.declared.agent_state.Association.{Association}
use Rattle.agent_model.specs.AgentState.{association_of, is_closed_state, outstanding}

-- nothing is left to do for an association
pub record IsDone (agent : AgentState) (number : ℕ) (a : Association) : Type 0 where
  pub closed : IsTrue (is_closed_state a.state)
  pub taken : a.taken ≡ length a.placed
  pub idle : outstanding agent number ≡ 0

-- nothing is left to do for any
abbrev pub IsSettled : AgentState → Type 0
IsSettled agent = (number : ℕ) (a : Association) → association_of agent number ≡ Some a → IsDone agent number a
