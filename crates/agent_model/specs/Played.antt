-- What a script comes to line by line; docs/PROFILE.md, section 7.
use Rattle.std.specs.Prelude.{ℕ, List}
use Rattle.agent_model.specs.declared.agent_state.AgentState.{AgentState}
use Rattle.agent_model.specs.declared.entry.Entry.{Entry}

-- what a script came to so far: the agent, the journal and the script's time
pub record Play : Type 0 where
  pub agent : AgentState
  pub journal : List Entry
  pub moment : ℕ
