-- Answering: the replies to an invoke of an association, by the number of the operation; X.711, section 7.
use Rattle.std.specs.Prelude.{ℕ, ℤ, List}
use Rattle.std.specs.Option.{option_map_or}
use Rattle.agent_model.specs.declared.agent_state.AgentState.{AgentState}
use Rattle.agent_model.specs.declared.agent_state.Association.{Association}
use Rattle.term_model.specs.declared.reply.Reply.{Reply}
use Rattle.agent_model.specs.AgentState.{association_of}
use Rattle.term_model.specs.Operation.{replied}
use Rattle.agent_model.specs.Performing.{Done, nothing_sent, sending}

-- where there is such an association, its frames are sent to it, and its own invoke ids go on behind them
abbrev pub answered : AgentState → ℕ → ℤ → ℤ → List Reply → Done
answered agent number invoke operation replies =
    option_map_or (λ (a : Association). sending agent number (replied invoke operation a.next_own replies))
    (association_of agent number) (nothing_sent agent)
