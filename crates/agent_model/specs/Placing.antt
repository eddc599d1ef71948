-- Placing: the bytes that a step has for associations. Where they and those not taken are more than an association may
-- have, none of the step's bytes are placed for it, and it is closed; docs/PROFILE.md, section 7.
use Rattle.std.specs.Prelude.{ℕ, zero, suc, ◌+◌, ◌==◌, List, [], ◌∷◌, ◌++◌, length, map, nat_lt, if◌then◌else◌}
use Rattle.std.specs.Option.{option_map_or}
use Rattle.agent_model.specs.declared.agent_state.AgentState.{AgentState}
use Rattle.agent_model.specs.declared.agent_state.Association.{Association}
use Rattle.agent_model.specs.declared.agent_state.AssociationState.TheVariants.{Overrun}
use Rattle.agent_model.specs.AgentState.{association_of, left_to_take}
use Rattle.agent_model.specs.Step.{changed_association, ended_with, with_placed, with_state}

-- bytes for the associations under these numbers, in their order
abbrev pub Sent : Type 0
Sent = List (ℕ × List ℕ)

-- those for one association
abbrev pub bytes_for : ℕ → Sent → List ℕ
bytes_for number [] = []
bytes_for number (next ∷ others) =
    if next.0 == number then next.1 ++ bytes_for number others else bytes_for number others

-- the association is closed, and its operations that have not ended end without a reply
abbrev pub overrun : AgentState → ℕ → AgentState
overrun agent number = record agent {
  associations = changed_association agent.associations number (with_state Overrun);
  operations = map (ended_with number agent.entries) agent.operations;
}

abbrev pub placed_within : AgentState → ℕ → List ℕ → Association → AgentState
placed_within agent number bytes a =
    if nat_lt agent.limits.untaken (left_to_take a + length bytes) then overrun agent number
    else record agent { associations = changed_association agent.associations number (with_placed bytes) }

-- all bytes of a step for the association under a number
abbrev pub placed_for : AgentState → ℕ → List ℕ → AgentState
placed_for agent number [] = agent
placed_for agent number (byte ∷ bytes) =
    option_map_or (placed_within agent number (byte ∷ bytes)) (association_of agent number) agent

-- for so many associations, from this number on
abbrev pub placed_from : ℕ → ℕ → Sent → AgentState → AgentState
placed_from zero number sent agent = agent
placed_from (suc count) number sent agent =
    placed_from count (number + 1) sent (placed_for agent number (bytes_for number sent))

abbrev pub placed : AgentState → Sent → AgentState
placed agent sent = placed_from (length agent.associations) 1 sent agent
