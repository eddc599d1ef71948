-- What the one-manager agent holds of associations and operations; docs/PROFILE.md, section 7.
use Rattle.std.specs.Prelude.{ℕ, ◌-◌, ◌==◌, ◌&&◌, Bool, true, false, not, List}
use Rattle.std.specs.Prelude.{length, count_by, slice_get, Option, None, Some, if◌then◌else◌}
use Rattle.agent_model.specs.declared.agent_state.AgentState.{AgentState}
use Rattle.agent_model.specs.declared.agent_state.Association.{Association}
use Rattle.agent_model.specs.declared.agent_state.AssociationState.{AssociationState}
use Rattle.agent_model.specs.declared.agent_state.AssociationState.TheVariants as association
use Rattle.agent_model.specs.declared.agent_state.Operation.{Operation}
use Rattle.agent_model.specs.declared.agent_state.OperationState.{OperationState}
use Rattle.agent_model.specs.declared.agent_state.OperationState.TheVariants as operation
use Rattle.agent_model.specs.declared.agent_state.Work.{Work}
use Rattle.agent_model.specs.declared.agent_state.Work.TheVariants as work

-- what stands under a number, which counts from 1
abbrev pub numbered : {T : Type 0} → List T → ℕ → Option T
numbered items number = if number == 0 then None else slice_get items (number - 1)

abbrev pub association_of : AgentState → ℕ → Option Association
association_of agent number = numbered agent.associations number

abbrev pub operation_of : AgentState → ℕ → Option Operation
operation_of agent number = numbered agent.operations number

abbrev pub is_live_state : AssociationState → Bool
is_live_state association.Live = true
is_live_state _ = false

abbrev pub is_finished_state : AssociationState → Bool
is_finished_state association.Finished = true
is_finished_state _ = false

abbrev pub is_closed_state : AssociationState → Bool
is_closed_state association.Live = false
is_closed_state association.Finished = false
is_closed_state (association.Closed why) = true
is_closed_state association.Overrun = true

abbrev pub is_waiting_state : OperationState → Bool
is_waiting_state operation.Waiting = true
is_waiting_state _ = false

abbrev pub is_ended_state : OperationState → Bool
is_ended_state (operation.Ended place) = true
is_ended_state _ = false

abbrev pub granted_moment : OperationState → Option ℕ
granted_moment (operation.Granted moment) = Some moment
granted_moment _ = None

-- the association under this number asked for it
abbrev pub is_asked_by : ℕ → Work → Bool
is_asked_by number (work.Asked association_ invoke request) = association_ == number
is_asked_by number (work.Append log own) = false

-- an operation that the association asked for and that has not ended
abbrev pub is_outstanding : ℕ → Operation → Bool
is_outstanding number o = is_asked_by number o.work && not (is_ended_state o.state)

-- how many operations of an association have not ended
abbrev pub outstanding : AgentState → ℕ → ℕ
outstanding agent number = count_by (is_outstanding number) agent.operations

-- how many bytes are placed and not taken; of a closed association nothing is left to take
abbrev pub left_to_take : Association → ℕ
left_to_take a = if is_closed_state a.state then 0 else length a.placed - a.taken
