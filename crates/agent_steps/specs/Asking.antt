-- Asking: what the operations of an agent ask for; X.711, section 7.
use Rattle.std.specs.Prelude.{List, Bool, true, false, All}
use Rattle.std.specs.List.{list_any}
use Rattle.agent_model.specs.declared.agent_state.AgentState.{AgentState}
use Rattle.agent_model.specs.declared.agent_state.Operation.{Operation}
use Rattle.agent_model.specs.declared.agent_state.Work.{Work}
use Rattle.agent_model.specs.declared.agent_state.Work.TheVariants as work
use Rattle.term_model.specs.declared.request.Request.{Request}
use Rattle.term_model.specs.declared.request.Request.TheVariants as request
use Rattle.term_model.specs.declared.schema.Set.{Set}
use Rattle.operation_model.specs.OperationConditions.{HasValidFilter}

-- its filter, where it has one, is valid under the records
abbrev pub IsAskable : Set → Work → Type 0
IsAskable schema (work.Asked number invoke asked) = HasValidFilter schema asked
IsAskable schema (work.Append log own) = Unit {0}

abbrev pub AreAskableUnder : Set → List Operation → Type 0
AreAskableUnder schema operations = All (λ (o : Operation). IsAskable schema o.work) operations

-- the filter of each operation is valid under the agent's records
abbrev pub AreAskable : AgentState → Type 0
AreAskable agent = AreAskableUnder agent.schema agent.operations

-- requests that the agent doesn't carry out yet: all but m-Get and m-Set
abbrev pub is_unbuilt_request : Request → Bool
is_unbuilt_request (request.Get head ids) = false
is_unbuilt_request (request.Set head changes confirmed) = false
is_unbuilt_request _ = true

abbrev pub is_unbuilt_work : Work → Bool
is_unbuilt_work (work.Asked number invoke asked) = is_unbuilt_request asked
is_unbuilt_work (work.Append log own) = false

abbrev pub is_unbuilt : Operation → Bool
is_unbuilt o = is_unbuilt_work o.work

abbrev pub has_unbuilt : AgentState → Bool
has_unbuilt agent = list_any is_unbuilt agent.operations
