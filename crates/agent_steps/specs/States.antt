-- States: what an association or an operation of an agent has come to; docs/PROFILE.md, section 7.
use Rattle.std.specs.Prelude.{◌≡◌, ℕ, List, [], ◌∷◌, Bool, true, false, Option, option_and_then, All}
use Rattle.std.specs.Option.{option_map_or}
use Rattle.agent_model.specs.declared.agent_state.AgentState.{AgentState}
use Rattle.agent_model.specs.declared.agent_state.Association.{Association}
use Rattle.agent_model.specs.declared.agent_state.AssociationState.{AssociationState}
use Rattle.agent_model.specs.declared.agent_state.Operation.{Operation}
use Rattle.agent_model.specs.declared.limits.Limits.{Limits}
use Rattle.term_model.specs.declared.objects.NamedObject.{NamedObject}
use Rattle.term_model.specs.declared.schema.Set.{Set}
use Rattle.agent_model.specs.Placing.{Sent}
use Rattle.agent_model.specs.AgentState.{association_of, granted_moment, is_ended_state, operation_of}

-- an agent whose operations are all on objects: no record waits for a log
abbrev pub agent_of : Set → Limits → List NamedObject → List Association → List Operation → ℕ → AgentState
agent_of schema limits objects associations operations entries = record {
  schema = schema;
  limits = limits;
  objects = objects;
  associations = associations;
  operations = operations;
  waiting = [];
  entries = entries;
}

-- bytes for one association, or none
abbrev pub sent_to : Option (ℕ × List ℕ) → Sent
sent_to sending = option_map_or (λ (one : ℕ × List ℕ). one ∷ []) sending []

-- an association stands under the number, and has come so far
abbrev pub has_state : (AssociationState → Bool) → AgentState → ℕ → Bool
has_state test agent number = option_map_or (λ (a : Association). test a.state) (association_of agent number) false

-- every operation has ended
abbrev pub IsIdle : AgentState → Type 0
IsIdle agent = All (λ (o : Operation). is_ended_state o.state ≡ true) agent.operations

-- the moment at which the operation under a number was granted, where it is granted and has not ended
abbrev pub moment_of_grant : AgentState → ℕ → Option ℕ
moment_of_grant agent number = option_and_then (λ (o : Operation). granted_moment o.state) (operation_of agent number)
