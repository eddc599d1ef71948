-- Performing: what a granted operation does on the objects as they are: X.711, section 7. So far it is that of m-Get and
-- m-Set, and nothing for other requests; no append is begun.
use Rattle.std.specs.Prelude.{ℕ, ℤ, List, [], ◌∷◌, Bool, true, if◌then◌else◌}
use Rattle.std.specs.Option.{option_map_or}
use Rattle.agent_model.specs.declared.agent_state.AgentState.{AgentState}
use Rattle.agent_model.specs.declared.agent_state.Association.{Association}
use Rattle.agent_model.specs.declared.agent_state.Work.{Work}
use Rattle.agent_model.specs.declared.agent_state.Work.TheVariants as work
use Rattle.term_model.specs.declared.reply.Reply.{Reply}
use Rattle.term_model.specs.declared.request.Request.{Request}
use Rattle.term_model.specs.declared.request.Request.TheVariants as request
use Rattle.agent_model.specs.AgentState.{association_of}
use Rattle.term_model.specs.Operation.{Replied, operation_number, replied}
use Rattle.agent_model.specs.Step.{changed_association}
use Rattle.operation_model.specs.WholeOperation.{Outcome, outcome}
use Rattle.agent_model.specs.Placing.{Sent}

-- what a step does to the agent, and the bytes that it has for associations
pub record Done : Type 0 where
  pub agent : AgentState
  pub sent : Sent

abbrev pub nothing_sent : AgentState → Done
nothing_sent agent = record { agent = agent; sent = [] }

-- the request asks for replies
abbrev pub is_confirmed : Request → Bool
is_confirmed (request.Get head ids) = true
is_confirmed (request.Set head changes confirmed) = confirmed
is_confirmed (request.Act head action argument confirmed) = confirmed
is_confirmed (request.Create class place reference given) = true
is_confirmed (request.Delete head) = true
is_confirmed (request.Report class at kind time info confirmed) = confirmed

-- the frames of replies to an invoke of an association, and its next own invoke id behind them
abbrev pub frames_to : ℤ → Request → List Reply → Association → Replied
frames_to invoke asked replies a = replied invoke (operation_number asked) a.next_own replies

abbrev pub with_own : ℤ → Association → Association
with_own own a = record a { next_own = own }

abbrev pub sending : AgentState → ℕ → Replied → Done
sending agent number frames = record {
  agent = record agent {
    associations = changed_association agent.associations number (with_own frames.own);
  };
  sent = (number, frames.octets) ∷ [];
}

-- the replies are sent to the association that asked, where it asked for any
abbrev pub answering : AgentState → ℕ → ℤ → Request → List Reply → Done
answering agent number invoke asked replies =
    if is_confirmed asked
    then option_map_or (λ a. sending agent number (frames_to invoke asked replies a)) (association_of agent number)
    (nothing_sent agent)
    else nothing_sent agent

-- the objects are those that the operation leaves
abbrev pub concluding : AgentState → ℕ → ℤ → Request → Outcome → Done
concluding agent number invoke asked told =
    answering (record agent { objects = told.objects }) number invoke asked told.replies

-- an operation that is granted at a moment
abbrev pub carried_out : AgentState → Work → ℕ → Done
carried_out agent (work.Asked number invoke asked) moment =
    option_map_or (concluding agent number invoke asked) (outcome agent.schema agent.objects asked moment)
    (nothing_sent agent)
carried_out agent (work.Append log own) moment = nothing_sent agent
