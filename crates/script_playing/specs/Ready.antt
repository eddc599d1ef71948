-- A script on its way: between two lines all that was placed for associations was taken, and every operation has ended;
-- docs/PROFILE.md, section 7.
use Rattle.std.specs.Prelude.{◌≡◌, ◌≤◌, ℕ, List, [], length, true, IsTrue, Some}
use Rattle.std.specs.List.{All}
use Rattle.agent_model.specs.declared.agent_state.AgentState.{AgentState}
use Rattle.agent_model.specs.declared.agent_state.Association.{Association}
use Rattle.agent_model.specs.declared.agent_state.Operation.{Operation}
use Rattle.agent_model.specs.declared.entry.Entry.{Entry}
use Rattle.agent_model.specs.AgentState.{is_ended_state, numbered}
use Rattle.agent_model.specs.Played.{Play}
use Rattle.agent_model.specs.Step.{last_moment}
use Rattle.agent_model.specs.TextLaws.{IsEntry}
use Rattle.operation_model.specs.OperationConditions.{AreSmall}
use Rattle.agent_model.specs.Journals.{is_legal_journal, replayed}

-- all that was placed for it was taken
abbrev pub IsTaken : Association → Type 0
IsTaken a = a.taken ≡ length a.placed

-- that is so of each
abbrev pub AreTaken : List Association → Type 0
AreTaken associations = (number : ℕ) (a : Association) → numbered associations number ≡ Some a → IsTaken a

abbrev pub HaveEnded : List Operation → Type 0
HaveEnded operations = All (λ (o : Operation). is_ended_state o.state ≡ true) operations

-- before any entry
pub record IsFresh (agent : AgentState) : Type 0 where
  pub uncounted : agent.entries ≡ 0
  pub unopened : agent.associations ≡ []
  pub unasked : agent.operations ≡ []

-- between two lines
pub record IsReady (play : Play) : Type 0 where
  pub taken : AreTaken play.agent.associations
  pub ended : HaveEnded play.agent.operations
  pub within : play.moment ≤ last_moment

-- what the program can hold of an agent and its journal: the entries are counted, associations are no more than these,
-- and objects are at most 16,384 octets long
pub record IsKept (agent : AgentState) (journal : List Entry) : Type 0 where
  pub counted : agent.entries ≡ length journal
  pub few : length agent.associations ≤ length journal
  pub held : All IsEntry journal
  pub small : AreSmall agent.schema agent.objects

-- an agent and its journal, which the program can hold: it is legal from an agent before any entry, and comes to the
-- agent
pub record IsJournaled (agent : AgentState) (journal : List Entry) : Type 0 where
  pub first : AgentState
  pub fresh : IsFresh first
  pub legal : IsTrue (is_legal_journal first journal)
  pub replayed_ : replayed first journal ≡ agent
  pub counted : agent.entries ≡ length journal
  pub held : All IsEntry journal
