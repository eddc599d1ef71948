-- Journals: which are legal, and what the one-manager agent is after one. What came of an association is came of History
-- of term_model; docs/PROFILE.md, section 7.
use Rattle.std.specs.Prelude.{ℕ, ◌&&◌, Bool, true, List, [], ◌∷◌}
use Rattle.std.specs.Option.{option_map_or}
use Rattle.agent_model.specs.declared.agent_state.AgentState.{AgentState}
use Rattle.agent_model.specs.declared.agent_state.Association.{Association}
use Rattle.agent_model.specs.declared.entry.Entry.{Entry}
use Rattle.agent_model.specs.AgentState.{association_of}
use Rattle.agent_model.specs.Step.{is_legal}
use Rattle.agent_model.specs.Stepping.{step}

-- the agent after a journal
abbrev pub replayed : AgentState → List Entry → AgentState
replayed agent [] = agent
replayed agent (next ∷ others) = replayed (step agent next) others

-- each entry may stand where it stands
abbrev pub is_legal_journal : AgentState → List Entry → Bool
is_legal_journal agent [] = true
is_legal_journal agent (next ∷ others) = is_legal agent next && is_legal_journal (step agent next) others

-- all bytes that were placed for an association
abbrev pub out : AgentState → ℕ → List Entry → List ℕ
out agent number journal =
    option_map_or (λ (a : Association). a.placed) (association_of (replayed agent journal) number) []
