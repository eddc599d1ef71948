-- Laws of journals: one that follows another goes on where that one ended, what was placed for an association stays,
-- the journal of a script comes to its agent and has the script's frames, and a journal is filled in one way;
-- docs/PROFILE.md, section 7.
use Rattle.std.specs.Prelude.{◌≡◌, ℕ, ◌&&◌, List, [], ◌++◌, Ok}
use Rattle.agent_model.specs.declared.agent_state.AgentState.{AgentState}
use Rattle.agent_model.specs.declared.entry.Entry.{Entry}
use Rattle.agent_model.specs.History.{came}
use Rattle.agent_model.specs.Played.{Play}
use Rattle.agent_model.specs.declared.script_line.ScriptLine.{ScriptLine}
use Rattle.agent_model.specs.JournalRoom.{HasRoom, IsFilled}
use Rattle.agent_model.specs.Journals.{is_legal_journal, out, replayed}
use Rattle.agent_model.specs.Playing.{ended, frames_of, played}

abbrev pub ReplayGoesOn : Type 0
ReplayGoesOn =
    (agent : AgentState) (xs ys : List Entry) → replayed agent (xs ++ ys) ≡ replayed (replayed agent xs) ys

abbrev pub LegalGoesOn : Type 0
LegalGoesOn =
    (agent : AgentState) (xs ys : List Entry)
    → is_legal_journal agent (xs ++ ys) ≡ (is_legal_journal agent xs && is_legal_journal (replayed agent xs) ys)

abbrev pub PlacedStays : Type 0
PlacedStays =
    (agent : AgentState) (number : ℕ) (xs ys : List Entry)
    → (rest : List ℕ) × (out agent number (xs ++ ys) ≡ out agent number xs ++ rest)

-- the journal of any script comes to the agent that the script came to
abbrev pub ScriptReplays : Type 0
ScriptReplays =
    (agent : AgentState) (script : List ScriptLine) (play : Play) → played agent script ≡ Ok play
    → replayed agent (ended play).journal ≡ (ended play).agent

-- in the journal of any script each association's frames stand in their order, and no others, where none was opened
-- before
abbrev pub ScriptFrames : Type 0
ScriptFrames =
    (agent : AgentState) (script : List ScriptLine) (play : Play) → agent.associations ≡ []
    → played agent script ≡ Ok play → (number : ℕ) → came number (ended play).journal ≡ frames_of number 0 script

-- at most one part of a journal is the one up to the first entry that is refused, and none where it has room for all
abbrev pub FilledOnce : Type 0
FilledOnce =
    (agent : AgentState) (journal part : List Entry) → IsFilled agent journal part
    → ((other : List Entry) → IsFilled agent journal other → other ≡ part) × (HasRoom agent journal → ⊥)
