-- Watching: what is known of a journal's room while it is written: how many octets its text has, and how many entries
-- stand in front of the first one that is refused; docs/PROFILE.md, section 7.
use Rattle.std.specs.Prelude.{◌≡◌, ℕ, ◌-◌, ◌^◌, ◌<◌, List, length, min, take}
use Rattle.std.specs.Prelude.{Option, Some, None, MatchOption, if◌then◌else◌}
use Rattle.agent_model.specs.declared.agent_state.AgentState.{AgentState}
use Rattle.agent_model.specs.declared.entry.Entry.{Entry}
use Rattle.agent_model.specs.Played.{Play}
use Rattle.agent_model.specs.Texts.{journal_text}
use Rattle.agent_model.specs.JournalRoom.{HasRoom, IsFilled, is_refused, reserved}
use Rattle.agent_model.specs.Journals.{replayed}
use Rattle.script_playing.specs.declared.watching.Places.{Places}
use Rattle.script_playing.specs.declared.watching.Watch.{Watch}

-- so many entries stand in front of the first one that is refused
abbrev pub IsFilledAt : AgentState → List Entry → ℕ → Type 0
IsFilledAt agent journal place = (place < length journal) × IsFilled agent journal (take place journal)

-- an agent has come so far, and has these places reserved and these limits
pub record AreOf (agent : AgentState) (places : Places) : Type 0 where
  pub came : places.entries ≡ agent.entries
  pub kept : places.reserved ≡ reserved agent
  pub held : places.limits ≡ agent.limits

-- a number of octets, or the greatest of 128 bits
abbrev pub IsCounted : ℕ → ℕ → Type 0
IsCounted count octets = octets ≡ min count (2 ^ 128 - 1)

-- so many entries stand in front of the first refused one, where one more is written down
abbrev pub refused_then : AgentState → ℕ → Option ℕ → Entry → Option ℕ
refused_then agent count (Some place) next = Some place
refused_then agent count None next = if is_refused agent count next then Some agent.entries else None

-- the journal of an agent, which began as the first one
pub record IsWatched (first agent : AgentState) (journal : List Entry) (watch : Watch) : Type 0 where
  pub comes : replayed first journal ≡ agent
  pub counted : IsCounted (length (journal_text journal)) watch.octets
  pub told : MatchOption watch.refused (HasRoom first journal) (λ place. IsFilledAt first journal place)

-- what is known of a play is known of the one that it comes to
abbrev pub IsWatchedOn : Play → Watch → Play → Watch → Type 0
IsWatchedOn before known after then_known =
    (first : AgentState) → IsWatched first before.agent before.journal known
    → IsWatched first after.agent after.journal then_known
