-- Scripts: what a script comes to, told by its play or by the number of its first line whose condition does not hold,
-- and whether the journal of the play has room for all of its entries; docs/PROFILE.md, section 7.
use Rattle.std.specs.Prelude.{◌≡◌, ℕ, Ok, Err, List}
use Rattle.agent_model.specs.declared.agent_state.AgentState.{AgentState}
use Rattle.agent_model.specs.Played.{Play}
use Rattle.agent_model.specs.declared.script_line.ScriptLine.{ScriptLine}
use Rattle.agent_model.specs.JournalRoom.{HasRoom}
use Rattle.agent_model.specs.Playing.{ended, played}
use Rattle.script_playing.specs.declared.playing.Ending.{Ending}
use Rattle.script_playing.specs.declared.playing.Ending.TheVariants.{Ended, Full, Bad}
use Rattle.script_playing.specs.Watching.{IsFilledAt}

-- the script ended, and this is its play
abbrev pub IsEnded : AgentState → List ScriptLine → Play → Type 0
IsEnded agent lines play = (last : Play) × (played agent lines ≡ Ok last) × (play ≡ ended last)

abbrev pub IsTold : {L : Type 0} → AgentState → List ScriptLine → Ending L → Type 0
IsTold agent lines (Ended play) = IsEnded agent lines play
IsTold agent lines (Full play place) = IsEnded agent lines play
IsTold agent lines (Bad number) = played agent lines ≡ Err number

-- a fact of the play of a script that ended, whether its journal has room or not
abbrev pub IfEnded : {L : Type 0} → (Play → Type 0) → Ending L → Type 0
IfEnded fact (Ended play) = fact play
IfEnded fact (Full play place) = fact play
IfEnded fact (Bad number) = Unit {0}

-- the journal has room for all of its entries; or so many stand in front of the first one that is refused
abbrev pub HasRoomTold : {L : Type 0} → AgentState → Ending L → Type 0
HasRoomTold agent (Ended play) = HasRoom agent play.journal
HasRoomTold agent (Full play place) = IsFilledAt agent play.journal place
HasRoomTold agent (Bad number) = Unit {0}

-- a play to the end of a script is told
abbrev pub IsTelling : {L : Type 0} → Play → Ending L → Type 0
IsTelling play (Ended told) = told ≡ play
IsTelling play (Full told place) = told ≡ play
IsTelling play (Bad number) = ⊥
