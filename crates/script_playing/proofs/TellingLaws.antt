-- What is told of a play to the end of a script.
use Rattle.std.proofs.Common.{◌≡◌, List, Ok, sym, subst}
use Rattle.agent_model.specs.declared.agent_state.AgentState.{AgentState}
use Rattle.agent_model.specs.Played.{Play}
use Rattle.agent_model.specs.declared.script_line.ScriptLine.{ScriptLine}
use Rattle.agent_model.specs.Playing.{ended, played}
use Rattle.script_playing.specs.declared.playing.Ending.{Ending}
use Rattle.script_playing.specs.declared.playing.Ending.TheVariants.{Ended, Full, Bad}
use Rattle.script_playing.specs.Scripts.{IfEnded, IsEnded, IsTelling, IsTold}

pub ended_told : {L : Type 0} (agent : AgentState) (lines : List ScriptLine) (play : Play) (ending : Ending L)
    → IsTelling play ending → IsEnded agent lines play → IsTold agent lines ending
ended_told agent lines play (Ended told) is ended_ = subst (IsEnded agent lines) (sym is) ended_
ended_told agent lines play (Full told place) is ended_ = subst (IsEnded agent lines) (sym is) ended_
ended_told agent lines play (Bad number) is ended_ = absurd is

-- a fact of this play
pub if_told : {L : Type 0} (fact : Play → Type 0) (play : Play) (ending : Ending L) → IsTelling play ending → fact play
    → IfEnded fact ending
if_told fact play (Ended told) is h = subst fact (sym is) h
if_told fact play (Full told place) is h = subst fact (sym is) h
if_told fact play (Bad number) is h = absurd is

-- a fact of any play to the end
of_end : (fact : Play → Type 0) (agent : AgentState) (lines : List ScriptLine) (play : Play)
    → ((last : Play) → played agent lines ≡ Ok last → fact (ended last)) → IsEnded agent lines play → fact play
of_end fact agent lines play holds e = subst fact (sym e.2) (holds e.0 e.1)

pub if_ended : {L : Type 0} (fact : Play → Type 0) (agent : AgentState) (lines : List ScriptLine) (ending : Ending L)
    → IsTold agent lines ending → ((last : Play) → played agent lines ≡ Ok last → fact (ended last))
    → IfEnded fact ending
if_ended fact agent lines (Ended play) told holds = of_end fact agent lines play holds told
if_ended fact agent lines (Full play place) told holds = of_end fact agent lines play holds told
if_ended fact agent lines (Bad number) told holds = tt
