-- Playing: the journal that a script gives. After a line all that was placed for associations is taken, by rising
-- association; after a `send` the operation, where one was queued, is granted and committed before. At the end of an
-- association, and of the script for each, it is finished, taken and closed; docs/PROFILE.md, sections 5 and 7.
use Rattle.std.specs.Prelude.{ℕ, zero, suc, ◌+◌, ◌==◌, List, [], ◌∷◌, ◌++◌, Bool, true, false, length, min, nat_lt, is_some}
use Rattle.std.specs.Prelude.{Result, Ok, Err, if◌then◌else◌}
use Rattle.std.specs.Option.{option_map_or}
use Rattle.agent_model.specs.declared.agent_state.AgentState.{AgentState}
use Rattle.agent_model.specs.declared.agent_state.Association.{Association}
use Rattle.agent_model.specs.declared.entry.Entry.{Entry}
use Rattle.agent_model.specs.declared.entry.Entry.TheVariants as entry
use Rattle.agent_model.specs.declared.entry.Why.TheVariants as why
use Rattle.agent_model.specs.declared.script_line.ScriptLine.{ScriptLine}
use Rattle.agent_model.specs.declared.script_line.ScriptLine.TheVariants as line
use Rattle.agent_model.specs.AgentState.{association_of, left_to_take, is_live_state, is_closed_state}
use Rattle.agent_model.specs.Played.{Play}
use Rattle.agent_model.specs.Step.{last_moment}
use Rattle.agent_model.specs.Stepping.{step}

abbrev pub with_entry : Play → Entry → Play
with_entry play next = record play { agent = step play.agent next; journal = play.journal ++ next ∷ [] }

-- all that is left of an association is taken, where something is left
abbrev pub taken_all : ℕ → Play → Play
taken_all number play =
    option_map_or (λ (a : Association).
    if left_to_take a == 0 then play else with_entry play (entry.Taken number (left_to_take a)))
    (association_of play.agent number) play

-- the same for so many associations, from this number on
abbrev pub taken_from : ℕ → ℕ → Play → Play
taken_from zero number play = play
taken_from (suc count) number play = taken_from count (number + 1) (taken_all number play)

abbrev pub all_taken : Play → Play
all_taken play = taken_from (length play.agent.associations) 1 play

-- the last operation is granted and committed, where there is a new one
abbrev pub answered : ℕ → Play → Play
answered before play =
    if nat_lt before (length play.agent.operations)
    then with_entry (with_entry play (entry.Granted (length play.agent.operations) play.moment))
    (entry.Committed (length play.agent.operations))
    else play

-- an association is finished, taken and closed, where it is not closed
abbrev pub finished : ℕ → Play → Play
finished number play =
    option_map_or (λ (a : Association). if is_live_state a.state then with_entry play (entry.Finished number) else play)
    (association_of play.agent number) play

abbrev pub closed : ℕ → Play → Play
closed number play =
    option_map_or (λ (a : Association).
    if is_closed_state a.state then play
    else with_entry (taken_all number (finished number play)) (entry.Closed number why.End))
    (association_of play.agent number) play

abbrev pub closed_from : ℕ → ℕ → Play → Play
closed_from zero number play = play
closed_from (suc count) number play = closed_from count (number + 1) (closed number play)

-- a moment past the last one that a journal tells is taken as that one
abbrev pub line_played : Play → ScriptLine → Play
line_played play (line.At moment) = record play { moment = min moment last_moment }
line_played play (line.Open bind) = all_taken (with_entry play (entry.Opened (length play.agent.associations + 1) bind))
line_played play (line.Send number apdu) =
    all_taken (answered (length play.agent.operations) (with_entry play (entry.Arrived number apdu)))
line_played play (line.End number) = closed number play

-- the condition of a line: an association that sends is opened and neither finished nor closed, one that ends is opened
abbrev pub may_play : AgentState → ScriptLine → Bool
may_play agent (line.At moment) = true
may_play agent (line.Open bind) = true
may_play agent (line.Send number apdu) =
    option_map_or (λ (a : Association). is_live_state a.state) (association_of agent number) false
may_play agent (line.End number) = is_some (association_of agent number)

-- the lines from a number on; the number of the first whose condition does not hold is answered
abbrev pub lines_played : ℕ → Play → List ScriptLine → Result Play ℕ
lines_played number play [] = Ok play
lines_played number play (next ∷ others) =
    if may_play play.agent next then lines_played (number + 1) (line_played play next) others else Err number

-- before the first line the time is 0
abbrev pub beginning : AgentState → Play
beginning agent = record { agent = agent; journal = []; moment = 0 }

abbrev pub ended : Play → Play
ended play = closed_from (length play.agent.associations) 1 play

-- what a script comes to: its play, or the number of its first line whose condition does not hold, from 1
abbrev pub played : AgentState → List ScriptLine → Result Play ℕ
played agent lines = lines_played 1 (beginning agent) lines

-- the frames that a script's lines bring for an association, where so many associations were opened before
abbrev pub frames_of : ℕ → ℕ → List ScriptLine → List (List ℕ)
frames_of number opened [] = []
frames_of number opened (line.At moment ∷ others) = frames_of number opened others
frames_of number opened (line.Open bind ∷ others) =
    if opened + 1 == number then bind ∷ frames_of number (opened + 1) others else frames_of number (opened + 1) others
frames_of number opened (line.Send to apdu ∷ others) =
    if to == number then apdu ∷ frames_of number opened others else frames_of number opened others
frames_of number opened (line.End to ∷ others) = frames_of number opened others
