-- Examples of docs/PROFILE.md, sections 5 and 7, computed from the definitions: an agent before any entry, scripts that
-- have a line which can't be played, one without lines, and journals without room.
use Rattle.std.proofs.Common.{◌≡◌, List, [], ◌∷◌, Some, None, refl, arith}
use Rattle.agent_model.specs.declared.agent_state.AgentState.{AgentState}
use Rattle.agent_model.specs.declared.entry.Entry.{Entry}
use Rattle.agent_model.specs.declared.entry.Entry.TheVariants as entry
use Rattle.term_model.specs.declared.schema.Set.{Set}
use Rattle.agent_model.specs.AgentLimits.{shipped}
use Rattle.agent_model.specs.declared.script_line.ScriptLine.TheVariants as line
use Rattle.agent_model.specs.Playing.{beginning}
use Rattle.agent_model.specs.Starting.{started}
use Rattle.agent_model.proofs.RoomLaws.{room_none}
use Rattle.script_playing.specs.declared.playing.Ending.TheVariants.{Ended, Full, Bad}
use Rattle.script_playing.specs.Ready.{IsFresh}
use Rattle.script_playing.specs.Scripts.{HasRoomTold, IsEnded, IsTold}
use Rattle.script_playing.specs.Watching.{IsFilledAt, refused_then}

-- records of no document
abbrev nothing : Set
nothing = record {
  classes = [];
  attributes = [];
  groups = [];
  bindings = [];
  actions = [];
  notifications = [];
  rules = [];
  instances = [];
  system = [];
}

abbrev first : AgentState
first = started nothing shipped []

before_any_entry : IsFresh first
before_any_entry = record { uncounted = refl; unopened = refl; unasked = refl }

-- an association that was not opened can neither send nor end
unopened_sends : (L : Type 0) → IsTold {L = L} first (line.Send 1 (0x30 ∷ 0x00 ∷ []) ∷ []) (Bad 1)
unopened_sends L = refl

unopened_ends : (L : Type 0) → IsTold {L = L} first (line.At 86400 ∷ line.End 1 ∷ []) (Bad 2)
unopened_ends L = refl

-- without lines nothing is written down
no_lines : IsEnded first [] (beginning first)
no_lines = (beginning first, refl, refl)

-- and there is room
empty_has_room : (L : Type 0) → HasRoomTold {L = L} first (Ended (beginning first))
empty_has_room L = room_none first

-- where two entries may come there is no room for the first one, an opening, which asks for three places
abbrev narrow : AgentState
narrow = started nothing (record shipped { entries = 2 }) []

abbrev opening : Entry
opening = entry.Opened 1 (0x30 ∷ 0x00 ∷ [])

none_fits : (others : List Entry) → IsFilledAt narrow (opening ∷ others) 0
none_fits others = (
  omega arith,
  record { next = opening; others = others; begins = refl; room = room_none narrow; refused = refl },
)

none_fits_told : (L : Type 0)
    → HasRoomTold {L = L} narrow (Full (record { agent = narrow; journal = opening ∷ []; moment = 0 }) 0)
none_fits_told L = none_fits []

-- the first place is noted, and stays
first_noted : refused_then narrow 0 None opening ≡ Some 0
first_noted = refl

noted_stays : refused_then narrow 0 (Some 7) opening ≡ Some 7
noted_stays = refl
