-- Acceptors and what listens, in memory. Calls have numbers, 0 the first; one with a listed number fails.
use Rattle.std.specs.Prelude.{◌≡◌, ℕ, ◌<◌, ◌-◌, ◌^◌, List, [], Contains, length}
use Rattle.agent_bytes.specs.Memory.{SourceState, SinkState, FilesState}
use Rattle.agent_links.specs.Sessions.{Session}

-- the halves of a session
abbrev pub Halves : Type 0
Halves = SourceState × SinkState

-- they have no fault so far
abbrev pub IsFresh : Halves → Type 0
IsFresh halves = (halves.0.faults ≡ 0) × (halves.1.faults ≡ 0)

-- what is told of a session
abbrev pub session_of : Halves → Session
session_of halves = record { given = halves.0.left; written = halves.1.written }

-- an acceptor in memory
pub record AcceptorState : Type 0 where
  -- the sessions that are left
  pub sessions : List Halves
  -- the numbers of the calls of `next` that are to fail
  pub failing : List ℕ
  -- what its clock shows
  pub seconds : ℕ
  -- how many calls of `next` there were, and how many of them failed
  pub calls : ℕ
  pub faults : ℕ

-- the next call of `next` fails: its number is listed, and a session is left
abbrev pub NextFails : AcceptorState → Type 0
NextFails acceptor = Contains acceptor.failing acceptor.calls × (0 < length acceptor.sessions)

-- files, and what listens, in memory
pub record FactoryState : Type 0 where
  pub files : FilesState
  -- the sessions that come
  pub sessions : List Halves
  -- the numbers of the calls of `listen` that are to fail, and those of each acceptor's calls of `next`
  pub failing : List ℕ
  pub failing_next : List ℕ
  -- what the clock shows
  pub seconds : ℕ
  -- how many calls of `listen` there were, and how many of them failed
  pub calls : ℕ
  pub faults : ℕ

-- the halves of a session past the end of the list: no bytes are left, and no room
abbrev pub silent_halves : Halves
silent_halves = (
  record { left = []; turn = 2 ^ 64 - 1; failing = []; calls = 0; faults = 0 },
  record { written = []; room = 0; turn = 2 ^ 64 - 1; failing = []; calls = 0; faults = 0 },
)
