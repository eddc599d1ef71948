-- JournalSound: what holds of the operations that are not ended, along a journal. docs/PROFILE.md, section 20.
use Rattle.std.specs.Prelude.{◌≡◌, ◌≢◌, ◌<◌, ◌⊎◌, ◌+◌, ℕ, ℤ, List, [], ◌∷◌, ◌++◌, false, true, Contains}
use Rattle.std.specs.Prelude.{None, Some, length, slice_get}
use Rattle.term_model.specs.declared.objects.NamedObject.{NamedObject}
use Rattle.term_model.specs.declared.request.Request.{Request}
use Rattle.operation_model.specs.WholeOperation.{Outcome, outcome}
use Rattle.agent_model.specs.declared.agent_state.AgentState.{AgentState}
use Rattle.agent_model.specs.declared.agent_state.OperationState.TheVariants as operation
use Rattle.agent_model.specs.declared.agent_state.Work.TheVariants as work
use Rattle.agent_model.specs.declared.entry.Entry.{Entry}
use Rattle.agent_model.specs.declared.entry.Entry.TheVariants as entry
use Rattle.agent_model.specs.AgentState.{operation_of}
use Rattle.agent_model.specs.Journals.{replayed}
use Rattle.agent_model.specs.Stepping.{step}
use Rattle.lock_model.specs.declared.lock_name.LockName.{LockName}
use Rattle.lock_model.specs.declared.lock_name.Mode.{Mode}
use Rattle.lock_model.specs.LockPath.{goes_with}
use Rattle.lock_model.specs.Units.{request_unit}
use Rattle.lock_model.specs.OperationLaws.{AreShort, KeepsToUnit}
use Rattle.lock_model.specs.Invariant.{AreSound, Row, held_of, path_of, taken_row}
use Rattle.hall_model.specs.JournalMaps.{is_commit, map_after, work_unit}

-- the rows are sound on the map as it is, with the maps after the entries of the journal; those granted have their
-- Granted entry in it
pub record IsSoundJournal (start : AgentState) (journal : List Entry) (rows : List Row) : Type 0 where
  pub sound : AreSound start.schema (map_after start journal) (replayed start journal).objects rows
  pub places : (row : Row) (place : ℕ) → Contains rows row → row.granted ≡ Some place → place < length journal

-- an entry that is neither a commit nor the grant of a last place: rows go on, end (with Arrived of a cancel, Starved
-- and Closed), or begin with nothing held (with Arrived of a request, and Begun)
abbrev pub OtherEntryKeeps : Type 0
OtherEntryKeeps = (start : AgentState) (journal : List Entry) (rows left : List Row) (next : Entry)
    → IsSoundJournal start journal rows → is_commit next ≡ false
    → ((other : Row) → Contains left other → Contains rows other
    ⊎ ((other.held ≡ 0) × (other.granted ≡ None)
    × (0 < length (path_of start.schema (replayed start journal).objects other))))
    → IsSoundJournal start (journal ++ next ∷ []) left

-- the grant of the last place, whose entry stands at the end
abbrev pub GrantedEntryKeeps : Type 0
GrantedEntryKeeps = (start : AgentState) (journal : List Entry) (rows left : List Row) (row : Row) (moment : ℕ)
    (last : LockName × Mode)
    → IsSoundJournal start journal rows → Contains rows row
    → slice_get (path_of start.schema (replayed start journal).objects row) row.held ≡ Some last
    → row.held + 1 ≡ length (path_of start.schema (replayed start journal).objects row)
    → ((other : Row) → Contains rows other → other.op ≢ row.op → (mode : Mode)
    → Contains (held_of start.schema (replayed start journal).objects other) (last.0, mode)
    → goes_with mode last.1 ≡ true)
    → ((other : Row) → Contains left other
    → (other ≡ taken_row row (Some (length journal))) ⊎ (Contains rows other × (other.op ≢ row.op)))
    → IsSoundJournal start (journal ++ entry.Granted row.op moment ∷ []) left

-- the commit of an operation that keeps to its unit; further rows may end with it
abbrev pub CommittedEntryKeeps : Type 0
CommittedEntryKeeps = (start : AgentState) (journal : List Entry) (rows left : List Row) (row : Row) (place : ℕ)
    (does : List NamedObject → Outcome)
    → IsSoundJournal start journal rows → Contains rows row → row.granted ≡ Some place
    → KeepsToUnit start.schema row.whole does
    → (step (replayed start journal) (entry.Committed row.op)).objects
    ≡ (does (replayed start journal).objects).objects
    → AreShort (does (replayed start journal).objects).objects
    → ((other : Row) → Contains left other → Contains rows other × (other.op ≢ row.op))
    → IsSoundJournal start (journal ++ entry.Committed row.op ∷ []) left

-- the same of a request, by its outcome
abbrev pub CommittedRequestKeeps : Type 0
CommittedRequestKeeps = (start : AgentState) (journal : List Entry) (rows left : List Row) (row : Row)
    (place association_ : ℕ) (invoke : ℤ) (asked : Request) (moment : ℕ) (does : List NamedObject → Outcome)
    → IsSoundJournal start journal rows → Contains rows row → row.granted ≡ Some place
    → row.whole ≡ work_unit start.schema (work.Asked association_ invoke asked)
    → operation_of (replayed start journal) row.op
    ≡ Some (record { work = work.Asked association_ invoke asked; state = operation.Granted moment })
    → KeepsToUnit start.schema (request_unit start.schema asked) does
    → outcome start.schema (replayed start journal).objects asked moment
    ≡ Some (does (replayed start journal).objects)
    → AreShort (does (replayed start journal).objects).objects
    → ((other : Row) → Contains left other → Contains rows other × (other.op ≢ row.op))
    → IsSoundJournal start (journal ++ entry.Committed row.op ∷ []) left
