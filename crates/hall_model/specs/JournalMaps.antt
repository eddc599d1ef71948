-- JournalMaps: the maps of objects along a journal. docs/PROFILE.md, sections 7 and 20.
use Rattle.std.specs.Prelude.{◌≡◌, ◌<◌, ◌+◌, ℕ, ℤ, List, [], ◌∷◌, ◌++◌, Bool, true, false, Some, length, take}
use Rattle.term_model.specs.declared.objects.NamedObject.{NamedObject}
use Rattle.term_model.specs.declared.request.Request.{Request}
use Rattle.term_model.specs.declared.schema.Set.{Set}
use Rattle.operation_model.specs.WholeOperation.{Outcome, outcome}
use Rattle.agent_model.specs.declared.agent_state.AgentState.{AgentState}
use Rattle.agent_model.specs.declared.agent_state.OperationState.TheVariants as operation
use Rattle.agent_model.specs.declared.agent_state.Work.{Work}
use Rattle.agent_model.specs.declared.agent_state.Work.TheVariants as work
use Rattle.agent_model.specs.declared.entry.Entry.{Entry}
use Rattle.agent_model.specs.declared.entry.Entry.TheVariants as entry
use Rattle.agent_model.specs.AgentState.{operation_of}
use Rattle.agent_model.specs.Journals.{replayed}
use Rattle.agent_model.specs.Stepping.{step}
use Rattle.lock_model.specs.declared.path.Wanted.{Wanted}
use Rattle.lock_model.specs.Units.{append_unit, request_unit}

-- the unit of an operation, before any map
abbrev pub work_unit : Set → Work → Wanted
work_unit schema (work.Asked association_ invoke asked) = request_unit schema asked
work_unit schema (work.Append log own) = append_unit schema log

-- the map after the entry at a place
abbrev pub map_after : AgentState → List Entry → ℕ → List NamedObject
map_after start journal place = (replayed start (take (place + 1) journal)).objects

abbrev pub is_commit : Entry → Bool
is_commit (entry.Committed number) = true
is_commit _ = false

-- only a commit changes the objects, and nothing the schema
abbrev pub OnlyCommitsChange : Type 0
OnlyCommitsChange = (agent : AgentState) (next : Entry) → is_commit next ≡ false
    → (step agent next).objects ≡ agent.objects

abbrev pub SchemaStays : Type 0
SchemaStays = (agent : AgentState) (next : Entry) → (step agent next).schema ≡ agent.schema

-- the commit of a request leaves what it does on the objects as they are
abbrev pub CommitDoes : Type 0
CommitDoes = (agent : AgentState) (number association_ : ℕ) (invoke : ℤ) (asked : Request) (moment : ℕ)
    (told : Outcome)
    → operation_of agent number
    ≡ Some (record { work = work.Asked association_ invoke asked; state = operation.Granted moment })
    → outcome agent.schema agent.objects asked moment ≡ Some told
    → (step agent (entry.Committed number)).objects ≡ told.objects

-- the map after an entry stays what it was, and after the last one it is the map as it is
abbrev pub PastStays : Type 0
PastStays = (start : AgentState) (journal : List Entry) (next : Entry) (place : ℕ) → place < length journal
    → map_after start (journal ++ next ∷ []) place ≡ map_after start journal place

abbrev pub PresentIsLast : Type 0
PresentIsLast = (start : AgentState) (journal : List Entry) (next : Entry)
    → map_after start (journal ++ next ∷ []) (length journal) ≡ (step (replayed start journal) next).objects
