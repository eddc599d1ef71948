-- JournalRoom: the places of a journal that are reserved for what has begun, the entries for which it has no room under
-- its limits of entries and of octets of its text, and the part of a journal before the first of these; docs/PROFILE.md,
-- section 7.
use Rattle.std.specs.Prelude.{◌≡◌, ℕ, ◌+◌, ◌-◌, ◌*◌, ◌&&◌, ◌||◌, Bool, true, false, List, ◌∷◌, ◌++◌, length, nat_lt, sum_by}
use Rattle.agent_model.specs.declared.agent_state.AgentState.{AgentState}
use Rattle.agent_model.specs.declared.agent_state.Association.{Association}
use Rattle.agent_model.specs.declared.agent_state.AssociationState.{AssociationState}
use Rattle.agent_model.specs.declared.agent_state.AssociationState.TheVariants as association
use Rattle.agent_model.specs.declared.agent_state.Operation.{Operation}
use Rattle.agent_model.specs.declared.agent_state.OperationState.{OperationState}
use Rattle.agent_model.specs.declared.agent_state.OperationState.TheVariants as operation
use Rattle.agent_model.specs.declared.entry.Entry.{Entry}
use Rattle.agent_model.specs.declared.entry.Entry.TheVariants as entry
use Rattle.agent_model.specs.Texts.{journal_text, line}
use Rattle.agent_model.specs.Journals.{replayed}

-- the entries that are still to come of an association: it is finished and closed
abbrev pub reserved_by_association : AssociationState → ℕ
reserved_by_association association.Live = 2
reserved_by_association association.Finished = 1
reserved_by_association (association.Closed why) = 0
reserved_by_association association.Overrun = 0

-- those of an operation: it is granted and committed
abbrev pub reserved_by_operation : OperationState → ℕ
reserved_by_operation operation.Waiting = 2
reserved_by_operation (operation.Granted moment) = 1
reserved_by_operation (operation.Ended place) = 0

abbrev pub reserved_by_associations : List Association → ℕ
reserved_by_associations associations = sum_by (λ (a : Association). reserved_by_association a.state) associations

abbrev pub reserved_by_operations : List Operation → ℕ
reserved_by_operations operations = sum_by (λ (o : Operation). reserved_by_operation o.state) operations

-- the places that are reserved in the journal
abbrev pub reserved : AgentState → ℕ
reserved agent = reserved_by_associations agent.associations + reserved_by_operations agent.operations

-- the places that an entry asks for: its own, and of an opening, of an arrival and of an append that begins the two that
-- are reserved for an association or an operation, also where there comes to be none; all other entries stand in places
-- reserved for them
abbrev pub places_asked : Entry → ℕ
places_asked (entry.Opened number bind) = 3
places_asked (entry.Arrived number apdu) = 3
places_asked (entry.Taken number count) = 1
places_asked (entry.Begun number log) = 3
places_asked (entry.Granted number moment) = 0
places_asked (entry.Committed number) = 0
places_asked (entry.Starved number) = 0
places_asked (entry.Finished number) = 0
places_asked (entry.Closed number cause) = 0

-- octets of the text that are reserved for the line of a place without an entry
abbrev pub octets_of_place : ℕ
octets_of_place = 64

-- the entries so far, the reserved places and these that are asked for pass the limit
abbrev pub passes_entries : AgentState → ℕ → Bool
passes_entries agent asked = nat_lt agent.limits.entries (agent.entries + reserved agent + asked)

-- the octets of the text so far, those of a line, and those of the reserved and of so many further places pass the limit
abbrev pub passes_text : AgentState → ℕ → List ℕ → ℕ → Bool
passes_text agent octets written further =
    nat_lt agent.limits.text (octets + length written + octets_of_place * (reserved agent + further))

-- an entry that asks for places is refused by an agent whose journal's text has so many octets; its own place has its
-- line
abbrev pub is_refused : AgentState → ℕ → Entry → Bool
is_refused agent octets next =
    nat_lt 0 (places_asked next)
    && (passes_entries agent (places_asked next) || passes_text agent octets (line next) (places_asked next - 1))

-- the entry is refused behind a journal of the agent
abbrev pub is_refused_behind : AgentState → List Entry → Entry → Bool
is_refused_behind agent before next = is_refused (replayed agent before) (length (journal_text before)) next

-- no entry of the journal is refused where it stands
abbrev pub HasRoom : AgentState → List Entry → Type 0
HasRoom agent journal =
    (before after : List Entry) (next : Entry) → journal ≡ before ++ next ∷ after
    → is_refused_behind agent before next ≡ false

-- the part of a journal up to the first entry that is refused, and without it
pub record IsFilled (agent : AgentState) (journal part : List Entry) : Type 0 where
  pub next : Entry
  pub others : List Entry
  pub begins : journal ≡ part ++ next ∷ others
  pub room : HasRoom agent part
  pub refused : is_refused_behind agent part next ≡ true
