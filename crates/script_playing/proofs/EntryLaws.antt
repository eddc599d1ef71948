-- What the entries of a line leave of an agent of which all was taken and every operation has ended.
use Rattle.std.proofs.Common.{◌≡◌, ℕ, ℤ, ◌+◌, ◌≤◌, Bool, true, false, List, [], ◌∷◌, ◌++◌, length, Option, Some, None}
use Rattle.std.proofs.Common.{refl, sym, ap, ◌∙◌, ⊎_elim, subst}
use Rattle.std.specs.Prelude.{◌==◌, ◌&&◌, nat_lt, if◌then◌else◌}
use Rattle.std.specs.Option.{option_map_or}
use Rattle.std.proofs.lemmas.Bool.{cases_Bool, false≢true, le-leb}
use Rattle.std.proofs.lemmas.List.Elements.{All-push}
use Rattle.std.proofs.lemmas.Option.{same_Some}
use Rattle.agent_model.specs.declared.agent_state.AgentState.{AgentState}
use Rattle.agent_model.specs.declared.agent_state.Association.{Association}
use Rattle.agent_model.specs.declared.agent_state.AssociationState.{AssociationState}
use Rattle.agent_model.specs.declared.agent_state.AssociationState.TheVariants as standing
use Rattle.agent_model.specs.declared.agent_state.Operation.{Operation}
use Rattle.agent_model.specs.declared.agent_state.OperationState.TheVariants as operation
use Rattle.agent_model.specs.declared.agent_state.Work.TheVariants as work
use Rattle.agent_model.specs.declared.entry.Entry.TheVariants as entry
use Rattle.term_model.specs.declared.request.Invocation.{Invocation}
use Rattle.agent_model.specs.AgentState.{association_of, is_closed_state, is_ended_state}
use Rattle.agent_model.specs.AgentState.{is_live_state, numbered, operation_of, outstanding}
use Rattle.term_model.specs.Arriving.{Arriving}
use Rattle.term_model.specs.Arriving.Arriving.{Rejected, Cancels, NoEffect, Queued}
use Rattle.agent_model.specs.Bind.{bind_answer, title_in}
use Rattle.term_model.specs.RemoteOperation.{frame, integer}
use Rattle.term_model.specs.SentApdus.{sent_reject}
use Rattle.agent_model.specs.Step.{changed_association, changed_operation, counted, ended, is_legal, last_moment}
use Rattle.agent_model.specs.Step.{no_such_invoke_id, queued}
use Rattle.agent_model.proofs.StandingLaws.{changed_last, numbered_last}
use Rattle.operation_model.specs.WholeOperation.{Outcome, outcome}
use Rattle.agent_model.specs.Binding.{accepted, answer_to, associated}
use Rattle.agent_model.specs.Performing.{frames_to, is_confirmed, with_own}
use Rattle.agent_model.specs.Placing.{placed_for}
use Rattle.agent_model.specs.Receiving.{received}
use Rattle.agent_model.specs.Stepping.{after_effect, performing, sent_error, step}
use Rattle.agent_model.proofs.PlacingLaws.{placed_for_keeps}
use Rattle.agent_model.proofs.StepLaws.{cancels_nothing_at, committed_at, granted_at, ignored_at, next_opens, opened_at}
use Rattle.agent_model.proofs.StepLaws.{queued_at, rejected_at, replies_after, silent_after, untold_after}
use Rattle.script_playing.specs.Ready.{AreTaken, HaveEnded, IsTaken}
use Rattle.script_playing.proofs.Standing.{changed_own}
use Rattle.script_playing.proofs.TakenLaws.{AreTakenBut, IsOpen, none_as, none_outstanding}
use Rattle.script_playing.proofs.TakenLaws.{changed_taken, placed_but, placed_ended, pushed_taken, taken_but}

-- all was taken, and every operation has ended
pub record IsIdle (agent : AgentState) : Type 0 where
  pub taken : AreTaken agent.associations
  pub ended : HaveEnded agent.operations

-- the same but for what is left of one association
pub record IsMidway (number : ℕ) (agent : AgentState) : Type 0 where
  pub but : AreTakenBut number agent.associations
  pub ended : HaveEnded agent.operations

pub idle_midway : (number : ℕ) (agent : AgentState) → IsIdle agent → IsMidway number agent
idle_midway number agent i = record { but = taken_but number agent.associations i.taken; ended = i.ended }

-- bytes are placed for an association that is open
placed_midway : (number : ℕ) (agent : AgentState) (bytes : List ℕ) → IsIdle agent → IsOpen number agent.associations
    → IsMidway number (counted (placed_for agent number bytes))
placed_midway number agent bytes i live = record {
  but = placed_but agent number bytes i.taken live;
  ended = placed_ended agent number bytes i.ended;
}

-- an association is opened
new_taken : (b : Bool) (one other : Association) → IsTaken one → IsTaken other → IsTaken (if b then one else other)
new_taken true one other h k = h
new_taken false one other h k = k

new_open : (b : Bool) (one other : Association) → is_closed_state one.state ≡ false
    → is_closed_state other.state ≡ false → is_closed_state (if b then one else other).state ≡ false
new_open true one other h k = h
new_open false one other h k = k

last_open : (xs : List Association) (a : Association) → is_closed_state a.state ≡ false
    → IsOpen (length xs + 1) (xs ++ a ∷ [])
last_open xs a live b e =
    subst (λ (c : Association). is_closed_state c.state ≡ false)
    (same_Some a b (sym (numbered_last xs a (length xs + 1) refl) ∙ e)) live

pub opened_midway : (agent : AgentState) (bind : List ℕ) → IsIdle agent
    → IsMidway (length agent.associations + 1) (step agent (entry.Opened (length agent.associations + 1) bind))
opened_midway agent bind i =
    let number = length agent.associations + 1 in
    let title = title_in bind in
    let answer = answer_to agent title in
    let a = associated answer title in
    let before = record agent { associations = agent.associations ++ a ∷ [] } in
    let idle : IsIdle before = record {
      taken = pushed_taken agent.associations a i.taken (new_taken (answer == accepted) _ _ refl refl);
      ended = i.ended;
    } in
    subst (IsMidway number) (sym (opened_at agent number bind (next_opens agent bind)))
    (placed_midway number before (frame (bind_answer answer number)) idle
    (last_open agent.associations a (new_open (answer == accepted) _ _ refl refl)))

-- an APDU comes of an association that is live
pub live_open : (state : AssociationState) → is_live_state state ≡ true → is_closed_state state ≡ false
live_open standing.Live h = refl
live_open standing.Finished h = absurd (false≢true h)
live_open (standing.Closed cause) h = absurd (false≢true h)
live_open standing.Overrun h = absurd (false≢true h)

pub found_live : (o : Option Association) → option_map_or (λ (a : Association). is_live_state a.state) o false ≡ true
    → (a : Association) × (o ≡ Some a) × (is_live_state a.state ≡ true)
found_live None h = absurd (false≢true h)
found_live (Some a) h = (a, refl, h)

pub found_open : (number : ℕ) (xs : List Association)
    → option_map_or (λ (a : Association). is_live_state a.state) (numbered xs number) false ≡ true → IsOpen number xs
found_open number xs h a e =
    live_open a.state (sym (ap (λ o. option_map_or (λ (b : Association). is_live_state b.state) o false) e) ∙ h)

few_outstanding : (o : Option Association) (count : ℕ) → count ≡ 0
    → option_map_or (λ (a : Association). is_live_state a.state) o false ≡ true
    → option_map_or (λ (a : Association). is_live_state a.state && nat_lt count 64) o false ≡ true
few_outstanding None count none h = h
few_outstanding (Some a) count none h = rw (h, none) refl

pub arrives_legal : (agent : AgentState) (number : ℕ) (apdu : List ℕ) → IsIdle agent
    → option_map_or (λ (a : Association). is_live_state a.state) (association_of agent number) false ≡ true
    → is_legal agent (entry.Arrived number apdu) ≡ true
arrives_legal agent number apdu i live =
    few_outstanding (association_of agent number) (outstanding agent number)
    (none_outstanding number agent.operations i.ended) live

-- it is answered at once, or it queues an operation
abbrev pub with_queued : AgentState → ℕ → Invocation → AgentState
with_queued agent number invocation =
    counted (record agent { operations = agent.operations ++ queued number invocation ∷ [] })

pub data Arrives (agent : AgentState) (number : ℕ) (after : AgentState) : Type 0 where
  answers : length after.operations ≡ length agent.operations → IsMidway number after → Arrives agent number after
  queues : (invocation : Invocation) → after ≡ with_queued agent number invocation → Arrives agent number after

arrived_placing : (agent : AgentState) (number : ℕ) (bytes : List ℕ) (after : AgentState) → IsIdle agent
    → IsOpen number agent.associations → after ≡ counted (placed_for agent number bytes) → Arrives agent number after
arrived_placing agent number bytes after i live is =
    subst (Arrives agent number) (sym is)
    (answers (placed_for_keeps agent number bytes).operations_count (placed_midway number agent bytes i live))

arrived_with : (agent : AgentState) (number : ℕ) (apdu : List ℕ) (brings : Arriving) → IsIdle agent
    → IsOpen number agent.associations → is_legal agent (entry.Arrived number apdu) ≡ true
    → received agent number apdu ≡ brings → Arrives agent number (step agent (entry.Arrived number apdu))
arrived_with agent number apdu (Rejected invoke kind problem) i live legal e =
    arrived_placing agent number (sent_reject invoke kind problem) (step agent (entry.Arrived number apdu)) i live
    (rejected_at agent number apdu invoke kind problem legal e)
arrived_with agent number apdu (Cancels id cancelled) i live legal e =
    arrived_placing agent number (sent_error id no_such_invoke_id (Some (integer cancelled)))
    (step agent (entry.Arrived number apdu)) i live
    (cancels_nothing_at agent number apdu id cancelled legal e (none_as number cancelled agent.operations i.ended))
arrived_with agent number apdu NoEffect i live legal e =
    subst (Arrives agent number) (sym (ignored_at agent number apdu legal e))
    (answers refl (record { but = taken_but number agent.associations i.taken; ended = i.ended }))
arrived_with agent number apdu (Queued invocation) i live legal e =
    queues invocation (queued_at agent number apdu invocation legal e)

pub arrived : (agent : AgentState) (number : ℕ) (apdu : List ℕ) → IsIdle agent
    → option_map_or (λ (a : Association). is_live_state a.state) (association_of agent number) false ≡ true
    → Arrives agent number (step agent (entry.Arrived number apdu))
arrived agent number apdu i live =
    arrived_with agent number apdu (received agent number apdu) i (found_open number agent.associations live)
    (arrives_legal agent number apdu i live) refl

-- the operation that was queued is granted
abbrev pub granted : ℕ → Invocation → ℕ → Operation
granted number invocation moment = record (queued number invocation) { state = operation.Granted moment }

abbrev pub with_granted : AgentState → ℕ → Invocation → ℕ → AgentState
with_granted agent number invocation moment =
    counted (counted (record agent { operations = agent.operations ++ granted number invocation moment ∷ [] }))

pub grants_legal : (agent : AgentState) (number : ℕ) (invocation : Invocation) (moment : ℕ) → moment ≤ last_moment
    → is_legal (with_queued agent number invocation) (entry.Granted (length agent.operations + 1) moment) ≡ true
grants_legal agent number invocation moment within =
    rw (
      numbered_last agent.operations (queued number invocation) (length agent.operations + 1) refl,
      le-leb moment last_moment within,
    ) refl

pub granted_to : (agent : AgentState) (number : ℕ) (invocation : Invocation) (moment : ℕ) → moment ≤ last_moment
    → step (with_queued agent number invocation) (entry.Granted (length agent.operations + 1) moment)
    ≡ with_granted agent number invocation moment
granted_to agent number invocation moment within =
    let last = length agent.operations + 1 in
    granted_at (with_queued agent number invocation) last moment (grants_legal agent number invocation moment within)
    ∙ ap (λ xs. counted (counted (record agent { operations = xs })))
    (changed_last agent.operations (queued number invocation) last (operation.Granted moment) refl)

-- and committed
ended_idle : (agent : AgentState) (ops : List Operation) (o : Operation) → AreTaken agent.associations → HaveEnded ops
    → agent.operations ≡ ops ++ o ∷ [] → IsIdle (ended agent (length ops + 1))
ended_idle agent ops o taken all is =
    let last = record o { state = operation.Ended agent.entries } in
    record {
      taken = taken;
      ended = subst HaveEnded
          (sym (ap (λ xs. changed_operation xs (length ops + 1) (operation.Ended agent.entries)) is
          ∙ changed_last ops o (length ops + 1) (operation.Ended agent.entries) refl))
          (All-push (λ (p : Operation). is_ended_state p.state ≡ true) ops last all refl);
    }

own_taken : (xs : List Association) (number : ℕ) (own : ℤ) (a : Association) → AreTaken xs → numbered xs number ≡ Some a
    → AreTaken (changed_association xs number (with_own own))
own_taken xs number own a taken there =
    changed_taken number xs (with_own own) a (taken_but number xs taken) there (taken number a there)

own_open : (xs : List Association) (number : ℕ) (own : ℤ) (a : Association) → numbered xs number ≡ Some a
    → is_closed_state a.state ≡ false → IsOpen number (changed_association xs number (with_own own))
own_open xs number own a there live b e =
    subst (λ (c : Association). is_closed_state c.state ≡ false)
    (same_Some (with_own own a) b (sym (changed_own xs number (with_own own) a there) ∙ e)) live

counted_idle : (agent : AgentState) → IsIdle agent → IsIdle (counted agent)
counted_idle agent i = record { taken = i.taken; ended = i.ended }

-- an agent whose last operation is granted, which an association asked for that is not closed
pub record IsGranting (agent : AgentState) (before : List Operation) (number : ℕ) (invocation : Invocation) (moment : ℕ)
    : Type 0 where
  pub taken : AreTaken agent.associations
  pub ended : HaveEnded before
  pub last : agent.operations ≡ before ++ granted number invocation moment ∷ []
  pub association : Association
  pub there : association_of agent number ≡ Some association
  pub live : is_closed_state association.state ≡ false

module _ (agent : AgentState) (before : List Operation) (number : ℕ) (invocation : Invocation) (moment : ℕ)
    (g : IsGranting agent before number invocation moment) where
  abbrev place : ℕ
  place = length before + 1

  over_idle : (other : AgentState) → AreTaken other.associations → other.operations ≡ agent.operations
      → IsIdle (ended other place)
  over_idle other taken same =
      ended_idle other before (granted number invocation moment) taken g.ended (same ∙ g.last)

  silent_midway : (other : AgentState) → other.associations ≡ agent.associations
      → other.operations ≡ agent.operations → IsMidway number (counted (ended other place))
  silent_midway other same alike =
      let taken = subst AreTaken (sym same) g.taken in
      idle_midway number (counted (ended other place))
      (counted_idle (ended other place) (over_idle other taken alike))

  replies_midway : (told : Outcome) → outcome agent.schema agent.objects invocation.request moment ≡ Some told
      → is_confirmed invocation.request ≡ true
      → IsMidway number
      (after_effect (performing agent place (work.Asked number invocation.id invocation.request) moment))
  replies_midway told is confirmed =
      let frames = frames_to invocation.id invocation.request told.replies g.association in
      let xs = changed_association agent.associations number (with_own frames.own) in
      let next = record agent { objects = told.objects; associations = xs } in
      let taken = own_taken agent.associations number frames.own g.association g.taken g.there in
      subst (IsMidway number)
      (sym (replies_after agent place number invocation.id invocation.request moment told g.association is confirmed
      g.there))
      (placed_midway number (ended next place) frames.octets (over_idle next taken refl)
      (own_open agent.associations number frames.own g.association g.there g.live))

  by_outcome : (q : Option Outcome) → outcome agent.schema agent.objects invocation.request moment ≡ q
      → IsMidway number
      (after_effect (performing agent place (work.Asked number invocation.id invocation.request) moment))
  by_outcome None e =
      subst (IsMidway number) (sym (untold_after agent place number invocation.id invocation.request moment e))
      (silent_midway agent refl refl)
  by_outcome (Some told) e =
      ⊎_elim
      (λ (c : is_confirmed invocation.request ≡ true). replies_midway told e c)
      (λ (c : is_confirmed invocation.request ≡ false).
      subst (IsMidway number) (sym (silent_after agent place number invocation.id invocation.request moment told e c))
      (silent_midway (record agent { objects = told.objects }) refl refl))
      (cases_Bool (is_confirmed invocation.request))

  pub granting_at : operation_of agent (length before + 1) ≡ Some (granted number invocation moment)
  granting_at =
      ap (λ xs. numbered xs place) g.last ∙ numbered_last before (granted number invocation moment) place refl

  pub committed_midway : IsMidway number (step agent (entry.Committed (length before + 1)))
  committed_midway =
      subst (IsMidway number)
      (sym (committed_at agent place moment (granted number invocation moment) granting_at refl))
      (by_outcome (outcome agent.schema agent.objects invocation.request moment) refl)
