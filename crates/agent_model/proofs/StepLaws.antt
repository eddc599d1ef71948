-- What a legal entry does, where the associations and operations that it speaks of stand in the state.
use Rattle.std.proofs.Common.{◌≡◌, ℕ, ◌+◌, Bool, true, false, List, [], ◌∷◌, ◌++◌, length, Option, Some, None}
use Rattle.std.proofs.Common.{refl, ap, ◌∙◌, arith}
use Rattle.std.specs.Prelude.{ℤ, ◌&&◌, ◌==◌, if◌then◌else◌, is_some, map, nat_le, option_and_then, position, slice_get}
use Rattle.std.specs.Option.{option_map_or}
use Rattle.std.proofs.lemmas.Bool.{and_parts, eq-eqb, eqb-true, le-leb}
use Rattle.agent_model.specs.declared.agent_state.AgentState.{AgentState}
use Rattle.agent_model.specs.declared.agent_state.Association.{Association}
use Rattle.agent_model.specs.declared.agent_state.AssociationState.TheVariants as standing
use Rattle.agent_model.specs.declared.agent_state.Operation.{Operation}
use Rattle.agent_model.specs.declared.agent_state.OperationState.TheVariants as operation
use Rattle.agent_model.specs.declared.agent_state.Work.TheVariants as work
use Rattle.agent_model.specs.declared.entry.Entry.{Entry}
use Rattle.agent_model.specs.declared.entry.Entry.TheVariants as entry
use Rattle.agent_model.specs.declared.entry.Why.{Why}
use Rattle.agent_model.specs.declared.entry.Why.TheVariants as why
use Rattle.term_model.specs.declared.objects.NamedObject.{NamedObject}
use Rattle.term_model.specs.declared.request.Invocation.{Invocation}
use Rattle.term_model.specs.declared.request.Request.{Request}
use Rattle.agent_model.specs.AgentState.{association_of, granted_moment, is_finished_state, is_waiting_state}
use Rattle.agent_model.specs.AgentState.{left_to_take, numbered}
use Rattle.agent_model.specs.AgentState.{operation_of, outstanding}
use Rattle.term_model.specs.Arriving.Arriving.{Rejected, Cancels, NoEffect, Queued}
use Rattle.agent_model.specs.Bind.{bind_answer, title_in}
use Rattle.term_model.specs.RemoteOperation.{frame, integer}
use Rattle.term_model.specs.SentApdus.{sent_reject}
use Rattle.agent_model.specs.Step.{changed_association, changed_operation, counted, ended, ended_with, is_get, is_legal}
use Rattle.agent_model.specs.Step.{is_outstanding_as, last_moment, may_close, may_take, mistyped_operation}
use Rattle.agent_model.specs.Step.{no_such_invoke_id, queued, with_state, with_taken}
use Rattle.agent_model.proofs.StandingLaws.{changed_operation_at, ground_of, none_ended, numbered_set, stands_where_passed}
use Rattle.operation_model.specs.WholeOperation.{Outcome, outcome}
use Rattle.agent_model.specs.Binding.{answer_to, associated}
use Rattle.agent_model.specs.Performing.{frames_to, is_confirmed, nothing_sent, with_own}
use Rattle.agent_model.specs.Placing.{placed, placed_for}
use Rattle.agent_model.specs.Receiving.{received}
use Rattle.agent_model.specs.Stepping.{after_effect, cancelled_at, cancelled_where, cancelling, effect}
use Rattle.agent_model.specs.Stepping.{performing, sending_to, sent_error, step, taken_in}
use Rattle.agent_model.proofs.KeepingLaws.{CommitsNone, effect_same, placed_same, plain_same}
use Rattle.agent_model.proofs.PlacingLaws.{placed_none, placed_one}

-- a legal entry does what it does, and is counted
pub step_legal : (agent : AgentState) (next : Entry) → is_legal agent next ≡ true
    → step agent next ≡ after_effect (effect agent next)
unfolding step
step_legal agent next h = rw h refl

-- where nothing is sent nothing is placed, and where one association is sent bytes they are placed for it
pub after_nothing : (agent : AgentState) → after_effect (nothing_sent agent) ≡ counted agent
after_nothing agent = ap counted (placed_none agent)

pub after_sending : (number : ℕ) (bytes : List ℕ) (agent : AgentState)
    → after_effect (sending_to number bytes agent) ≡ counted (placed_for agent number bytes)
after_sending number bytes agent = ap counted (placed_one agent number bytes)

-- a legal entry whose effect is known
step_silent : (agent : AgentState) (next : Entry) (after : AgentState) → is_legal agent next ≡ true
    → effect agent next ≡ nothing_sent after → step agent next ≡ counted after
step_silent agent next after legal does = step_legal agent next legal ∙ (ap after_effect does ∙ after_nothing after)

step_sends : (agent : AgentState) (next : Entry) (number : ℕ) (bytes : List ℕ) (after : AgentState)
    → is_legal agent next ≡ true → effect agent next ≡ sending_to number bytes after
    → step agent next ≡ counted (placed_for after number bytes)
step_sends agent next number bytes after legal does =
    step_legal agent next legal ∙ (ap after_effect does ∙ after_sending number bytes after)

-- an association is opened, and its answer is placed
pub next_opens : (agent : AgentState) (bind : List ℕ)
    → is_legal agent (entry.Opened (length agent.associations + 1) bind) ≡ true
next_opens agent bind = eq-eqb (length agent.associations + 1) (length agent.associations + 1) refl

pub opened_at : (agent : AgentState) (number : ℕ) (bind : List ℕ) → is_legal agent (entry.Opened number bind) ≡ true
    → step agent (entry.Opened number bind) ≡ counted (placed_for (record agent {
      associations =
          agent.associations ++ associated (answer_to agent (title_in bind)) (title_in bind) ∷ [];
    }) number (frame (bind_answer (answer_to agent (title_in bind)) number)))
opened_at agent number bind legal = step_sends agent (entry.Opened number bind) number _ _ legal refl

-- an APDU comes, by what it brings
pub rejected_at : (agent : AgentState) (number : ℕ) (apdu : List ℕ) (invoke : Option ℤ) (kind : ℕ) (problem : ℤ)
    → is_legal agent (entry.Arrived number apdu) ≡ true → received agent number apdu ≡ Rejected invoke kind problem
    → step agent (entry.Arrived number apdu) ≡ counted (placed_for agent number (sent_reject invoke kind problem))
rejected_at agent number apdu invoke kind problem legal brings =
    step_sends agent (entry.Arrived number apdu) number (sent_reject invoke kind problem) agent legal
    (ap (taken_in agent number) brings)

pub ignored_at : (agent : AgentState) (number : ℕ) (apdu : List ℕ) → is_legal agent (entry.Arrived number apdu) ≡ true
    → received agent number apdu ≡ NoEffect → step agent (entry.Arrived number apdu) ≡ counted agent
ignored_at agent number apdu legal brings =
    step_silent agent (entry.Arrived number apdu) agent legal (ap (taken_in agent number) brings)

pub queued_at : (agent : AgentState) (number : ℕ) (apdu : List ℕ) (invocation : Invocation)
    → is_legal agent (entry.Arrived number apdu) ≡ true → received agent number apdu ≡ Queued invocation
    → step agent (entry.Arrived number apdu) ≡ counted
    (record agent { operations = agent.operations ++ queued number invocation ∷ [] })
queued_at agent number apdu invocation legal brings =
    step_silent agent (entry.Arrived number apdu) _ legal (ap (taken_in agent number) brings)

-- m-Cancel-Get, where no operation has the invoke id that it names
pub cancels_nothing_at : (agent : AgentState) (number : ℕ) (apdu : List ℕ) (id cancelled : ℤ)
    → is_legal agent (entry.Arrived number apdu) ≡ true → received agent number apdu ≡ Cancels id cancelled
    → position (is_outstanding_as number cancelled) agent.operations ≡ None
    → step agent (entry.Arrived number apdu) ≡ counted
    (placed_for agent number (sent_error id no_such_invoke_id (Some (integer cancelled))))
cancels_nothing_at agent number apdu id cancelled legal brings absent =
    step_sends agent (entry.Arrived number apdu) number _ agent legal
    (ap (taken_in agent number) brings ∙ ap (cancelled_where agent number id cancelled) absent)

-- and where one has it, a Get or another
cancels_at : (agent : AgentState) (number : ℕ) (apdu : List ℕ) (id cancelled : ℤ) (index : ℕ) (o : Operation)
    → received agent number apdu ≡ Cancels id cancelled
    → position (is_outstanding_as number cancelled) agent.operations ≡ Some index
    → slice_get agent.operations index ≡ Some o
    → effect agent (entry.Arrived number apdu) ≡ cancelled_at agent number id cancelled index o
cancels_at agent number apdu id cancelled index o brings there is =
    ap (taken_in agent number) brings
    ∙ (ap (cancelled_where agent number id cancelled) there
    ∙ ap (λ q. option_map_or (cancelled_at agent number id cancelled index) q (nothing_sent agent)) is)

pub cancels_get_at : (agent : AgentState) (number : ℕ) (apdu : List ℕ) (id cancelled : ℤ) (index : ℕ) (o : Operation)
    → is_legal agent (entry.Arrived number apdu) ≡ true → received agent number apdu ≡ Cancels id cancelled
    → position (is_outstanding_as number cancelled) agent.operations ≡ Some index
    → slice_get agent.operations index ≡ Some o → is_get o.work ≡ true
    → step agent (entry.Arrived number apdu) ≡ counted
    (placed_for (ended agent (index + 1)) number (cancelling id cancelled))
cancels_get_at agent number apdu id cancelled index o legal brings there is get =
    step_sends agent (entry.Arrived number apdu) number (cancelling id cancelled) (ended agent (index + 1)) legal
    (cancels_at agent number apdu id cancelled index o brings there is ∙ rw get refl)

pub cancels_other_at : (agent : AgentState) (number : ℕ) (apdu : List ℕ) (id cancelled : ℤ) (index : ℕ) (o : Operation)
    → is_legal agent (entry.Arrived number apdu) ≡ true → received agent number apdu ≡ Cancels id cancelled
    → position (is_outstanding_as number cancelled) agent.operations ≡ Some index
    → slice_get agent.operations index ≡ Some o → is_get o.work ≡ false
    → step agent (entry.Arrived number apdu) ≡ counted
    (placed_for agent number (sent_error id mistyped_operation None))
cancels_other_at agent number apdu id cancelled index o legal brings there is other =
    step_sends agent (entry.Arrived number apdu) number (sent_error id mistyped_operation None) agent legal
    (cancels_at agent number apdu id cancelled index o brings there is ∙ rw other refl)

-- an operation is granted
pub granted_at : (agent : AgentState) (number moment : ℕ) → is_legal agent (entry.Granted number moment) ≡ true
    → step agent (entry.Granted number moment) ≡ counted (record agent {
      operations =
          changed_operation agent.operations number (operation.Granted moment);
    })
granted_at agent number moment legal = step_silent agent (entry.Granted number moment) _ legal refl

-- after its grant it is granted
pub granted_then : (agent : AgentState) (number moment : ℕ) → is_legal agent (entry.Granted number moment) ≡ true
    → option_and_then (λ (o : Operation). granted_moment o.state)
    (operation_of (step agent (entry.Granted number moment)) number) ≡ Some moment
granted_then agent number moment legal =
    let p = stands_where_passed (λ (o : Operation). is_waiting_state o.state && nat_le moment last_moment)
    agent.operations number legal in
    let o = p.0 in
    let s = p.1 in
    let there : operation_of (step agent (entry.Granted number moment)) number ≡ Some
    (record o { state = operation.Granted moment }) =
    ap (λ (after : AgentState). operation_of after number) (granted_at agent number moment legal)
    ∙ (ap (λ xs. numbered xs number) (changed_operation_at agent.operations number (operation.Granted moment) o s.there)
    ∙ numbered_set agent.operations number (record o { state = operation.Granted moment }) s.positive s.within) in
    ap (λ q. option_and_then (λ (b : Operation). granted_moment b.state) q) there

-- a granted operation is carried out
pub commits_granted : (agent : AgentState) (number moment : ℕ) (o : Operation) → operation_of agent number ≡ Some o
    → granted_moment o.state ≡ Some moment → is_legal agent (entry.Committed number) ≡ true
commits_granted agent number moment o is at =
    ap (λ q. option_map_or (λ (p : Operation). is_some (granted_moment p.state)) q false) is ∙ ap (λ m. is_some m) at

pub committed_at : (agent : AgentState) (number moment : ℕ) (o : Operation) → operation_of agent number ≡ Some o
    → granted_moment o.state ≡ Some moment
    → step agent (entry.Committed number) ≡ after_effect (performing agent number o.work moment)
committed_at agent number moment o is at =
    step_legal agent (entry.Committed number) (commits_granted agent number moment o is at)
    ∙ (ap (λ q. after_effect (option_map_or (λ (p : Operation).
    option_map_or (performing agent number p.work) (granted_moment p.state) (nothing_sent agent)) q
    (nothing_sent agent))) is
    ∙ ap (λ m. after_effect (option_map_or (performing agent number o.work) m (nothing_sent agent))) at)

-- a request that asks for replies, one that asks for none, and one of which the definition says nothing
abbrev pub with_objects : AgentState → Outcome → AgentState
with_objects agent told = record agent { objects = told.objects }

pub replies_after : (agent : AgentState) (number to : ℕ) (invoke : ℤ) (asked : Request) (moment : ℕ) (told : Outcome)
    (a : Association)
    → outcome agent.schema agent.objects asked moment ≡ Some told → is_confirmed asked ≡ true
    → association_of agent to ≡ Some a
    → after_effect (performing agent number (work.Asked to invoke asked) moment) ≡ counted (placed_for (ended (record
    (with_objects agent told) {
      associations = changed_association agent.associations to (with_own (frames_to invoke asked told.replies a).own);
    }) number) to (frames_to invoke asked told.replies a).octets)
replies_after agent number to invoke asked moment told a is confirmed there =
    rw (is, confirmed, there) (after_sending to (frames_to invoke asked told.replies a).octets (ended (record
    (with_objects agent told) {
      associations = changed_association agent.associations to (with_own (frames_to invoke asked told.replies a).own);
    }) number))

pub silent_after : (agent : AgentState) (number to : ℕ) (invoke : ℤ) (asked : Request) (moment : ℕ) (told : Outcome)
    → outcome agent.schema agent.objects asked moment ≡ Some told → is_confirmed asked ≡ false
    → after_effect (performing agent number (work.Asked to invoke asked) moment) ≡ counted
    (ended (with_objects agent told) number)
silent_after agent number to invoke asked moment told is unconfirmed =
    rw (is, unconfirmed) (after_nothing (ended (with_objects agent told) number))

pub untold_after : (agent : AgentState) (number to : ℕ) (invoke : ℤ) (asked : Request) (moment : ℕ)
    → outcome agent.schema agent.objects asked moment ≡ None
    → after_effect (performing agent number (work.Asked to invoke asked) moment) ≡ counted (ended agent number)
untold_after agent number to invoke asked moment is = rw is (after_nothing (ended agent number))

-- bytes are taken
pub taken_where_legal : (agent : AgentState) (number count : ℕ) → is_legal agent (entry.Taken number count) ≡ true
    → step agent (entry.Taken number count) ≡ counted
    (record agent { associations = changed_association agent.associations number (with_taken count) })
taken_where_legal agent number count legal = step_silent agent (entry.Taken number count) _ legal refl

-- an association is finished, and closed
pub finished_at : (agent : AgentState) (number : ℕ) → is_legal agent (entry.Finished number) ≡ true
    → step agent (entry.Finished number) ≡ counted (record agent {
      associations =
          changed_association agent.associations number (with_state standing.Finished);
    })
finished_at agent number legal = step_silent agent (entry.Finished number) _ legal refl

pub closed_at : (agent : AgentState) (number : ℕ) (cause : Why) → is_legal agent (entry.Closed number cause) ≡ true
    → step agent (entry.Closed number cause) ≡ counted (record agent {
      associations = changed_association agent.associations number (with_state (standing.Closed cause));
      operations = map (ended_with number agent.entries) agent.operations;
    })
closed_at agent number cause legal = step_silent agent (entry.Closed number cause) _ legal refl

-- at a regular end none of the association's operations is outstanding, so that none is ended by it
idle_at_end : (agent : AgentState) (number : ℕ) (a : Association) → may_close agent number why.End a ≡ true
    → outstanding agent number ≡ 0
idle_at_end agent number a h =
    let p = and_parts (is_finished_state a.state && outstanding agent number == 0) (left_to_take a == 0) h in
    let q = and_parts (is_finished_state a.state) (outstanding agent number == 0) p.0 in
    eqb-true (outstanding agent number) 0 q.1

pub closed_at_end : (agent : AgentState) (number : ℕ) → is_legal agent (entry.Closed number why.End) ≡ true
    → step agent (entry.Closed number why.End) ≡ counted (record agent {
      associations =
          changed_association agent.associations number (with_state (standing.Closed why.End));
    })
closed_at_end agent number legal =
    let p = stands_where_passed (may_close agent number why.End) agent.associations number legal in
    closed_at agent number why.End legal
    ∙ ap (λ xs. counted (record agent {
      associations = changed_association agent.associations number (with_state (standing.Closed why.End));
      operations = xs;
    }))
    (none_ended number agent.entries agent.operations (idle_at_end agent number p.0 p.2))

-- all that is left, where something is left, may be taken
pub takes_what_is_left : (agent : AgentState) (number count : ℕ) (a : Association)
    → association_of agent number ≡ Some a → left_to_take a ≡ count → (count ≡ 0 → ⊥)
    → is_legal agent (entry.Taken number count) ≡ true
takes_what_is_left agent number count a is left some =
    let all : may_take count count ≡ true = rw (eq-eqb count count refl, le-leb 1 count (omega arith)) refl in
    ap (λ o. option_map_or (λ (b : Association). may_take count (left_to_take b)) o false) is
    ∙ (ap (λ n. may_take count n) left ∙ all)

pub taken_at : (agent : AgentState) (number count : ℕ) (a : Association) → association_of agent number ≡ Some a
    → left_to_take a ≡ count → (count ≡ 0 → ⊥)
    → step agent (entry.Taken number count) ≡ counted
    (record agent { associations = changed_association agent.associations number (with_taken count) })
taken_at agent number count a is left some =
    taken_where_legal agent number count (takes_what_is_left agent number count a is left some)

-- a fact that depends on no association, operation or object is what it was
module _ {T : Type 0} (fact : AgentState → T)
    (by_associations : (agent : AgentState) (associations : List Association)
    → fact (record agent { associations = associations }) ≡ fact agent)
    (by_operations : (agent : AgentState) (operations : List Operation)
    → fact (record agent { operations = operations }) ≡ fact agent)
    (by_objects : (agent : AgentState) (objects : List NamedObject)
    → fact (record agent { objects = objects }) ≡ fact agent) where
  any_effect : (agent : AgentState) (next : Entry) → fact (effect agent next).agent ≡ fact agent
  any_effect agent (entry.Opened number bind) =
      by_associations agent (agent.associations ++ associated (answer_to agent (title_in bind)) (title_in bind) ∷ [])
  any_effect agent next =
      effect_same fact (λ s number change. by_associations s (changed_association s.associations number change))
      by_operations by_objects agent next tt

  pub any_placed : (agent : AgentState) (next : Entry)
      → fact (placed (effect agent next).agent (effect agent next).sent) ≡ fact agent
  any_placed agent next =
      placed_same fact (λ s number change. by_associations s (changed_association s.associations number change))
      by_operations (effect agent next).agent (effect agent next).sent
      ∙ any_effect agent next

-- a legal entry is one entry more
pub legal_counts : (agent : AgentState) (next : Entry) → is_legal agent next ≡ true
    → (step agent next).entries ≡ agent.entries + 1
legal_counts agent next legal =
    ap (λ (s : AgentState). s.entries) (step_legal agent next legal)
    ∙ ap (λ n. n + 1) (any_placed (λ s. s.entries) (λ s xs. refl) (λ s xs. refl) (λ s xs. refl) agent next)

-- no entry changes the records, the limits and what waits
either_fact : {T : Type 0} (fact : AgentState → T) (b : Bool) (agent one : AgentState) → fact one ≡ fact agent
    → fact (if b then one else agent) ≡ fact agent
either_fact fact true agent one h = h
either_fact fact false agent one h = refl

pub step_ground : (agent : AgentState) (next : Entry) → ground_of (step agent next) ≡ ground_of agent
unfolding step
step_ground agent next =
    either_fact ground_of (is_legal agent next) agent (after_effect (effect agent next))
    (any_placed ground_of (λ s xs. refl) (λ s xs. refl) (λ s xs. refl) agent next)

pub step_waiting : (agent : AgentState) (next : Entry) → (step agent next).waiting ≡ agent.waiting
unfolding step
step_waiting agent next =
    either_fact (λ s. s.waiting) (is_legal agent next) agent (after_effect (effect agent next))
    (any_placed (λ s. s.waiting) (λ s xs. refl) (λ s xs. refl) (λ s xs. refl) agent next)

-- objects are changed by no entry but a commitment
effect_objects : (agent : AgentState) (next : Entry) → CommitsNone next
    → (effect agent next).agent.objects ≡ agent.objects
effect_objects agent (entry.Opened number bind) none = refl
effect_objects agent next none =
    plain_same (λ s. s.objects) (λ s number change. refl) (λ s xs. refl) agent next tt none

placed_objects : (agent : AgentState) (next : Entry) → CommitsNone next
    → (placed (effect agent next).agent (effect agent next).sent).objects ≡ agent.objects
placed_objects agent next none =
    placed_same (λ s. s.objects) (λ s number change. refl) (λ s xs. refl) (effect agent next).agent
    (effect agent next).sent ∙ effect_objects agent next none

pub step_objects : (agent : AgentState) (next : Entry) → CommitsNone next → (step agent next).objects ≡ agent.objects
unfolding step
step_objects agent next none =
    either_fact (λ s. s.objects) (is_legal agent next) agent (after_effect (effect agent next))
    (placed_objects agent next none)
