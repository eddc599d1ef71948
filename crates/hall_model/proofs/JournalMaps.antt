-- The maps of objects along a journal.
use Rattle.std.proofs.Common.{◌≡◌, ◌+◌, ℕ, ℤ, zero, suc, Bool, true, false, List, [], ◌∷◌, ◌++◌, length}
use Rattle.std.proofs.Common.{take}
use Rattle.std.proofs.Common.{Option, None, Some, refl, sym, ap, ◌∙◌, subst, arith, if◌then◌else◌, length-append}
use Rattle.std.specs.Prelude.{is_some, nat_lt, position, slice_get}
use Rattle.term_model.specs.declared.reply.Reply.{Reply}
use Rattle.std.specs.Option.{option_map_or}
use Rattle.std.proofs.lemmas.Bool.{false≢true}
use Rattle.std.proofs.lemmas.List.{take_all, take-append-le}
use Rattle.agent_model.specs.declared.agent_state.AgentState.{AgentState}
use Rattle.agent_model.specs.declared.agent_state.Association.{Association}
use Rattle.agent_model.specs.declared.agent_state.Operation.{Operation}
use Rattle.agent_model.specs.declared.agent_state.OperationState.TheVariants as operation
use Rattle.agent_model.specs.declared.agent_state.Work.{Work}
use Rattle.agent_model.specs.declared.agent_state.Work.TheVariants as work
use Rattle.agent_model.specs.declared.entry.Entry.{Entry}
use Rattle.agent_model.specs.declared.entry.Entry.TheVariants as entry
use Rattle.term_model.specs.declared.objects.NamedObject.{NamedObject}
use Rattle.term_model.specs.declared.request.Request.{Request}
use Rattle.agent_model.specs.AgentState.{association_of, granted_moment, left_to_take, operation_of}
use Rattle.term_model.specs.Arriving.{Arriving}
use Rattle.term_model.specs.Arriving.Arriving.{Rejected, Cancels, NoEffect, Queued}
use Rattle.agent_model.proofs.HistoryLaws.{replay_more}
use Rattle.agent_model.specs.Step.{changed_association, ended, with_placed, is_get, is_legal, is_outstanding_as}
use Rattle.operation_model.specs.WholeOperation.{Outcome, outcome}
use Rattle.agent_model.specs.Journals.{replayed}
use Rattle.agent_model.specs.Performing.{Done, answering, carried_out, concluding, frames_to, is_confirmed}
use Rattle.agent_model.specs.Performing.{nothing_sent, sending}
use Rattle.agent_model.specs.Placing.{Sent, bytes_for, overrun, placed, placed_for, placed_from, placed_within}
use Rattle.agent_model.specs.Receiving.{received}
use Rattle.agent_model.specs.Stepping.{after_effect, cancelled_at, cancelled_where, cancelling, effect, performing}
use Rattle.agent_model.specs.Stepping.{sending_to, sent_error, starving, step, taken_in}
use Rattle.agent_model.specs.Step.{mistyped_operation}
use Rattle.hall_model.specs.JournalMaps.{CommitDoes, OnlyCommitsChange, PastStays, PresentIsLast, SchemaStays}
use Rattle.hall_model.specs.JournalMaps.{is_commit}

-- the objects and the schema
abbrev Still : AgentState → AgentState → Type 0
Still before after = (after.objects ≡ before.objects) × (after.schema ≡ before.schema)

still : (agent : AgentState) → Still agent agent
still agent = (refl, refl)

further : (a b c : AgentState) → Still a b → Still b c → Still a c
further a b c h k = (k.0 ∙ h.0, k.1 ∙ h.1)

placed_within_still : (agent : AgentState) (number : ℕ) (bytes : List ℕ) (a : Association)
    → Still agent (placed_within agent number bytes a)
placed_within_still agent number bytes a =
    by (changed_association agent.associations number (with_placed bytes))
    (nat_lt agent.limits.untaken (left_to_take a + length bytes))
  where
    by : (rest : List Association) (b : Bool)
        → Still agent (if b then overrun agent number else record agent { associations = rest })
    by rest true = (refl, refl)
    by rest false = (refl, refl)

placed_for_still : (agent : AgentState) (number : ℕ) (bytes : List ℕ) → Still agent (placed_for agent number bytes)
placed_for_still agent number [] = still agent
placed_for_still agent number (byte ∷ bytes) = by (association_of agent number)
  where
    by : (o : Option Association) → Still agent (option_map_or (placed_within agent number (byte ∷ bytes)) o agent)
    by None = still agent
    by (Some a) = placed_within_still agent number (byte ∷ bytes) a

placed_from_still : (count number : ℕ) (sent : Sent) (agent : AgentState)
    → Still agent (placed_from count number sent agent)
placed_from_still zero number sent agent = still agent
placed_from_still (suc count) number sent agent =
    further agent (placed_for agent number (bytes_for number sent))
    (placed_from count (number + 1) sent (placed_for agent number (bytes_for number sent)))
    (placed_for_still agent number (bytes_for number sent))
    (placed_from_still count (number + 1) sent (placed_for agent number (bytes_for number sent)))

pub placed_still : (agent : AgentState) (sent : Sent) → Still agent (placed agent sent)
placed_still agent sent = placed_from_still (length agent.associations) 1 sent agent

-- ---- what entries do

cancelled_still : (agent : AgentState) (number : ℕ) (id cancelled : ℤ) (o : Option ℕ)
    → Still agent (cancelled_where agent number id cancelled o).agent
cancelled_still agent number id cancelled None = still agent
cancelled_still agent number id cancelled (Some index) = by (slice_get agent.operations index)
  where
    by_get : (o : Operation) (b : Bool) → is_get o.work ≡ b
        → Still agent (cancelled_at agent number id cancelled index o).agent
    by_get o true e =
        subst (λ b. Still agent (if b then sending_to number (cancelling id cancelled) (ended agent (index + 1))
        else sending_to number (sent_error id mistyped_operation None) agent).agent) (sym e) (refl, refl)
    by_get o false e =
        subst (λ b. Still agent (if b then sending_to number (cancelling id cancelled) (ended agent (index + 1))
        else sending_to number (sent_error id mistyped_operation None) agent).agent) (sym e) (refl, refl)

    by : (o : Option Operation)
        → Still agent (option_map_or (cancelled_at agent number id cancelled index) o (nothing_sent agent)).agent
    by None = still agent
    by (Some o) = by_get o (is_get o.work) refl

taken_in_still : (agent : AgentState) (number : ℕ) (what : Arriving) → Still agent (taken_in agent number what).agent
taken_in_still agent number (Rejected invoke kind problem) = (refl, refl)
taken_in_still agent number (Cancels id cancelled) =
    cancelled_still agent number id cancelled (position (is_outstanding_as number cancelled) agent.operations)
taken_in_still agent number NoEffect = (refl, refl)
taken_in_still agent number (Queued invocation) = (refl, refl)

starving_still : (agent : AgentState) (number : ℕ) (w : Work) → Still agent (starving agent number w).agent
starving_still agent number (work.Asked asker invoke asked) = (refl, refl)
starving_still agent number (work.Append log own) = (refl, refl)

-- what ends for want of memory changes no object
starved_still : (agent : AgentState) (number : ℕ) (o : Option Operation)
    → Still agent (option_map_or (λ (o : Operation). starving agent number o.work) o (nothing_sent agent)).agent
starved_still agent number None = still agent
starved_still agent number (Some o) = starving_still agent number o.work

effect_still : (agent : AgentState) (next : Entry) → is_commit next ≡ false → Still agent (effect agent next).agent
effect_still agent (entry.Opened number bind) h = (refl, refl)
effect_still agent (entry.Arrived number apdu) h = taken_in_still agent number (received agent number apdu)
effect_still agent (entry.Begun number log) h = (refl, refl)
effect_still agent (entry.Granted number moment) h = (refl, refl)
effect_still agent (entry.Committed number) h = absurd (false≢true (sym h))
effect_still agent (entry.Starved number) h = starved_still agent number (operation_of agent number)
effect_still agent (entry.Taken number count) h = (refl, refl)
effect_still agent (entry.Finished number) h = (refl, refl)
effect_still agent (entry.Closed number cause) h = (refl, refl)

after_still : (done : Done) → Still done.agent (after_effect done)
after_still done = placed_still done.agent done.sent

step_still : (agent : AgentState) (next : Entry) → is_commit next ≡ false → Still agent (step agent next)
unfolding step
step_still agent next h = by (is_legal agent next)
  where
    by : (b : Bool) → Still agent (if b then after_effect (effect agent next) else agent)
    by true =
        further agent (effect agent next).agent (after_effect (effect agent next)) (effect_still agent next h)
        (after_still (effect agent next))
    by false = still agent

pub only_commits_change : OnlyCommitsChange
only_commits_change = λ agent next h. (step_still agent next h).0

-- ---- the past

pub past_stays : PastStays
past_stays = λ start journal next place within.
    ap (λ (js : List Entry). (replayed start js).objects) (take-append-le (place + 1) journal (next ∷ []) (omega arith))

pub present_is_last : PresentIsLast
present_is_last = λ start journal next.
    let all : take (length journal + 1) (journal ++ next ∷ []) ≡ journal ++ next ∷ [] =
    take_all (length journal + 1) (journal ++ next ∷ []) (omega (arith, length-append journal (next ∷ []))) in
    ap (λ (js : List Entry). (replayed start js).objects) all
    ∙ ap (λ (agent : AgentState). agent.objects) (replay_more start journal next)

-- ---- commits

answering_still : (agent : AgentState) (number : ℕ) (invoke : ℤ) (asked : Request) (replies : List Reply)
    → Still agent (answering agent number invoke asked replies).agent
answering_still agent number invoke asked replies = by (is_confirmed asked)
  where
    sent : (o : Option Association)
        → Still agent
        (option_map_or (λ a. sending agent number (frames_to invoke asked replies a)) o (nothing_sent agent)).agent
    sent None = still agent
    sent (Some a) = (refl, refl)

    by : (b : Bool) → Still agent (if b
        then option_map_or (λ a. sending agent number (frames_to invoke asked replies a)) (association_of agent number)
        (nothing_sent agent)
        else nothing_sent agent).agent
    by true = sent (association_of agent number)
    by false = still agent

-- what is carried out leaves the objects of its outcome
abbrev left_by : AgentState → Option Outcome → List NamedObject
left_by agent o = option_map_or (λ (told : Outcome). told.objects) o agent.objects

carried_out_leaves : (agent : AgentState) (number : ℕ) (invoke : ℤ) (asked : Request) (moment : ℕ)
    → ((carried_out agent (work.Asked number invoke asked) moment).agent.objects
    ≡ left_by agent (outcome agent.schema agent.objects asked moment))
    × ((carried_out agent (work.Asked number invoke asked) moment).agent.schema ≡ agent.schema)
carried_out_leaves agent number invoke asked moment = by (outcome agent.schema agent.objects asked moment)
  where
    by : (o : Option Outcome)
        → ((option_map_or (concluding agent number invoke asked) o (nothing_sent agent)).agent.objects
        ≡ left_by agent o)
        × ((option_map_or (concluding agent number invoke asked) o (nothing_sent agent)).agent.schema ≡ agent.schema)
    by None = (refl, refl)
    by (Some told) = answering_still (record agent { objects = told.objects }) number invoke asked told.replies

carried_schema : (agent : AgentState) (w : Work) (moment : ℕ) → (carried_out agent w moment).agent.schema ≡ agent.schema
carried_schema agent (work.Asked number invoke asked) moment = (carried_out_leaves agent number invoke asked moment).1
carried_schema agent (work.Append log own) moment = refl

effect_schema : (agent : AgentState) (next : Entry) → (effect agent next).agent.schema ≡ agent.schema
effect_schema agent (entry.Opened number bind) = refl
effect_schema agent (entry.Arrived number apdu) = (taken_in_still agent number (received agent number apdu)).1
effect_schema agent (entry.Begun number log) = refl
effect_schema agent (entry.Granted number moment) = refl
effect_schema agent (entry.Committed number) = by (operation_of agent number)
  where
    by_moment : (o : Operation) (m : Option ℕ)
        → (option_map_or (performing agent number o.work) m (nothing_sent agent)).agent.schema ≡ agent.schema
    by_moment o None = refl
    by_moment o (Some moment) = carried_schema agent o.work moment

    by : (p : Option Operation)
        → (option_map_or (λ (o : Operation). option_map_or (performing agent number o.work) (granted_moment o.state)
        (nothing_sent agent)) p (nothing_sent agent)).agent.schema ≡ agent.schema
    by None = refl
    by (Some o) = by_moment o (granted_moment o.state)
effect_schema agent (entry.Starved number) = (starved_still agent number (operation_of agent number)).1
effect_schema agent (entry.Taken number count) = refl
effect_schema agent (entry.Finished number) = refl
effect_schema agent (entry.Closed number cause) = refl

pub schema_stays : SchemaStays
unfolding step
schema_stays = λ agent next. by agent next (is_legal agent next)
  where
    by : (agent : AgentState) (next : Entry) (b : Bool)
        → (if b then after_effect (effect agent next) else agent).schema ≡ agent.schema
    by agent next true = (after_still (effect agent next)).1 ∙ effect_schema agent next
    by agent next false = refl

abbrev granted_as : ℕ → ℤ → Request → ℕ → Operation
granted_as number invoke asked moment =
    record { work = work.Asked number invoke asked; state = operation.Granted moment }

pub commit_does : CommitDoes
unfolding step
commit_does = λ agent number association_ invoke asked moment told there does.
    let legal : is_legal agent (entry.Committed number) ≡ true =
    ap (λ (o : Option Operation). option_map_or (λ (p : Operation). is_some (granted_moment p.state)) o false) there in
    let made : effect agent (entry.Committed number)
    ≡ performing agent number (work.Asked association_ invoke asked) moment =
    ap (λ (o : Option Operation). option_map_or (λ (p : Operation).
    option_map_or (performing agent number p.work) (granted_moment p.state) (nothing_sent agent)) o (nothing_sent agent))
    there in
    ap (λ b. (if b then after_effect (effect agent (entry.Committed number)) else agent).objects) legal
    ∙ (after_still (effect agent (entry.Committed number))).0
    ∙ ap (λ (d : Done). d.agent.objects) made
    ∙ (carried_out_leaves agent association_ invoke asked moment).0 ∙ ap (left_by agent) does
