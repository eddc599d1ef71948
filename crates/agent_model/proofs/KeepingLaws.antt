-- What an agent keeps: a relation of states that goes on, and that holds where operations change and where one
-- association changes so that nothing is taken away that was placed for it, holds of the states before and behind each
-- entry that neither opens an association nor is a commitment; where it holds where objects change, behind a commitment
-- too.
use Rattle.std.proofs.Common.{◌≡◌, ℕ, zero, suc, ◌+◌, Bool, true, false, List, [], ◌∷◌, ◌++◌, length, Option}
use Rattle.std.proofs.Common.{Some, None, refl, ◌∙◌}
use Rattle.std.specs.Prelude.{ℤ, map, nat_lt, position, slice_get, if◌then◌else◌}
use Rattle.std.specs.Option.{option_map_or}
use Rattle.agent_model.specs.declared.agent_state.AgentState.{AgentState}
use Rattle.agent_model.specs.declared.agent_state.Association.{Association}
use Rattle.agent_model.specs.declared.agent_state.AssociationState.{AssociationState}
use Rattle.agent_model.specs.declared.agent_state.AssociationState.TheVariants as standing
use Rattle.agent_model.specs.declared.agent_state.Operation.{Operation}
use Rattle.agent_model.specs.declared.agent_state.OperationState.TheVariants as operation
use Rattle.agent_model.specs.declared.agent_state.Work.{Work}
use Rattle.agent_model.specs.declared.agent_state.Work.TheVariants as work
use Rattle.agent_model.specs.declared.entry.Entry.{Entry}
use Rattle.agent_model.specs.declared.entry.Entry.TheVariants as entry
use Rattle.term_model.specs.declared.objects.NamedObject.{NamedObject}
use Rattle.term_model.specs.declared.reply.Reply.{Reply}
use Rattle.term_model.specs.declared.request.Request.{Request}
use Rattle.agent_model.specs.AgentState.{association_of, granted_moment, left_to_take, operation_of}
use Rattle.term_model.specs.Arriving.{Arriving}
use Rattle.term_model.specs.Arriving.Arriving.{Rejected, Cancels, NoEffect, Queued}
use Rattle.agent_model.specs.Step.{begun, changed_association, changed_operation, ended, ended_with, is_get}
use Rattle.agent_model.specs.Step.{is_outstanding_as, queued, with_placed, with_state, with_taken}
use Rattle.operation_model.specs.WholeOperation.{Outcome, outcome}
use Rattle.agent_model.specs.Performing.{Done, answering, carried_out, concluding, frames_to, is_confirmed}
use Rattle.agent_model.specs.Performing.{nothing_sent, sending, with_own}
use Rattle.agent_model.specs.Placing.{Sent, bytes_for, placed, placed_for, placed_from, placed_within}
use Rattle.agent_model.specs.Receiving.{received}
use Rattle.agent_model.specs.Stepping.{cancelled_at, cancelled_where, effect, performing, starving, taken_in}
use Rattle.agent_model.proofs.BeginningLaws.{Grows, own_grows, placed_grows, state_grows, taken_grows}

-- an entry that opens no association
abbrev pub OpensNone : Entry → Type 0
OpensNone (entry.Opened number bind) = ⊥
OpensNone _ = Unit {0}

-- an entry that is no commitment
abbrev pub CommitsNone : Entry → Type 0
CommitsNone (entry.Committed number) = ⊥
CommitsNone _ = Unit {0}

module _ (Keeps : AgentState → AgentState → Type 0) (itself : (agent : AgentState) → Keeps agent agent)
    (through : (a b c : AgentState) → Keeps a b → Keeps b c → Keeps a c)
    (by_association : (agent : AgentState) (number : ℕ) (change : Association → Association) → Grows change
    → Keeps agent (record agent { associations = changed_association agent.associations number change }))
    (by_operations : (agent : AgentState) (operations : List Operation)
    → Keeps agent (record agent { operations = operations })) where
  either_keeps : (b : Bool) (agent one other : AgentState) → Keeps agent one → Keeps agent other
      → Keeps agent (if b then one else other)
  either_keeps true agent one other h g = h
  either_keeps false agent one other h g = g

  either_done : (b : Bool) (agent : AgentState) (one other : Done) → Keeps agent one.agent → Keeps agent other.agent
      → Keeps agent (if b then one else other).agent
  either_done true agent one other h g = h
  either_done false agent one other h g = g

  where_done : {S : Type 0} (change : S → Done) (o : Option S) (agent : AgentState)
      → ((s : S) → Keeps agent (change s).agent) → Keeps agent (option_map_or change o (nothing_sent agent)).agent
  where_done change None agent h = itself agent
  where_done change (Some s) agent h = h s

  ended_keeps : (agent : AgentState) (number : ℕ) → Keeps agent (ended agent number)
  ended_keeps agent number =
      by_operations agent (changed_operation agent.operations number (operation.Ended agent.entries))

  -- the operations of an association that is closed end
  closed_keeps : (agent : AgentState) (number : ℕ) (state : AssociationState)
      → Keeps agent (record agent {
        associations = changed_association agent.associations number (with_state state);
        operations = map (ended_with number agent.entries) agent.operations;
      })
  closed_keeps agent number state =
      let closed = record agent { associations = changed_association agent.associations number (with_state state) } in
      through agent closed _ (by_association agent number (with_state state) (state_grows state))
      (by_operations closed (map (ended_with number agent.entries) agent.operations))

  within_keeps : (agent : AgentState) (number : ℕ) (bytes : List ℕ) (o : Option Association)
      → Keeps agent (option_map_or (placed_within agent number bytes) o agent)
  within_keeps agent number bytes None = itself agent
  within_keeps agent number bytes (Some a) =
      either_keeps (nat_lt agent.limits.untaken (left_to_take a + length bytes)) agent _ _
      (closed_keeps agent number standing.Overrun)
      (by_association agent number (with_placed bytes) (placed_grows bytes))

  placed_for_keeps : (agent : AgentState) (number : ℕ) (bytes : List ℕ) → Keeps agent (placed_for agent number bytes)
  placed_for_keeps agent number [] = itself agent
  placed_for_keeps agent number (byte ∷ bytes) =
      within_keeps agent number (byte ∷ bytes) (association_of agent number)

  placed_from_keeps : (count number : ℕ) (sent : Sent) (agent : AgentState)
      → Keeps agent (placed_from count number sent agent)
  placed_from_keeps zero number sent agent = itself agent
  placed_from_keeps (suc count) number sent agent =
      let next = placed_for agent number (bytes_for number sent) in
      through agent next (placed_from count (number + 1) sent next)
      (placed_for_keeps agent number (bytes_for number sent)) (placed_from_keeps count (number + 1) sent next)

  pub placed_keeps : (agent : AgentState) (sent : Sent) → Keeps agent (placed agent sent)
  placed_keeps agent sent = placed_from_keeps (length agent.associations) 1 sent agent

  cancelled_at_keeps : (agent : AgentState) (number : ℕ) (id cancelled : ℤ) (index : ℕ) (o : Operation)
      → Keeps agent (cancelled_at agent number id cancelled index o).agent
  cancelled_at_keeps agent number id cancelled index o =
      either_done (is_get o.work) agent _ _ (ended_keeps agent (index + 1)) (itself agent)

  cancelled_keeps : (agent : AgentState) (number : ℕ) (id cancelled : ℤ) (index : Option ℕ)
      → Keeps agent (cancelled_where agent number id cancelled index).agent
  cancelled_keeps agent number id cancelled None = itself agent
  cancelled_keeps agent number id cancelled (Some index) =
      where_done (cancelled_at agent number id cancelled index) (slice_get agent.operations index) agent
      (cancelled_at_keeps agent number id cancelled index)

  taken_in_keeps : (agent : AgentState) (number : ℕ) (brings : Arriving)
      → Keeps agent (taken_in agent number brings).agent
  taken_in_keeps agent number (Rejected invoke kind problem) = itself agent
  taken_in_keeps agent number (Cancels id cancelled) =
      cancelled_keeps agent number id cancelled (position (is_outstanding_as number cancelled) agent.operations)
  taken_in_keeps agent number NoEffect = itself agent
  taken_in_keeps agent number (Queued invocation) =
      by_operations agent (agent.operations ++ queued number invocation ∷ [])

  starved_keeps : (agent : AgentState) (number : ℕ) (w : Work) → Keeps agent (starving agent number w).agent
  starved_keeps agent number (work.Asked asker invoke asked) = ended_keeps agent number
  starved_keeps agent number (work.Append log own) = ended_keeps agent number

  -- entries that neither open nor commit
  pub plain_keeps : (agent : AgentState) (next : Entry) → OpensNone next → CommitsNone next
      → Keeps agent (effect agent next).agent
  plain_keeps agent (entry.Opened number bind) none done = absurd none
  plain_keeps agent (entry.Arrived number apdu) none done = taken_in_keeps agent number (received agent number apdu)
  plain_keeps agent (entry.Begun number log) none done = by_operations agent (agent.operations ++ begun log ∷ [])
  plain_keeps agent (entry.Granted number moment) none done =
      by_operations agent (changed_operation agent.operations number (operation.Granted moment))
  plain_keeps agent (entry.Committed number) none done = absurd done
  plain_keeps agent (entry.Starved number) none done =
      where_done (λ (o : Operation). starving agent number o.work) (operation_of agent number) agent
      (λ o. starved_keeps agent number o.work)
  plain_keeps agent (entry.Taken number count) none done =
      by_association agent number (with_taken count) (taken_grows count)
  plain_keeps agent (entry.Finished number) none done =
      by_association agent number (with_state standing.Finished) (state_grows standing.Finished)
  plain_keeps agent (entry.Closed number cause) none done = closed_keeps agent number (standing.Closed cause)

  -- an operation changes objects
  module _ (by_objects : (agent : AgentState) (objects : List NamedObject)
      → Keeps agent (record agent { objects = objects })) where
    answering_keeps : (agent : AgentState) (number : ℕ) (invoke : ℤ) (asked : Request) (replies : List Reply)
        → Keeps agent (answering agent number invoke asked replies).agent
    answering_keeps agent number invoke asked replies =
        either_done (is_confirmed asked) agent _ (nothing_sent agent)
        (where_done (λ a. sending agent number (frames_to invoke asked replies a)) (association_of agent number) agent
        (λ a. let own = (frames_to invoke asked replies a).own in
        by_association agent number (with_own own) (own_grows own)))
        (itself agent)

    concluding_keeps : (agent : AgentState) (number : ℕ) (invoke : ℤ) (asked : Request) (told : Outcome)
        → Keeps agent (concluding agent number invoke asked told).agent
    concluding_keeps agent number invoke asked told =
        through agent (record agent { objects = told.objects }) _ (by_objects agent told.objects)
        (answering_keeps (record agent { objects = told.objects }) number invoke asked told.replies)

    carried_keeps : (agent : AgentState) (w : Work) (moment : ℕ) → Keeps agent (carried_out agent w moment).agent
    carried_keeps agent (work.Asked number invoke asked) moment =
        where_done (concluding agent number invoke asked) (outcome agent.schema agent.objects asked moment) agent
        (concluding_keeps agent number invoke asked)
    carried_keeps agent (work.Append log own) moment = itself agent

    performing_keeps : (agent : AgentState) (number : ℕ) (w : Work) (moment : ℕ)
        → Keeps agent (performing agent number w moment).agent
    performing_keeps agent number w moment =
        through agent (carried_out agent w moment).agent _ (carried_keeps agent w moment)
        (ended_keeps (carried_out agent w moment).agent number)

    pub committed_keeps : (agent : AgentState) (number : ℕ) → Keeps agent (effect agent (entry.Committed number)).agent
    committed_keeps agent number =
        where_done
        (λ (o : Operation).
        option_map_or (performing agent number o.work) (granted_moment o.state) (nothing_sent agent))
        (operation_of agent number) agent
        (λ o. where_done (performing agent number o.work) (granted_moment o.state) agent
        (λ moment. performing_keeps agent number o.work moment))

    -- entries that open no association
    pub effect_keeps : (agent : AgentState) (next : Entry) → OpensNone next → Keeps agent (effect agent next).agent
    effect_keeps agent (entry.Opened number bind) none = absurd none
    effect_keeps agent (entry.Committed number) none = committed_keeps agent number
    effect_keeps agent next none = plain_keeps agent next none tt

-- a fact that such changes leave
module _ {T : Type 0} (fact : AgentState → T)
    (by_association : (agent : AgentState) (number : ℕ) (change : Association → Association)
    → fact (record agent { associations = changed_association agent.associations number change }) ≡ fact agent)
    (by_operations : (agent : AgentState) (operations : List Operation)
    → fact (record agent { operations = operations }) ≡ fact agent) where
  abbrev Leaves : AgentState → AgentState → Type 0
  Leaves before after = fact after ≡ fact before

  pub placed_same : (agent : AgentState) (sent : Sent) → fact (placed agent sent) ≡ fact agent
  placed_same =
      placed_keeps Leaves (λ agent. refl) (λ a b c p q. q ∙ p)
      (λ agent number change grows. by_association agent number change) by_operations

  pub plain_same : (agent : AgentState) (next : Entry) → OpensNone next → CommitsNone next
      → fact (effect agent next).agent ≡ fact agent
  plain_same =
      plain_keeps Leaves (λ agent. refl) (λ a b c p q. q ∙ p)
      (λ agent number change grows. by_association agent number change) by_operations

  pub effect_same : ((agent : AgentState) (objects : List NamedObject)
      → fact (record agent { objects = objects }) ≡ fact agent)
      → (agent : AgentState) (next : Entry) → OpensNone next → fact (effect agent next).agent ≡ fact agent
  effect_same =
      effect_keeps Leaves (λ agent. refl) (λ a b c p q. q ∙ p)
      (λ agent number change grows. by_association agent number change) by_operations
