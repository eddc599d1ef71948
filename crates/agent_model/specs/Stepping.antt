-- Stepping: one step of the one-manager agent, what an entry of the journal does. When an entry may stand there is
-- is_legal of Step of term_model; docs/PROFILE.md, section 7.
use Rattle.std.specs.Prelude.{ℕ, ℤ, pos, ◌+◌, List, [], ◌∷◌, ◌++◌, Option, None, Some, map, position, slice_get}
use Rattle.std.specs.Prelude.{if◌then◌else◌}
use Rattle.std.specs.Option.{option_map_or}
use Rattle.agent_model.specs.declared.agent_state.AgentState.{AgentState}
use Rattle.agent_model.specs.declared.agent_state.AssociationState.TheVariants as association
use Rattle.agent_model.specs.declared.agent_state.Operation.{Operation}
use Rattle.agent_model.specs.declared.agent_state.OperationState.TheVariants as operation
use Rattle.agent_model.specs.declared.agent_state.Work.{Work}
use Rattle.agent_model.specs.declared.agent_state.Work.TheVariants as work
use Rattle.agent_model.specs.declared.entry.Entry.{Entry}
use Rattle.agent_model.specs.declared.entry.Entry.TheVariants as entry
use Rattle.term_model.specs.declared.reply.Reply.TheVariants as reply
use Rattle.agent_model.specs.AgentState.{granted_moment, operation_of}
use Rattle.term_model.specs.Arriving.{Arriving}
use Rattle.term_model.specs.Arriving.Arriving.{Rejected, Cancels, NoEffect, Queued}
use Rattle.agent_model.specs.Bind.{bind_answer, title_in}
use Rattle.term_model.specs.RemoteOperation.{frame, integer}
use Rattle.term_model.specs.SentApdus.{sent_reject, sent_reply}
use Rattle.agent_model.specs.Step.{begun, changed_association, changed_operation, counted, ended, ended_with, is_get, is_legal}
use Rattle.agent_model.specs.Step.{is_outstanding_as, mistyped_operation, no_such_invoke_id, operation_cancelled, queued}
use Rattle.agent_model.specs.Step.{with_state, with_taken}
use Rattle.agent_model.specs.Binding.{answer_to, associated}
use Rattle.agent_model.specs.Performing.{Done, carried_out, nothing_sent}
use Rattle.agent_model.specs.Placing.{placed}
use Rattle.agent_model.specs.Receiving.{received}

-- an association is opened under a number, and its answer is sent
abbrev pub opening : AgentState → ℕ → Option (List ℕ) → Done
opening agent number title =
    let answer = answer_to agent title in
    record {
      agent = record agent { associations = agent.associations ++ associated answer title ∷ [] };
      sent = (number, frame (bind_answer answer number)) ∷ [];
    }

-- an error of an invoke; the errors of m-Cancel-Get and of the Get that it cancels are in X.711, section 7.5
abbrev pub sent_error : ℤ → ℤ → Option (List ℕ) → List ℕ
sent_error id code parameter =
    sent_reply id (pos 10) (pos 1) (reply.Error (record { code = code; parameter = parameter }))

-- the Get's error, and then the empty result of what cancels it
abbrev pub cancelling : ℤ → ℤ → List ℕ
cancelling id cancelled =
    sent_error cancelled operation_cancelled None ++ sent_reply id (pos 10) (pos 1) reply.Empty

abbrev pub sending_to : ℕ → List ℕ → AgentState → Done
sending_to number bytes agent = record { agent = agent; sent = (number, bytes) ∷ [] }

-- m-Cancel-Get ends the Get that it names, an index of an operation; what is no Get goes on
abbrev pub cancelled_at : AgentState → ℕ → ℤ → ℤ → ℕ → Operation → Done
cancelled_at agent number id cancelled index o =
    if is_get o.work then sending_to number (cancelling id cancelled) (ended agent (index + 1))
    else sending_to number (sent_error id mistyped_operation None) agent

abbrev pub cancelled_where : AgentState → ℕ → ℤ → ℤ → Option ℕ → Done
cancelled_where agent number id cancelled None =
    sending_to number (sent_error id no_such_invoke_id (Some (integer cancelled))) agent
cancelled_where agent number id cancelled (Some index) =
    option_map_or (cancelled_at agent number id cancelled index) (slice_get agent.operations index)
    (nothing_sent agent)

-- what an APDU of an association does: a reject is sent, m-Cancel-Get ends a Get, a request is queued
abbrev pub taken_in : AgentState → ℕ → Arriving → Done
taken_in agent number (Rejected invoke kind problem) =
    sending_to number (sent_reject invoke kind problem) agent
taken_in agent number (Cancels id cancelled) =
    cancelled_where agent number id cancelled (position (is_outstanding_as number cancelled) agent.operations)
taken_in agent number NoEffect = nothing_sent agent
taken_in agent number (Queued invocation) =
    nothing_sent (record agent { operations = agent.operations ++ queued number invocation ∷ [] })

-- the operation under a number is carried out and ends with this entry
abbrev pub performing : AgentState → ℕ → Work → ℕ → Done
performing agent number w moment =
    let done = carried_out agent w moment in record { agent = ended done.agent number; sent = done.sent }

-- the problem resourceLimitation of an invoke: X.229, section 9
abbrev pub resource_limitation : ℤ
resource_limitation = pos 3

-- the operation under a number ends for want of memory: what a manager asked for is rejected
abbrev pub starving : AgentState → ℕ → Work → Done
starving agent number (work.Asked asker invoke asked) =
    sending_to asker (sent_reject (Some invoke) 1 resource_limitation) (ended agent number)
starving agent number (work.Append log own) = nothing_sent (ended agent number)

-- what the entry does
abbrev pub effect : AgentState → Entry → Done
effect agent (entry.Opened number bind) = opening agent number (title_in bind)
effect agent (entry.Arrived number apdu) = taken_in agent number (received agent number apdu)
effect agent (entry.Begun number log) =
    nothing_sent (record agent { operations = agent.operations ++ begun log ∷ [] })
effect agent (entry.Granted number moment) = nothing_sent (record agent {
  operations = changed_operation agent.operations number (operation.Granted moment);
})
effect agent (entry.Committed number) =
    option_map_or (λ (o : Operation).
    option_map_or (performing agent number o.work) (granted_moment o.state) (nothing_sent agent))
    (operation_of agent number) (nothing_sent agent)
effect agent (entry.Starved number) =
    option_map_or (λ (o : Operation). starving agent number o.work) (operation_of agent number) (nothing_sent agent)
effect agent (entry.Taken number count) = nothing_sent (record agent {
  associations = changed_association agent.associations number (with_taken count);
})
effect agent (entry.Finished number) = nothing_sent (record agent {
  associations = changed_association agent.associations number (with_state association.Finished);
})
effect agent (entry.Closed number cause) = nothing_sent (record agent {
  associations = changed_association agent.associations number (with_state (association.Closed cause));
  operations = map (ended_with number agent.entries) agent.operations;
})

abbrev pub after_effect : Done → AgentState
after_effect done = counted (placed done.agent done.sent)

-- an entry that is not legal changes nothing
unfoldable pub step : AgentState → Entry → AgentState
step agent next = if is_legal agent next then after_effect (effect agent next) else agent
