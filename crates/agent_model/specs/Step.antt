-- When an entry of the journal may stand next, and the changes of associations and operations of which steps are made;
-- docs/PROFILE.md, section 7.
use Rattle.std.specs.Prelude.{ℕ, ℤ, pos, ◌+◌, ◌-◌, ◌==◌, ◌&&◌, ◌||◌, not, Bool, true, false, List, ◌++◌}
use Rattle.std.specs.Prelude.{length, nat_lt, nat_le, slice_get, slice_set, is_some, count_by, None}
use Rattle.std.specs.Prelude.{if◌then◌else◌}
use Rattle.std.specs.List.{list_any}
use Rattle.std.specs.Ordering.{int_eq, is_lt}
use Rattle.std.specs.Option.{option_map_or}
use Rattle.agent_model.specs.declared.agent_state.AgentState.{AgentState}
use Rattle.agent_model.specs.declared.agent_state.Association.{Association}
use Rattle.agent_model.specs.declared.agent_state.AssociationState.{AssociationState}
use Rattle.agent_model.specs.declared.agent_state.AssociationState.TheVariants as association
use Rattle.agent_model.specs.declared.agent_state.Operation.{Operation}
use Rattle.agent_model.specs.declared.agent_state.OperationState.{OperationState}
use Rattle.agent_model.specs.declared.agent_state.OperationState.TheVariants as operation
use Rattle.agent_model.specs.declared.agent_state.Work.{Work}
use Rattle.agent_model.specs.declared.agent_state.Work.TheVariants as work
use Rattle.agent_model.specs.declared.entry.Entry.{Entry}
use Rattle.agent_model.specs.declared.entry.Entry.TheVariants as entry
use Rattle.agent_model.specs.declared.entry.Why.{Why}
use Rattle.agent_model.specs.declared.entry.Why.TheVariants as why
use Rattle.agent_model.specs.AgentState.{association_of, operation_of, outstanding, is_outstanding, left_to_take}
use Rattle.agent_model.specs.AgentState.{is_live_state, is_finished_state, is_closed_state, is_waiting_state}
use Rattle.agent_model.specs.AgentState.{is_ended_state}
use Rattle.term_model.specs.declared.event.WaitingRecord.{WaitingRecord}
use Rattle.term_model.specs.declared.name.Rdn.{Rdn}
use Rattle.term_model.specs.Comparing.{is_same_name}
use Rattle.term_model.specs.NameOrder.{name_cmp}
use Rattle.agent_model.specs.AgentState.{granted_moment}
use Rattle.term_model.specs.declared.request.Invocation.{Invocation}
use Rattle.term_model.specs.declared.request.Request.{Request}
use Rattle.term_model.specs.declared.request.Request.TheVariants.{Get}

-- the most operations of an association that have not ended
abbrev pub most_outstanding : ℕ
most_outstanding = 64

-- the greatest moment of a journal, the last second of the year 9998
abbrev pub last_moment : ℕ
last_moment = 253370764799

-- the least number of bytes that are taken where more are left
abbrev pub least_taken : ℕ
least_taken = 65536

-- what may be taken of so many bytes: all of them, or a part that is not small
abbrev pub may_take : ℕ → ℕ → Bool
may_take count left = count == left && nat_le 1 count || nat_le least_taken count && nat_lt count left

abbrev pub may_close : AgentState → ℕ → Why → Association → Bool
may_close agent number why.End a = is_finished_state a.state && outstanding agent number == 0 && left_to_take a == 0
may_close agent number _ a = not (is_closed_state a.state)

-- a record that waits for the log with this name
abbrev pub waits_for : List Rdn → WaitingRecord → Bool
waits_for log waiting = is_same_name log waiting.log

-- an append to the log with this name that has not ended
abbrev pub appends_to : List Rdn → Work → Bool
appends_to log (work.Asked association_ invoke request) = false
appends_to log (work.Append other own) = is_same_name log other

abbrev pub is_append_to : List Rdn → Operation → Bool
is_append_to log o = appends_to log o.work && not (is_ended_state o.state)

-- more records wait for the log than appends to it have begun and not ended
abbrev pub has_more : AgentState → List Rdn → Bool
has_more agent log =
    nat_lt (count_by (is_append_to log) agent.operations) (count_by (waits_for log) agent.waiting)

-- more records wait for the log of a waiting record, and its name is less than this one
unfoldable pub is_due_before : AgentState → List Rdn → WaitingRecord → Bool
is_due_before agent log waiting = is_lt (name_cmp waiting.log log) && has_more agent waiting.log

-- of the logs for which more records wait it is the first by the order of names
unfoldable pub is_due : AgentState → List Rdn → Bool
is_due agent log = has_more agent log && not (list_any (is_due_before agent log) agent.waiting)

-- the operation by which a record is appended to a log
abbrev pub begun : List Rdn → Operation
begun log = record { work = work.Append log None; state = operation.Waiting }

-- the entry may stand next in the journal
abbrev pub is_legal : AgentState → Entry → Bool
is_legal agent (entry.Opened number bind) = number == length agent.associations + 1
is_legal agent (entry.Arrived number apdu) =
    option_map_or (λ (a : Association). is_live_state a.state && nat_lt (outstanding agent number) most_outstanding)
    (association_of agent number) false
is_legal agent (entry.Begun number log) = number == length agent.operations + 1 && is_due agent log
is_legal agent (entry.Granted number moment) =
    option_map_or (λ (o : Operation). is_waiting_state o.state && nat_le moment last_moment)
    (operation_of agent number) false
is_legal agent (entry.Committed number) =
    option_map_or (λ (o : Operation). is_some (granted_moment o.state)) (operation_of agent number) false
is_legal agent (entry.Starved number) =
    option_map_or (λ (o : Operation). not (is_ended_state o.state)) (operation_of agent number) false
is_legal agent (entry.Taken number count) =
    option_map_or (λ (a : Association). may_take count (left_to_take a)) (association_of agent number) false
is_legal agent (entry.Finished number) =
    option_map_or (λ (a : Association). is_live_state a.state) (association_of agent number) false
is_legal agent (entry.Closed number cause) =
    option_map_or (may_close agent number cause) (association_of agent number) false

-- the operation that a request of an association becomes
abbrev pub queued : ℕ → Invocation → Operation
queued number invocation = record {
  work = work.Asked number invocation.id invocation.request;
  state = operation.Waiting;
}

-- the associations with a change of the one under a number
abbrev pub changed_association : List Association → ℕ → (Association → Association) → List Association
changed_association associations number change =
    option_map_or (λ a. slice_set associations (number - 1) (change a))
    (slice_get associations (number - 1)) associations

abbrev pub changed_operation : List Operation → ℕ → OperationState → List Operation
changed_operation operations number state =
    option_map_or (λ (o : Operation). slice_set operations (number - 1) (record o { state = state }))
    (slice_get operations (number - 1)) operations

abbrev pub with_placed : List ℕ → Association → Association
with_placed bytes a = record a { placed = a.placed ++ bytes }

abbrev pub with_taken : ℕ → Association → Association
with_taken count a = record a { taken = a.taken + count }

abbrev pub with_state : AssociationState → Association → Association
with_state state a = record a { state = state }

-- the operation under a number ends with this entry
abbrev pub ended : AgentState → ℕ → AgentState
ended agent number = record agent
    { operations = changed_operation agent.operations number (operation.Ended agent.entries) }

-- operations of a closed association end without a reply
abbrev pub ended_with : ℕ → ℕ → Operation → Operation
ended_with number place o = if is_outstanding number o then record o { state = operation.Ended place } else o

-- the errors of a cancel-get and of the Get that it cancels: X.711, section 7.5
abbrev pub mistyped_operation : ℤ
mistyped_operation = pos 21

abbrev pub no_such_invoke_id : ℤ
no_such_invoke_id = pos 22

abbrev pub operation_cancelled : ℤ
operation_cancelled = pos 23

-- an association asked for it under this invoke id, and it has not ended
abbrev pub is_asked_as : ℕ → ℤ → Work → Bool
is_asked_as number invoke (work.Asked association_ own request) = association_ == number && int_eq own invoke
is_asked_as number invoke (work.Append log own) = false

abbrev pub is_outstanding_as : ℕ → ℤ → Operation → Bool
is_outstanding_as number invoke o = is_asked_as number invoke o.work && is_outstanding number o

abbrev pub is_get_request : Request → Bool
is_get_request (Get head ids) = true
is_get_request _ = false

abbrev pub is_get : Work → Bool
is_get (work.Asked association_ invoke request) = is_get_request request
is_get (work.Append log own) = false

abbrev pub counted : AgentState → AgentState
counted agent = record agent { entries = agent.entries + 1 }
