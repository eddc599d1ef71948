-- Receiving: what an APDU of an association brings, read with the agent as it is: X.229, sections 8 and 9; X.711, section
-- 7. The problems of a reject are those of X.229, section 9: general 0 unrecognizedAPDU, 1 mistypedAPDU, 2
-- badlyStructuredAPDU; of an invoke 0 duplicateInvocation, 1 unrecognizedOperation, 2 mistypedArgument.
use Rattle.std.specs.Prelude.{ℕ, ℤ, pos, List, Bool, ◌||◌, ◌&&◌, Option, None, Some, int_le, option_and_then}
use Rattle.std.specs.Prelude.{if◌then◌else◌}
use Rattle.std.specs.List.{list_any}
use Rattle.std.specs.Option.{option_map, option_map_or}
use Rattle.std.specs.Ordering.{int_eq}
use Rattle.term_values.specs.BerReading.{tree_in}
use Rattle.term_values.specs.Tree.{TreeValue}
use Rattle.agent_model.specs.declared.agent_state.AgentState.{AgentState}
use Rattle.term_model.specs.declared.apdu.Apdu.{Apdu}
use Rattle.term_model.specs.declared.apdu.Apdu.TheVariants as apdus
use Rattle.term_model.specs.declared.request.Request.{Request}
use Rattle.term_model.specs.declared.schema.Set.{Set}
use Rattle.term_model.specs.ApduReading.{apdu_of, is_recognised}
use Rattle.term_model.specs.Arriving.{Arriving}
use Rattle.term_model.specs.Arriving.Arriving.{Rejected, Cancels, NoEffect, Queued}
use Rattle.term_model.specs.RequestReading.{cancelled_in, request_in}
use Rattle.agent_model.specs.Step.{is_outstanding_as}

-- general problems, of what has no invoke id
abbrev pub unrecognised_apdu : Arriving
unrecognised_apdu = Rejected None 0 (pos 0)

abbrev pub mistyped_apdu : Arriving
mistyped_apdu = Rejected None 0 (pos 1)

abbrev pub badly_structured_apdu : Arriving
badly_structured_apdu = Rejected None 0 (pos 2)

-- problems of an invoke
abbrev pub duplicate_invocation : ℤ → Arriving
duplicate_invocation id = Rejected (Some id) 1 (pos 0)

abbrev pub unrecognised_operation : ℤ → Arriving
unrecognised_operation id = Rejected (Some id) 1 (pos 1)

abbrev pub mistyped_argument : ℤ → Arriving
mistyped_argument id = Rejected (Some id) 1 (pos 2)

-- m-EventReport 0 and 1, and from m-Get 3 to m-Cancel-Get 10; m-Linked-Reply 2 is the agent's
abbrev pub is_operation : ℤ → Bool
is_operation op = int_eq op (pos 0) || (int_eq op (pos 1) || (int_le (pos 3) op && int_le op (pos 10)))

-- what the argument of an operation gives: m-Cancel-Get an invoke id that it cancels; else a request
abbrev pub argument_of : Set → ℤ → ℤ → TreeValue → Option Arriving
argument_of schema id op argument =
    if int_eq op (pos 10) then option_map (λ cancelled. Cancels id cancelled) (cancelled_in argument)
    else option_map (λ (request : Request). Queued (record { id = id; request = request }))
    (request_in schema op argument)

abbrev pub argued : Set → ℤ → ℤ → Option TreeValue → Arriving
argued schema id op argument =
    option_map_or (λ arriving. arriving) (option_and_then (argument_of schema id op) argument) (mistyped_argument id)

-- the invoke ids in use are told by a test
abbrev pub invoked : Set → (ℤ → Bool) → ℤ → ℤ → Option TreeValue → Arriving
invoked schema in_use id op argument =
    if is_operation op
    then (if in_use id then duplicate_invocation id else argued schema id op argument)
    else unrecognised_operation id

-- a linked id of an invoke is ignored; results, errors and rejects of a manager have no effect
abbrev pub of_apdu : Set → (ℤ → Bool) → Apdu → Arriving
of_apdu schema in_use (apdus.Invoke id linked op argument) = invoked schema in_use id op argument
of_apdu schema in_use _ = NoEffect

abbrev pub of_tree : Set → (ℤ → Bool) → TreeValue → Arriving
of_tree schema in_use tree =
    if is_recognised tree then option_map_or (of_apdu schema in_use) (apdu_of tree) mistyped_apdu
    else unrecognised_apdu

abbrev pub received_where : Set → (ℤ → Bool) → List ℕ → Arriving
received_where schema in_use apdu = option_map_or (of_tree schema in_use) (tree_in apdu) badly_structured_apdu

-- an operation of the association that has not ended was invoked under this id
abbrev pub is_in_use : AgentState → ℕ → ℤ → Bool
is_in_use agent number id = list_any (is_outstanding_as number id) agent.operations

-- what an APDU of the association under a number brings
abbrev pub received : AgentState → ℕ → List ℕ → Arriving
received agent number apdu = received_where agent.schema (is_in_use agent number) apdu
