-- What the answers of a reader of APDUs stand for: X.229, sections 8 and 9; X.711, section 7.
use Rattle.std.specs.Prelude.{◌<◌, ℤ, List, Bool}
use Rattle.std.specs.List.{list_any}
use Rattle.std.specs.Ordering.{int_eq}
use Rattle.term_model.specs.declared.schema.Set.{Set}
use Rattle.term_model.specs.Arriving.{Arriving}
use Rattle.term_model.specs.Arriving.Arriving.{Rejected, Cancels, NoEffect, Queued}
use Rattle.operation_model.specs.OperationConditions.{HasValidFilter}
use Rattle.apdu_receiving.specs.declared.received.Received.{Received}
use Rattle.apdu_receiving.specs.declared.received.Received.TheVariants as received

-- what the agent takes an answer for
abbrev pub arriving_of : Received → Arriving
arriving_of (received.Rejected id class problem) = Rejected id class problem
arriving_of (received.Cancels id cancelled) = Cancels id cancelled
arriving_of received.NoEffect = NoEffect
arriving_of (received.Queued invocation) = Queued invocation

-- the class of a problem is one of the four that there are
abbrev pub HasSmallClass : Received → Type 0
HasSmallClass (received.Rejected id class problem) = class < 4
HasSmallClass _ = Unit {0}

-- the filter of a request that is queued is valid under the schema, where it is one to be asked
abbrev pub HasValidRequest : Set → Received → Type 0
HasValidRequest schema (received.Queued invocation) = HasValidFilter schema invocation.request
HasValidRequest schema _ = Unit {0}

-- the invoke ids in use, as a test
abbrev pub is_listed : List ℤ → ℤ → Bool
is_listed ids id = list_any (λ used. int_eq used id) ids
