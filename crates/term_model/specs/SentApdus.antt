-- The APDUs in which the agent sends replies, reports and rejects, as values of the syntaxes of PduSyntaxes: X.229,
-- section 9; X.711, section 7; docs/PROFILE.md, section 4. What is sent is the one form of each in a frame.
use Rattle.std.specs.Prelude.{ℕ, ℤ, pos, List, true, Option, None, Some, nat_lt, length}
use Rattle.std.specs.Prelude.{if◌then◌else◌}
use Rattle.term_values.specs.Der.{encoded}
use Rattle.term_values.specs.PduSyntaxes.{invoke, reject, report_argument, return_error, return_result}
use Rattle.term_values.specs.Syntaxes.{TypeSyntax}
use Rattle.term_values.specs.Tag.{context}
use Rattle.term_values.specs.Typed.{TypedValue, TypedSlots}
use Rattle.term_values.specs.Typed.TypedSlots.{NoSlots, Filled, Empty}
use Rattle.term_values.specs.Typed.TypedValue.{Int, Parts, Pick, Raw, Time}
use Rattle.term_values.specs.Written.{der}
use Rattle.term_model.specs.declared.event.Event.{Event}
use Rattle.term_model.specs.declared.reply.Reply.{Reply}
use Rattle.term_model.specs.declared.reply.Reply.TheVariants as reply
use Rattle.term_model.specs.Apdu.{rejected}
use Rattle.term_model.specs.RemoteOperation.{frame}
use Rattle.term_model.specs.ResultValues.{global_value, local_instance}

-- what is of any type and stands in these octets, or is left out
abbrev pub raw_slot : Option (List ℕ) → TypedSlots → TypedSlots
raw_slot None rest = Empty rest
raw_slot (Some octets) rest = Filled (Raw octets) rest

-- a parameter of more than 32,768 octets is left out
abbrev pub parameter_slot : Option (List ℕ) → TypedSlots → TypedSlots
parameter_slot None rest = Empty rest
parameter_slot (Some octets) rest = if nat_lt 32768 (length octets) then Empty rest else Filled (Raw octets) rest

abbrev pub reply_syntax : Reply → TypeSyntax
reply_syntax (reply.Single result) = return_result
reply_syntax (reply.Linked number contents) = invoke
reply_syntax reply.Empty = return_result
reply_syntax (reply.Error error) = return_error

-- a reply to the operation that was invoked under this id. A linked reply is an Invoke of m-Linked-Reply, operation 2,
-- under the agent's own id, and linked to the operation's.
abbrev pub reply_value : ℤ → ℤ → ℤ → Reply → TypedValue
reply_value id operation own (reply.Single result) =
    Parts (Filled (Int id) (Filled (Parts (Filled (Int operation) (Filled (Raw result) NoSlots))) NoSlots))
reply_value id operation own (reply.Linked number contents) =
    Parts (Filled (Int own) (Filled (Int id) (Filled (Int (pos 2))
    (Filled (Raw (encoded true (context number) contents)) NoSlots))))
reply_value id operation own reply.Empty = Parts (Filled (Int id) (Empty NoSlots))
reply_value id operation own (reply.Error error) =
    Parts (Filled (Int id) (Filled (Int error.code) (parameter_slot error.parameter NoSlots)))

unfoldable pub sent_reply : ℤ → ℤ → ℤ → Reply → List ℕ
sent_reply id operation own answer = frame (der (reply_syntax answer) (reply_value id operation own answer))

-- an event report's argument: class, instance, time, event type and information
abbrev pub event_value : Event → TypedValue
event_value event =
    Parts (Filled (global_value event.class) (Filled (local_instance event.name) (Filled (Time event.time)
    (Filled (global_value event.kind) (raw_slot event.info NoSlots)))))

-- a report is an Invoke of m-EventReport, operation 0, under the agent's own id
abbrev pub report_value : ℤ → List ℕ → TypedValue
report_value own argument =
    Parts (Filled (Int own) (Empty (Filled (Int (pos 0)) (Filled (Raw argument) NoSlots))))

abbrev pub sent_event : ℤ → Event → List ℕ
sent_event own event = frame (der invoke (report_value own (der report_argument (event_value event))))

-- a reject of what came under this id, or under none that is known, with the class and the number of its problem
abbrev pub reject_value : Option ℤ → ℕ → ℤ → TypedValue
reject_value id class problem = Parts (Filled (rejected id) (Filled (Pick class (Int problem)) NoSlots))

abbrev pub sent_reject : Option ℤ → ℕ → ℤ → List ℕ
sent_reject id class problem = frame (der reject (reject_value id class problem))
