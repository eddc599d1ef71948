-- The octets of what is sent: words for the clauses of private functions. That they are the one form of the values is
-- said by the clauses of the public ones. X.229, section 9; X.711, section 7.
use Rattle.std.specs.Prelude.{ℕ, ℤ, List, [], ◌++◌, Option, None, Some, false, true, nat_lt, length}
use Rattle.std.specs.Prelude.{if◌then◌else◌}
use Rattle.term_values.specs.Der.{encoded}
use Rattle.term_values.specs.Oid.{oid_contents}
use Rattle.term_values.specs.Tag.{context, universal}
use Rattle.term_model.specs.declared.event.Event.{Event}
use Rattle.term_model.specs.declared.reply.Reply.{Reply}
use Rattle.term_model.specs.declared.reply.Reply.TheVariants as reply
use Rattle.term_model.specs.GetRequest.{class_octets, instance_octets}
use Rattle.term_model.specs.ObjectOperation.{time_octets}
use Rattle.term_model.specs.RemoteOperation.{empty_result_apdu, error_apdu, linked_apdu, result_apdu}

-- a parameter of more than 32,768 octets is left out
abbrev pub sent_parameter : Option (List ℕ) → List ℕ
sent_parameter None = []
sent_parameter (Some parameter) = if nat_lt 32768 (length parameter) then [] else parameter

abbrev pub reply_apdu : ℤ → ℤ → ℤ → Reply → List ℕ
reply_apdu id operation own (reply.Single result) = result_apdu id operation result
reply_apdu id operation own (reply.Linked number contents) = linked_apdu own id number contents
reply_apdu id operation own reply.Empty = empty_result_apdu id
reply_apdu id operation own (reply.Error error) = error_apdu id error.code (sent_parameter error.parameter)

-- a report's information, where there is some
abbrev pub info_octets : Option (List ℕ) → List ℕ
info_octets None = []
info_octets (Some info) = encoded true (context 8) info

-- when something happened, what it was and its information
abbrev pub happened_octets : Event → List ℕ
happened_octets event =
    time_octets event.time ++ (encoded false (context 6) (oid_contents event.kind) ++ info_octets event.info)

abbrev pub event_octets : Event → List ℕ
event_octets event = class_octets event.class ++ (instance_octets event.name ++ happened_octets event)

abbrev pub argument_octets : Event → List ℕ
argument_octets event = encoded true (universal 16) (event_octets event)
