-- The octets with which results begin, those of an action's reply and of a failure's reason: words for the clauses of
-- private functions. That they are the one form of the values is said in ResultLaws. X.711, section 7.5.
use Rattle.std.specs.Prelude.{ℕ, List, [], ◌++◌, false, true, Option, None, Some}
use Rattle.term_values.specs.Der.{encoded}
use Rattle.term_values.specs.Oid.{oid_contents}
use Rattle.term_values.specs.Tag.{context, universal}
use Rattle.term_model.specs.declared.name.Rdn.{Rdn}
use Rattle.term_model.specs.declared.results.ActionReply.{ActionReply}
use Rattle.term_model.specs.declared.results.FailureReason.{FailureReason}
use Rattle.term_model.specs.FailureValues.{reason_id}
use Rattle.term_model.specs.GetRequest.{class_octets, instance_octets}
use Rattle.term_model.specs.ObjectOperation.{time_octets}

-- class, instance and time
abbrev pub told_octets : List ℕ → List Rdn → List ℕ → List ℕ
told_octets class name time = class_octets class ++ (instance_octets name ++ time_octets time)

-- an action's reply, where there is one
abbrev pub reply_octets : Option ActionReply → List ℕ
reply_octets None = []
reply_octets (Some reply) =
    encoded true (context 6)
    (encoded false (context 2) (oid_contents reply.action) ++ encoded true (context 4) reply.info)

-- the reason of a processingFailure under its tag
abbrev pub reason_octets : FailureReason → List ℕ
reason_octets reason =
    encoded true (context 5)
    (encoded true (universal 16)
    (encoded false (universal 6) (oid_contents (reason_id reason)) ++ encoded false (universal 5) []))
