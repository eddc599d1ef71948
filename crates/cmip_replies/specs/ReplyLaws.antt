-- What holds of replies, reports and rejects that are sent and read again: X.229, section 9; X.711, section 7; X.690,
-- section 10.
use Rattle.std.specs.Int.{w64}
use Rattle.std.specs.Prelude.{◌≡◌, ◌≤◌, ◌<◌, ℕ, ℤ, pos, List, ◌++◌, true, Option, None, Some, FitsSigned, length}
use Rattle.term_values.specs.Ber.{most_depth}
use Rattle.term_values.specs.BerReading.{tree_at}
use Rattle.term_values.specs.Decoding.{value_in}
use Rattle.term_values.specs.Der.{encoded}
use Rattle.term_values.specs.PduSyntaxes.{report_argument}
use Rattle.term_values.specs.ResultSyntaxes.{error_parameter, linked_reply}
use Rattle.term_values.specs.Syntaxes.{TypeSyntax}
use Rattle.term_values.specs.Tag.{context}
use Rattle.term_values.specs.Tree.{TreeValue}
use Rattle.term_values.specs.Typed.{TypedValue}
use Rattle.term_values.specs.Typed.TypedValue.{Pick}
use Rattle.term_values.specs.Writable.{IsWritable}
use Rattle.term_values.specs.Written.{der}
use Rattle.typed_laws.specs.WritingLaws.{CanBeWritten}
use Rattle.term_model.specs.declared.apdu.Apdu.{Apdu}
use Rattle.term_model.specs.declared.apdu.Apdu.TheVariants as apdus
use Rattle.term_model.specs.declared.event.Event.{Event}
use Rattle.term_model.specs.declared.reply.Reply.TheVariants as reply
use Rattle.term_model.specs.ApduReading.{apdu_of}
use Rattle.term_model.specs.ApduWriting.{apdu_octets}
use Rattle.term_model.specs.RemoteOperation.{frame}
use Rattle.term_model.specs.Replies.{cmis_error, single}
use Rattle.term_model.specs.SentApdus.{event_value, sent_event, sent_reject, sent_reply}
use Rattle.rose_frames.specs.ApduLaws.{IsId, IsOptionalId, apdu_tree}

-- the octets are one frame with the one form of the APDU, which is read from its tree; the tree is read from that form,
-- whatever follows, where at most so many constructed values stand inside one another and the octets are few enough
pub record IsFrameOf (octets : List ℕ) (apdu : Apdu) : Type 0 where
  pub whole : octets ≡ frame (apdu_octets apdu)
  pub read : apdu_of (apdu_tree apdu) ≡ Some apdu
  pub spelt : (rest : List ℕ) → IsWritable most_depth (apdu_tree apdu)
      → tree_at most_depth (apdu_octets apdu ++ rest) ≡ Some (apdu_tree apdu, rest)

-- a result has a value of its syntax, which is read from the tree in it
abbrev pub SingleIsReadBack : Type 0
SingleIsReadBack =
    (id op own : ℤ) (syntax : TypeSyntax) (value : TypedValue) → IsId id → FitsSigned w64 op
    → CanBeWritten syntax value
    → (tree : TreeValue) × IsFrameOf (sent_reply id op own (single syntax value))
    (apdus.Result id (Some op) (Some tree))
    × (value_in syntax tree ≡ Some value)

-- a linked reply has a value of LinkedReply
abbrev pub LinkedIsReadBack : Type 0
LinkedIsReadBack =
    (id op own : ℤ) (number : ℕ) (contents : List ℕ) (value : TypedValue) → IsId id → IsId own
    → CanBeWritten linked_reply (Pick number value)
    → encoded true (context number) contents ≡ der linked_reply (Pick number value)
    → (tree : TreeValue)
    × IsFrameOf (sent_reply id op own (reply.Linked number contents)) (apdus.Invoke own (Some id) (pos 2) (Some tree))
    × (value_in linked_reply tree ≡ Some (Pick number value))

abbrev pub EmptyIsReadBack : Type 0
EmptyIsReadBack =
    (id op own : ℤ) → IsId id → IsFrameOf (sent_reply id op own reply.Empty) (apdus.Result id None None)

-- an error has a value of the syntax that its number has
abbrev pub ErrorIsReadBack : Type 0
ErrorIsReadBack =
    (id op own : ℤ) (code : ℕ) (syntax : TypeSyntax) (value : TypedValue) → IsId id → FitsSigned w64 (pos code)
    → error_parameter code ≡ Some syntax → CanBeWritten syntax value → length (der syntax value) ≤ 32768
    → (tree : TreeValue)
    × IsFrameOf (sent_reply id op own (reply.Error (cmis_error code value))) (apdus.Error id (pos code) (Some tree))
    × (value_in syntax tree ≡ Some value)

-- and none, where that has more than 32,768 octets
abbrev pub LongErrorIsReadBack : Type 0
LongErrorIsReadBack =
    (id op own code : ℤ) (parameter : List ℕ) → IsId id → FitsSigned w64 code → 32768 < length parameter
    → IsFrameOf (sent_reply id op own (reply.Error (record { code = code; parameter = Some parameter })))
    (apdus.Error id code None)

-- a report has the event's value
abbrev pub EventIsReadBack : Type 0
EventIsReadBack =
    (own : ℤ) (event : Event) → IsId own → CanBeWritten report_argument (event_value event)
    → (tree : TreeValue) × IsFrameOf (sent_event own event) (apdus.Invoke own None (pos 0) (Some tree))
    × (value_in report_argument tree ≡ Some (event_value event))

abbrev pub RejectIsReadBack : Type 0
RejectIsReadBack =
    (id : Option ℤ) (class : ℕ) (problem : ℤ) → IsOptionalId id → class < 4 → FitsSigned w64 problem
    → IsFrameOf (sent_reject id class problem) (apdus.Reject id class problem)
