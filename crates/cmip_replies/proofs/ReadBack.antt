-- What is sent is read again: the laws of ReplyLaws from those of APDUs and of typed values.
use Rattle.std.proofs.Common.{◌≡◌, ◌≤◌, ◌<◌, ℕ, ℤ, pos, true, false, List, [], ◌++◌, refl, sym, ap, ◌∙◌, arith, w64}
use Rattle.std.proofs.lemmas.Bool.{le-ltb, lt-ltb}
use Rattle.std.proofs.lemmas.Int.{fits_signed_from_abs}
use Rattle.std.specs.Prelude.{Option, None, Some, FitsSigned, length, nat_lt, if◌then◌else◌}
use Rattle.std.specs.Option.{option_map}
use Rattle.term_values.specs.Der.{encoded}
use Rattle.term_values.specs.Octets.{integer_contents}
use Rattle.term_values.specs.Syntaxes.{TypeSyntax}
use Rattle.term_values.specs.Tag.{context}
use Rattle.term_values.specs.Written.{der}
use Rattle.typed_laws.specs.WritingLaws.{WrittenIsReadAgain}
use Rattle.term_model.specs.declared.apdu.Apdu.{Apdu}
use Rattle.term_model.specs.declared.apdu.Apdu.TheVariants as apdus
use Rattle.term_model.specs.declared.reply.Reply.TheVariants as reply
use Rattle.term_model.specs.ApduWriting.{apdu_octets, invoke_apdu}
use Rattle.term_model.specs.RemoteOperation.{error_apdu, frame, integer, result_apdu}
use Rattle.term_model.specs.Replies.{cmis_error, single}
use Rattle.rose_frames.specs.ApduLaws.{IsSound, WrittenIsApdu, WrittenIsReadBack}
use Rattle.cmip_replies.specs.ReplyLaws.{EmptyIsReadBack, ErrorIsReadBack, EventIsReadBack, IsFrameOf}
use Rattle.cmip_replies.specs.ReplyLaws.{LinkedIsReadBack, LongErrorIsReadBack, RejectIsReadBack, SingleIsReadBack}
use Rattle.cmip_replies.specs.ReplyOctets.{sent_parameter}
use Rattle.cmip_replies.proofs.SentForms.{argument_sent, event_sent, reject_sent, reply_sent}

framed : WrittenIsApdu → WrittenIsReadBack → (octets : List ℕ) (apdu : Apdu) → IsSound apdu
    → octets ≡ frame (apdu_octets apdu) → IsFrameOf octets apdu
framed told back octets apdu sound whole = record {
  whole = whole;
  read = (told apdu sound).1;
  spelt = λ rest fits. back apdu rest fits;
}

pub single_back : WrittenIsApdu → WrittenIsReadBack → WrittenIsReadAgain → SingleIsReadBack
single_back told back again id op own syntax value small fits can =
    let r = again syntax value can in
    let tree = r.0 in (
      tree,
      framed told back _ (apdus.Result id (Some op) (Some tree)) (small, fits)
          (reply_sent id op own (single syntax value) ∙ ap (λ xs. frame (result_apdu id op xs)) r.1.whole),
      r.1.read,
    )

pub linked_back : WrittenIsApdu → WrittenIsReadBack → WrittenIsReadAgain → LinkedIsReadBack
linked_back told back again id op own number contents value small own_small can same =
    let r = again _ _ can in
    let tree = r.0 in (
      tree,
      framed told back _ (apdus.Invoke own (Some id) (pos 2) (Some tree))
          (own_small, small, fits_signed_from_abs w64 (pos 2) (omega arith))
          (reply_sent id op own (reply.Linked number contents)
          ∙ ap (λ xs. frame (encoded true (context 1)
          (integer own ++ (encoded false (context 0) (integer_contents id) ++ (integer (pos 2) ++ xs)))))
          (same ∙ r.1.whole)),
      r.1.read,
    )

pub empty_back : WrittenIsApdu → WrittenIsReadBack → EmptyIsReadBack
empty_back told back id op own small =
    framed told back _ (apdus.Result id None None) (small, tt) (reply_sent id op own reply.Empty)

-- a parameter that is not too long is sent, and a longer one is not
short_sent : (parameter : List ℕ) → length parameter ≤ 32768 → sent_parameter (Some parameter) ≡ parameter
short_sent parameter within = rw (le-ltb 32768 (length parameter) within) refl

long_unsent : (parameter : List ℕ) → 32768 < length parameter → sent_parameter (Some parameter) ≡ []
long_unsent parameter beyond = rw (lt-ltb 32768 (length parameter) beyond) refl

pub error_back : WrittenIsApdu → WrittenIsReadBack → WrittenIsReadAgain → ErrorIsReadBack
error_back told back again id op own code syntax value small fits has can within =
    let r = again syntax value can in
    let tree = r.0 in (
      tree,
      framed told back _ (apdus.Error id (pos code) (Some tree)) (small, fits)
          (reply_sent id op own (reply.Error (cmis_error code value))
          ∙ ap (λ (o : Option TypeSyntax). frame (error_apdu id (pos code)
          (sent_parameter (option_map (λ s. der s value) o)))) has
          ∙ ap (λ xs. frame (error_apdu id (pos code) xs)) (short_sent (der syntax value) within ∙ r.1.whole)),
      r.1.read,
    )

pub long_error_back : WrittenIsApdu → WrittenIsReadBack → LongErrorIsReadBack
long_error_back told back id op own code parameter small fits beyond =
    framed told back _ (apdus.Error id code None) (small, fits)
    (reply_sent id op own (reply.Error (record { code = code; parameter = Some parameter }))
    ∙ ap (λ xs. frame (error_apdu id code xs)) (long_unsent parameter beyond))

pub event_back : WrittenIsApdu → WrittenIsReadBack → WrittenIsReadAgain → EventIsReadBack
event_back told back again own event small can =
    let r = again _ _ can in
    let tree = r.0 in (
      tree,
      framed told back _ (apdus.Invoke own None (pos 0) (Some tree))
          (small, tt, fits_signed_from_abs w64 (pos 0) (omega arith))
          (event_sent own event
          ∙ ap (λ xs. frame (invoke_apdu own None (pos 0) xs)) (argument_sent event ∙ r.1.whole)),
      r.1.read,
    )

pub reject_back : WrittenIsApdu → WrittenIsReadBack → RejectIsReadBack
reject_back told back id class problem small within fits =
    framed told back _ (apdus.Reject id class problem) (small, within, fits) (reject_sent id class problem within)
