-- The parts, one after the other.
use Rattle.asn1_values_syntax.specs.Asn1.{asn1}
use Rattle.token_grammar.proofs.Exits.{exit_reads}
use Rattle.token_grammar.proofs.Sequences.{apart_closed, fails_front, fails_rest, spelt_then}
use Rattle.extra_syntax.proofs.step.read_emit_step.Goals as goal

pub returns-in_err-next : goal.returns-in_err-next
returns-in_err-next c = exit_reads _ c.from_residual.result c.from_residual.ensures.1 (fails_front apart_closed
    (c.in_err-next.ensures asn1))

pub returns-in_err-notification : goal.returns-in_err-notification
returns-in_err-notification c = exit_reads _ c.from_residual-in_err-notification.result
    c.from_residual-in_err-notification.ensures.1 (fails_rest (c.in_ok-next.ensures asn1) apart_closed
    (fails_front apart_closed (c.in_err-notification.ensures asn1)))

pub returns-in_err-value : goal.returns-in_err-value
returns-in_err-value c = exit_reads _ c.from_residual-in_err-value.result c.from_residual-in_err-value.ensures.1
    (fails_rest (c.in_ok-next.ensures asn1) apart_closed (fails_rest
    (c.in_ok-notification.ensures asn1) apart_closed c.in_err-value.ensures))

pub returns : goal.returns
returns c = spelt_then (c.in_ok-next.ensures asn1) apart_closed (spelt_then
    (c.in_ok-notification.ensures asn1) apart_closed c.in_ok-value.ensures)
