-- The parts, one after the other.
use Rattle.asn1_values_syntax.specs.Asn1.{asn1}
use Rattle.token_grammar.proofs.Exits.{exit_reads}
use Rattle.token_grammar.proofs.Sequences.{apart_closed, fails_front, fails_rest, spelt_then}
use Rattle.extra_syntax.proofs.step.read_reply_step.Goals as goal

pub returns-in_err-next : goal.returns-in_err-next
returns-in_err-next c = exit_reads _ c.from_residual.result c.from_residual.ensures.1 (fails_front apart_closed
    (c.in_err-next.ensures asn1))

pub returns-in_err-reply : goal.returns-in_err-reply
returns-in_err-reply c = exit_reads _ c.from_residual-in_err-reply.result c.from_residual-in_err-reply.ensures.1
    (fails_rest (c.in_ok-next.ensures asn1) apart_closed c.in_err-reply.ensures)

pub returns : goal.returns
returns c = spelt_then (c.in_ok-next.ensures asn1) apart_closed c.in_ok-reply.ensures
