-- The parts, one after the other.
use Rattle.extra_syntax.proofs.Apart.{steps_apart}
use Rattle.asn1_values_syntax.specs.Asn1.{asn1}
use Rattle.token_grammar.proofs.Exits.{exit_reads}
use Rattle.token_grammar.proofs.Sequences.{apart_closed, fails_front, fails_rest, spelt_then}
use Rattle.extra_syntax.proofs.rule.read_rule.Goals as goal

pub returns-in_err-head : goal.returns-in_err-head
returns-in_err-head c = exit_reads _ c.from_residual.result c.from_residual.ensures.1
    (fails_front apart_closed c.in_err-head.ensures)

pub returns-in_err-steps : goal.returns-in_err-steps
returns-in_err-steps c = exit_reads _ c.from_residual-in_err-steps.result c.from_residual-in_err-steps.ensures.1
    (fails_rest c.in_ok-head.ensures apart_closed (fails_front steps_apart c.in_err-steps.ensures))

pub returns-in_err-next : goal.returns-in_err-next
returns-in_err-next c = exit_reads _ c.from_residual-in_err-next.result c.from_residual-in_err-next.ensures.1
    (fails_rest c.in_ok-head.ensures apart_closed (fails_rest c.in_ok-steps.ensures steps_apart
    (c.in_err-next.ensures asn1)))

pub returns : goal.returns
returns c = spelt_then c.in_ok-head.ensures apart_closed (spelt_then c.in_ok-steps.ensures steps_apart
    (c.in_ok-next.ensures asn1))
