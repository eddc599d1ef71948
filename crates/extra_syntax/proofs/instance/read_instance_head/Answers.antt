-- The parts, one after the other.
use Rattle.asn1_values_syntax.specs.Asn1.{asn1}
use Rattle.token_grammar.proofs.Exits.{exit_reads}
use Rattle.token_grammar.proofs.Sequences.{apart_closed, fails_front, fails_rest, spelt_then}
use Rattle.extra_syntax.proofs.instance.read_instance_head.Goals as goal

pub returns-in_err-kind : goal.returns-in_err-kind
returns-in_err-kind c = exit_reads _ c.from_residual.result c.from_residual.ensures.1
    (fails_front apart_closed c.in_err-kind.ensures)

pub returns-in_err-class : goal.returns-in_err-class
returns-in_err-class c = exit_reads _ c.from_residual-in_err-class.result c.from_residual-in_err-class.ensures.1
    (fails_rest c.in_ok-kind.ensures apart_closed (fails_front apart_closed (c.in_err-class.ensures asn1)))

pub returns-in_err-next : goal.returns-in_err-next
returns-in_err-next c = exit_reads _ c.from_residual-in_err-next.result c.from_residual-in_err-next.ensures.1
    (fails_rest c.in_ok-kind.ensures apart_closed (fails_rest (c.in_ok-class.ensures asn1) apart_closed
    (fails_front apart_closed (c.in_err-next.ensures asn1))))

pub returns-in_err-name : goal.returns-in_err-name
returns-in_err-name c = exit_reads _ c.from_residual-in_err-name.result c.from_residual-in_err-name.ensures.1
    (fails_rest c.in_ok-kind.ensures apart_closed (fails_rest (c.in_ok-class.ensures asn1) apart_closed (fails_rest
    (c.in_ok-next.ensures asn1) apart_closed c.in_err-name.ensures)))

pub returns : goal.returns
returns c = spelt_then c.in_ok-kind.ensures apart_closed (spelt_then (c.in_ok-class.ensures asn1) apart_closed
    (spelt_then (c.in_ok-next.ensures asn1) apart_closed c.in_ok-name.ensures))
