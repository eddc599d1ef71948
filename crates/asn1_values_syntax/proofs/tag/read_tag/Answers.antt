-- The parts, one after the other.
use Rattle.asn1_values_syntax.proofs.BoundsApart.{class_apart}
use Rattle.asn1_values_syntax.specs.Asn1.{asn1}
use Rattle.token_grammar.proofs.Exits.{exit_reads}
use Rattle.token_grammar.proofs.Sequences.{apart_closed, fails_front, fails_rest, spelt_then}
use Rattle.asn1_values_syntax.proofs.tag.read_tag.Goals as goal

pub returns-in_err-bracket : goal.returns-in_err-bracket
returns-in_err-bracket c = exit_reads _ c.from_residual.result c.from_residual.ensures.1
    (fails_front apart_closed (c.in_err-bracket.ensures asn1))

pub returns-in_err-class : goal.returns-in_err-class
returns-in_err-class c = exit_reads _ c.from_residual-in_err-class.result c.from_residual-in_err-class.ensures.1
    (fails_rest (c.in_ok-bracket.ensures asn1) apart_closed (fails_front class_apart c.in_err-class.ensures))

pub returns-in_err-number : goal.returns-in_err-number
returns-in_err-number c = exit_reads _ c.from_residual-in_err-number.result c.from_residual-in_err-number.ensures.1
    (fails_rest (c.in_ok-bracket.ensures asn1) apart_closed (fails_rest c.in_ok-class.ensures class_apart
    (fails_front apart_closed c.in_err-number.ensures)))

pub returns-in_err-next : goal.returns-in_err-next
returns-in_err-next c = exit_reads _ c.from_residual-in_err-next.result c.from_residual-in_err-next.ensures.1
    (fails_rest (c.in_ok-bracket.ensures asn1) apart_closed (fails_rest c.in_ok-class.ensures class_apart
    (fails_rest c.in_ok-number.ensures apart_closed (c.in_err-next.ensures asn1))))

pub returns : goal.returns
returns c = (spelt_then (c.in_ok-bracket.ensures asn1) apart_closed
    (spelt_then c.in_ok-class.ensures class_apart (spelt_then c.in_ok-number.ensures apart_closed
    (c.in_ok-next.ensures asn1))))
