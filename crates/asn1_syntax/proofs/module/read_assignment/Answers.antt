-- The parts, one after the other.
use Rattle.asn1_values_syntax.specs.Asn1.{asn1}
use Rattle.token_grammar.proofs.Exits.{exit_reads}
use Rattle.token_grammar.proofs.Sequences.{apart_closed, fails_front, fails_rest, spelt_then}
use Rattle.asn1_syntax.proofs.module.read_assignment.Goals as goal

pub returns-in_err-name : goal.returns-in_err-name
returns-in_err-name c = exit_reads _ c.from_residual.result c.from_residual.ensures.1
    (fails_front apart_closed (c.in_err-name.ensures asn1))

pub returns-in_err-assigned : goal.returns-in_err-assigned
returns-in_err-assigned c = exit_reads _ c.from_residual-in_err-assigned.result
    c.from_residual-in_err-assigned.ensures.1 (fails_rest (c.in_ok-name.ensures asn1) apart_closed
    c.in_err-assigned.ensures)

pub returns : goal.returns
returns c = (spelt_then (c.in_ok-name.ensures asn1) apart_closed c.in_ok-assigned.ensures)
