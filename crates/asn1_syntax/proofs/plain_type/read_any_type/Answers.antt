-- The parts, one after the other.
use Rattle.asn1_values_syntax.specs.Asn1.{asn1}
use Rattle.token_grammar.proofs.Exits.{exit_reads}
use Rattle.token_grammar.proofs.Sequences.{apart_closed, fails_front, fails_rest, spelt_then}
use Rattle.asn1_syntax.proofs.plain_type.read_any_type.Goals as goal

pub returns-in_err-word : goal.returns-in_err-word
returns-in_err-word c = exit_reads _ c.from_residual.result c.from_residual.ensures.1
    (fails_front apart_closed (c.in_err-word.ensures asn1))

pub returns-in_err-defined_by : goal.returns-in_err-defined_by
returns-in_err-defined_by c = exit_reads _ c.from_residual-in_err-defined_by.result
    c.from_residual-in_err-defined_by.ensures.1 (fails_rest (c.in_ok-word.ensures asn1) apart_closed
    c.in_err-defined_by.ensures)

pub returns : goal.returns
returns c = (spelt_then (c.in_ok-word.ensures asn1) apart_closed c.in_ok-defined_by.ensures)
