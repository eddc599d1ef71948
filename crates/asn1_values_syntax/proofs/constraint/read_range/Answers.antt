-- The parts, one after the other.
use Rattle.token_grammar.proofs.Exits.{exit_reads}
use Rattle.token_grammar.proofs.Sequences.{apart_closed, fails_front, fails_rest, spelt_then}
use Rattle.asn1_values_syntax.proofs.constraint.read_range.Goals as goal

pub returns-in_err-lower : goal.returns-in_err-lower
returns-in_err-lower c = exit_reads _ c.from_residual.result c.from_residual.ensures.1
    (fails_front apart_closed c.in_err-lower.ensures)

pub returns-in_err-upper : goal.returns-in_err-upper
returns-in_err-upper c = exit_reads _ c.from_residual-in_err-upper.result c.from_residual-in_err-upper.ensures.1
    (fails_rest c.in_ok-lower.ensures apart_closed c.in_err-upper.ensures)

pub returns : goal.returns
returns c = (spelt_then c.in_ok-lower.ensures apart_closed c.in_ok-upper.ensures)
