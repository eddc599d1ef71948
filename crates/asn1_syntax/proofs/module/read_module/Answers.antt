-- The parts, one after the other.
use Rattle.asn1_values_syntax.specs.ValueForms.{modules}
use Rattle.token_grammar.proofs.Exits.{exit_reads}
use Rattle.token_grammar.proofs.Sequences.{apart_closed, fails_front, fails_named, fails_rest, spelt_named, spelt_then}
use Rattle.asn1_syntax.proofs.module.read_module.Goals as goal

pub returns-in_err-head : goal.returns-in_err-head
returns-in_err-head c = exit_reads _ c.from_residual.result c.from_residual.ensures.1
    (fails_named modules (fails_front apart_closed c.in_err-head.ensures))

pub returns-in_err-body : goal.returns-in_err-body
returns-in_err-body c = exit_reads _ c.from_residual-in_err-body.result c.from_residual-in_err-body.ensures.1
    (fails_named modules (fails_rest c.in_ok-head.ensures apart_closed c.in_err-body.ensures))

pub returns : goal.returns
returns c = spelt_named modules (spelt_then c.in_ok-head.ensures apart_closed c.in_ok-body.ensures)
