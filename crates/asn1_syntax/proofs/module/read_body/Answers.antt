-- The parts, one after the other.
use Rattle.asn1_syntax.proofs.ModuleApart.{assignments_away, imports_away}
use Rattle.token_grammar.proofs.Exits.{exit_reads}
use Rattle.token_grammar.proofs.Sequences.{fails_front, fails_rest, spelt_then}
use Rattle.asn1_syntax.proofs.module.read_body.Goals as goal

pub returns-in_err-exports : goal.returns-in_err-exports
returns-in_err-exports c = exit_reads _ c.from_residual.result c.from_residual.ensures.1
    (fails_front imports_away c.in_err-exports.ensures)

pub returns-in_err-imports : goal.returns-in_err-imports
returns-in_err-imports c = exit_reads _ c.from_residual-in_err-imports.result c.from_residual-in_err-imports.ensures.1
    (fails_rest c.in_ok-exports.ensures imports_away (fails_front assignments_away c.in_err-imports.ensures))

pub returns-in_err-assignments : goal.returns-in_err-assignments
returns-in_err-assignments c = exit_reads _ c.from_residual-in_err-assignments.result
    c.from_residual-in_err-assignments.ensures.1 (fails_rest c.in_ok-exports.ensures imports_away
    (fails_rest c.in_ok-imports.ensures assignments_away c.in_err-assignments.ensures))

pub returns : goal.returns
returns c = spelt_then c.in_ok-exports.ensures imports_away (spelt_then c.in_ok-imports.ensures assignments_away
    c.in_ok-assignments.ensures)
