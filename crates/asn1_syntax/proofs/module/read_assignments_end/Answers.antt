-- The parts, one after the other.
use Rattle.asn1_syntax.proofs.ModuleApart.{end_apart}
use Rattle.asn1_values_syntax.specs.Asn1.{asn1}
use Rattle.token_grammar.proofs.Exits.{exit_reads}
use Rattle.token_grammar.proofs.Sequences.{fails_front, fails_rest, spelt_then}
use Rattle.asn1_syntax.proofs.module.read_assignments_end.Goals as goal

pub returns-in_err-assignments : goal.returns-in_err-assignments
returns-in_err-assignments c = exit_reads _ c.from_residual.result c.from_residual.ensures.1
    (fails_front end_apart c.in_err-assignments.ensures)

pub returns-in_err-next : goal.returns-in_err-next
returns-in_err-next c = exit_reads _ c.from_residual-in_err-next.result c.from_residual-in_err-next.ensures.1
    (fails_rest c.in_ok-assignments.ensures end_apart (c.in_err-next.ensures asn1))

pub returns : goal.returns
returns c = spelt_then c.in_ok-assignments.ensures end_apart (c.in_ok-next.ensures asn1)
