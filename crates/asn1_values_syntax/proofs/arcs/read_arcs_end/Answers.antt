-- The parts, one after the other.
use Rattle.asn1_values_syntax.specs.Asn1.{asn1}
use Rattle.asn1_values_syntax.specs.NumberTrees.{arcs_end_tree}
use Rattle.std.proofs.Common.{ap}
use Rattle.token_grammar.proofs.Exits.{exit_reads}
use Rattle.token_grammar.proofs.Parts.{arcs_apart, spelt_as}
use Rattle.token_grammar.proofs.Sequences.{fails_front, fails_rest, spelt_then}
use Rattle.asn1_values_syntax.proofs.arcs.read_arcs_end.Goals as goal

pub returns-in_err-arcs : goal.returns-in_err-arcs
returns-in_err-arcs c = exit_reads _ c.from_residual.result c.from_residual.ensures.1
    (fails_front arcs_apart c.in_err-arcs.ensures)

pub returns-in_err-next : goal.returns-in_err-next
returns-in_err-next c = exit_reads _ c.from_residual-in_err-next.result c.from_residual-in_err-next.ensures.1
    (fails_rest c.in_ok-arcs.ensures arcs_apart (c.in_err-next.ensures asn1))

pub returns : goal.returns
returns c = spelt_as (ap arcs_end_tree c.in_ok-boxed.ensures.ok) (spelt_then c.in_ok-arcs.ensures arcs_apart
    (c.in_ok-next.ensures asn1))
