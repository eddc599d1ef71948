-- The parts, one after the other.
use Rattle.asn1_syntax.proofs.ModuleApart.{from_apart}
use Rattle.asn1_values_syntax.specs.Asn1.{asn1}
use Rattle.token_grammar.proofs.Exits.{exit_reads}
use Rattle.token_grammar.proofs.Sequences.{apart_closed, fails_front, fails_rest, spelt_then}
use Rattle.asn1_syntax.proofs.module.read_imported_symbols.Goals as goal

pub returns-in_err-symbols : goal.returns-in_err-symbols
returns-in_err-symbols c = exit_reads _ c.from_residual.result c.from_residual.ensures.1
    (fails_front from_apart c.in_err-symbols.ensures)

pub returns-in_err-next : goal.returns-in_err-next
returns-in_err-next c = exit_reads _ c.from_residual-in_err-next.result c.from_residual-in_err-next.ensures.1
    (fails_rest c.in_ok-symbols.ensures from_apart (fails_front apart_closed (c.in_err-next.ensures asn1)))

pub returns-in_err-module_name : goal.returns-in_err-module_name
returns-in_err-module_name c = exit_reads _ c.from_residual-in_err-module_name.result
    c.from_residual-in_err-module_name.ensures.1 (fails_rest c.in_ok-symbols.ensures from_apart
    (fails_rest (c.in_ok-next.ensures asn1) apart_closed (fails_front apart_closed
    (c.in_err-module_name.ensures asn1))))

pub returns-in_err-identifier : goal.returns-in_err-identifier
returns-in_err-identifier c = exit_reads _ c.from_residual-in_err-identifier.result
    c.from_residual-in_err-identifier.ensures.1 (fails_rest c.in_ok-symbols.ensures from_apart
    (fails_rest (c.in_ok-next.ensures asn1) apart_closed (fails_rest (c.in_ok-module_name.ensures asn1) apart_closed
    c.in_err-identifier.ensures)))

pub returns : goal.returns
returns c = (spelt_then c.in_ok-symbols.ensures from_apart (spelt_then (c.in_ok-next.ensures asn1) apart_closed
    (spelt_then (c.in_ok-module_name.ensures asn1) apart_closed c.in_ok-identifier.ensures)))
