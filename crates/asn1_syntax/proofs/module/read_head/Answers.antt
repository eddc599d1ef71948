-- The parts, one after the other.
use Rattle.asn1_syntax.proofs.ModuleApart.{head_apart}
use Rattle.asn1_values_syntax.specs.Asn1.{asn1}
use Rattle.token_grammar.proofs.Exits.{exit_reads}
use Rattle.token_grammar.proofs.Sequences.{apart_closed, fails_front, fails_rest, spelt_then}
use Rattle.asn1_syntax.proofs.module.read_head.Goals as goal

pub returns-in_err-name : goal.returns-in_err-name
returns-in_err-name c = exit_reads _ c.from_residual.result c.from_residual.ensures.1
    (fails_front apart_closed (c.in_err-name.ensures asn1))

pub returns-in_err-identifier : goal.returns-in_err-identifier
returns-in_err-identifier c = exit_reads _ c.from_residual-in_err-identifier.result
    c.from_residual-in_err-identifier.ensures.1 (fails_rest (c.in_ok-name.ensures asn1) apart_closed
    (fails_front head_apart c.in_err-identifier.ensures))

pub returns-in_err-tag_default : goal.returns-in_err-tag_default
returns-in_err-tag_default c = exit_reads _ c.from_residual-in_err-tag_default.result
    c.from_residual-in_err-tag_default.ensures.1 (fails_rest (c.in_ok-name.ensures asn1) apart_closed
    (fails_rest c.in_ok-identifier.ensures head_apart c.in_err-tag_default.ensures))

pub returns : goal.returns
returns c = spelt_then (c.in_ok-name.ensures asn1) apart_closed (spelt_then c.in_ok-identifier.ensures head_apart
    c.in_ok-tag_default.ensures)
