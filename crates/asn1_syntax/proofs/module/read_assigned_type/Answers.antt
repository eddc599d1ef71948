-- The parts, one after the other.
use Rattle.asn1_syntax.proofs.ModuleApart.{type_assigned}
use Rattle.asn1_values_syntax.proofs.FirstTokens.{quiet_sign}
use Rattle.asn1_values_syntax.proofs.Quiet.{fail_first, take_first}
use Rattle.asn1_values_syntax.specs.Asn1.{asn1, value_assignment}
use Rattle.std.proofs.Common.{codes, refl}
use Rattle.token_grammar.proofs.Exits.{exit_reads}
use Rattle.token_grammar.proofs.Sequences.{apart_closed, fails_front, fails_on, fails_rest, spelt_on, spelt_then}
use Rattle.asn1_syntax.proofs.module.read_assigned_type.Goals as goal

pub returns-in_err-next : goal.returns-in_err-next
returns-in_err-next c = λ here. exit_reads _ c.from_residual.result c.from_residual.ensures.1
    (fail_first (fails_front apart_closed (c.in_err-next.ensures asn1))
    (quiet_sign (codes "::=") value_assignment here (λ at. refl)))

pub returns-in_err-of : goal.returns-in_err-of
returns-in_err-of c = λ here. exit_reads _ c.from_residual-in_err-of.result c.from_residual-in_err-of.ensures.1
    (fail_first (fails_rest (c.in_ok-next.ensures asn1) apart_closed (fails_on type_assigned c.in_err-of.ensures))
    (quiet_sign (codes "::=") value_assignment here (λ at. refl)))

pub returns : goal.returns
returns c = λ here. take_first (spelt_then (c.in_ok-next.ensures asn1) apart_closed
    (spelt_on type_assigned c.in_ok-of.ensures)) (quiet_sign (codes "::=") value_assignment here (λ at. refl))
