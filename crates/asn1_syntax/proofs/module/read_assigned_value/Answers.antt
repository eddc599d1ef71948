-- The parts, one after the other.
use Rattle.asn1_syntax.proofs.ModuleApart.{value_apart, value_assigned}
use Rattle.asn1_values_syntax.proofs.FirstTokens.{quiet_unless}
use Rattle.asn1_values_syntax.proofs.Quiet.{fail_second, take_second}
use Rattle.asn1_values_syntax.specs.Asn1.{type_assignment}
use Rattle.std.proofs.Common.{codes, refl}
use Rattle.token_grammar.proofs.Exits.{exit_reads}
use Rattle.token_grammar.proofs.Sequences.{fails_front, fails_on, fails_rest, spelt_on, spelt_then}
use Rattle.token_grammar.specs.TokenTests.{is_sign_of}
use Rattle.asn1_syntax.proofs.module.read_assigned_value.Goals as goal

pub returns-in_err-of : goal.returns-in_err-of
returns-in_err-of c = λ away. exit_reads _ c.from_residual.result c.from_residual.ensures.1
    (fail_second (quiet_unless (is_sign_of (codes "::=")) type_assignment refl (λ t e. e) away)
    (fails_front value_apart c.in_err-of.ensures))

pub returns-in_err-value : goal.returns-in_err-value
returns-in_err-value c = λ away. exit_reads _ c.from_residual-in_err-value.result
    c.from_residual-in_err-value.ensures.1 (fail_second
    (quiet_unless (is_sign_of (codes "::=")) type_assignment refl (λ t e. e) away)
    (fails_rest c.in_ok-of.ensures value_apart (fails_on value_assigned c.in_err-value.ensures)))

pub returns : goal.returns
returns c = λ away. take_second (quiet_unless (is_sign_of (codes "::=")) type_assignment refl (λ t e. e) away)
    (spelt_then c.in_ok-of.ensures value_apart (spelt_on value_assigned c.in_ok-value.ensures))
