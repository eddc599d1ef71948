-- The parts, one after the other.
use Rattle.asn1_values_syntax.proofs.FirstTokens.{quiet_name, quiet_unless}
use Rattle.asn1_values_syntax.proofs.Quiet.{fail_first, fail_second, take_first, take_second}
use Rattle.asn1_values_syntax.specs.Asn1.{asn1}
use Rattle.asn1_values_syntax.specs.ValueForms.{signed_number}
use Rattle.std.proofs.Common.{refl, sym, ◌∙◌}
use Rattle.token_grammar.proofs.Exits.{exit_reads}
use Rattle.token_grammar.specs.Form.{Keep}
use Rattle.token_grammar.specs.TokenTests.{is_name}
use Rattle.asn1_values_syntax.proofs.numbers.read_bound.Goals as goal

pub returns-in_err-name : goal.returns-in_err-name
returns-in_err-name c = exit_reads _ c.from_residual.result c.from_residual.ensures.1
    (fail_second (quiet_name signed_number (sym c.is_name_at.ensures ∙ c.if-is_name_at.true) (λ at text. refl))
    (c.in_err-name.ensures asn1))

pub returns-then-is_name_at : goal.returns-then-is_name_at
returns-then-is_name_at c = take_second (quiet_name signed_number (sym c.is_name_at.ensures ∙ c.if-is_name_at.true)
    (λ at text. refl)) (c.in_ok-name.ensures asn1)

pub returns-in_err-number : goal.returns-in_err-number
returns-in_err-number c = exit_reads _ c.from_residual-in_err-number.result c.from_residual-in_err-number.ensures.1
    (fail_first c.in_err-number.ensures (quiet_unless is_name (Keep is_name) refl (λ t e. e)
    (sym c.is_name_at.ensures ∙ c.if-is_name_at.false)))

pub returns : goal.returns
returns c = take_first c.in_ok-number.ensures (quiet_unless is_name (Keep is_name) refl (λ t e. e)
    (sym c.is_name_at.ensures ∙ c.if-is_name_at.false))
