-- The parts, one after the other.
use Rattle.asn1_values_syntax.proofs.FirstTokens.{quiet_unless}
use Rattle.asn1_values_syntax.specs.Asn1.{asn1}
use Rattle.asn1_values_syntax.specs.TypeForms.{brace}
use Rattle.std.proofs.Common.{arith, refl, sym, ◌∙◌}
use Rattle.token_grammar.proofs.Exits.{exit_reads}
use Rattle.token_grammar.proofs.Sequences.{fails_present, fails_wider, spelt_absent, spelt_present, spelt_wider}
use Rattle.token_grammar.specs.Parts.{object_identifier}
use Rattle.asn1_syntax.proofs.module.read_identifier.Goals as goal

pub returns-in_err-identifier : goal.returns-in_err-identifier
returns-in_err-identifier c = exit_reads _ c.from_residual.result c.from_residual.ensures.1
    (fails_present (record { passed = sym c.is_sign_at.ensures ∙ c.if-not-is_sign_at.false })
    (fails_wider brace (c.in_err-identifier.ensures asn1)))

pub returns : goal.returns
returns c = spelt_present (record { passed = sym c.is_sign_at.ensures ∙ c.if-not-is_sign_at.false })
    (spelt_wider brace (c.in_ok-identifier.ensures asn1))

pub returns-then-not-is_sign_at : goal.returns-then-not-is_sign_at
returns-then-not-is_sign_at c = spelt_absent ((quiet_unless brace object_identifier refl (λ t e. e)
    (sym c.is_sign_at.ensures ∙ c.if-not-is_sign_at.true)).stops _ (omega arith))
