-- The parts, one after the other.
use Rattle.asn1_values_syntax.proofs.FirstTokens.{quiet_unless}
use Rattle.asn1_values_syntax.specs.TypeForms.{brace, named_integers}
use Rattle.std.proofs.Common.{arith, refl, sym, ◌∙◌}
use Rattle.token_grammar.proofs.Exits.{exit_reads}
use Rattle.token_grammar.proofs.Sequences.{fails_present, fails_wider, spelt_absent, spelt_present, spelt_wider}
use Rattle.asn1_values_syntax.proofs.named_number.read_optional_integers.Goals as goal

pub returns-in_err-list : goal.returns-in_err-list
returns-in_err-list c = exit_reads _ c.from_residual.result c.from_residual.ensures.1
    (fails_present (record { passed = sym c.is_sign_at.ensures ∙ c.if-not-is_sign_at.false })
    (fails_wider brace c.in_err-list.ensures))

pub returns : goal.returns
returns c = spelt_present (record { passed = sym c.is_sign_at.ensures ∙ c.if-not-is_sign_at.false })
    (spelt_wider brace c.in_ok-list.ensures)

pub returns-then-not-is_sign_at : goal.returns-then-not-is_sign_at
returns-then-not-is_sign_at c = spelt_absent ((quiet_unless brace named_integers refl (λ t e. e)
    (sym c.is_sign_at.ensures ∙ c.if-not-is_sign_at.true)).stops _ (omega arith))
