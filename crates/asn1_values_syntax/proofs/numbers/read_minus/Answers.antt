-- The parts, one after the other.
use Rattle.asn1_values_syntax.proofs.FirstTokens.{firsts, firsts_lead}
use Rattle.asn1_values_syntax.specs.Asn1.{asn1}
use Rattle.asn1_values_syntax.specs.ValueForms.{minus}
use Rattle.std.proofs.Common.{arith, refl, sym, ◌∙◌}
use Rattle.token_grammar.proofs.Exits.{exit_reads}
use Rattle.token_grammar.proofs.Heads.{stops_unless}
use Rattle.token_grammar.proofs.Sequences.{fails_present, fails_wider, spelt_absent, spelt_present, spelt_wider}
use Rattle.token_grammar.specs.Form.{Keep}
use Rattle.asn1_values_syntax.proofs.numbers.read_minus.Goals as goal

pub returns-in_err-minus : goal.returns-in_err-minus
returns-in_err-minus c = exit_reads _ c.from_residual.result c.from_residual.ensures.1
    (fails_present (record { passed = sym c.is_sign_at.ensures ∙ c.if-not-is_sign_at.false })
    (fails_wider minus (c.in_err-minus.ensures asn1)))

pub returns : goal.returns
returns c = spelt_present (record { passed = sym c.is_sign_at.ensures ∙ c.if-not-is_sign_at.false })
    (spelt_wider minus (c.in_ok-minus.ensures asn1))

pub returns-then-not-is_sign_at : goal.returns-then-not-is_sign_at
returns-then-not-is_sign_at c = spelt_absent (stops_unless firsts firsts_lead minus (Keep minus) c.args.at c.args.at
    (omega arith) refl (λ t e. e) (sym c.is_sign_at.ensures ∙ c.if-not-is_sign_at.true))
