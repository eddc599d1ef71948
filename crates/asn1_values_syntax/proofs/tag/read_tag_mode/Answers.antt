-- The parts, one after the other.
use Rattle.asn1_values_syntax.proofs.FirstTokens.{quiet_unless}
use Rattle.asn1_values_syntax.specs.Asn1.{asn1}
use Rattle.asn1_values_syntax.specs.TypeForms.{is_tag_mode}
use Rattle.std.proofs.Common.{arith, refl, sym, ◌∙◌}
use Rattle.token_grammar.proofs.Exits.{exit_reads}
use Rattle.token_grammar.proofs.Sequences.{fails_present, fails_wider, spelt_absent, spelt_present, spelt_wider}
use Rattle.token_grammar.specs.Form.{Keep}
use Rattle.asn1_values_syntax.proofs.tag.read_tag_mode.Goals as goal

pub returns-in_err-mode : goal.returns-in_err-mode
returns-in_err-mode c = exit_reads _ c.from_residual.result c.from_residual.ensures.1
    (fails_present (record { passed = sym c.is_one_of_at.ensures ∙ c.if-not-is_one_of_at.false })
    (fails_wider is_tag_mode (c.in_err-mode.ensures asn1)))

pub returns : goal.returns
returns c = spelt_present (record { passed = sym c.is_one_of_at.ensures ∙ c.if-not-is_one_of_at.false })
    (spelt_wider is_tag_mode (c.in_ok-mode.ensures asn1))

pub returns-then-not-is_one_of_at : goal.returns-then-not-is_one_of_at
returns-then-not-is_one_of_at c = spelt_absent ((quiet_unless is_tag_mode (Keep is_tag_mode) refl (λ t e. e)
    (sym c.is_one_of_at.ensures ∙ c.if-not-is_one_of_at.true)).stops _ (omega arith))
