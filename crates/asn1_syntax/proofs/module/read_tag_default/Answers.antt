-- The parts, one after the other.
use Rattle.asn1_values_syntax.proofs.FirstTokens.{quiet_unless}
use Rattle.asn1_values_syntax.specs.Asn1.{asn1, tag_default}
use Rattle.asn1_values_syntax.specs.TypeForms.{is_tag_mode}
use Rattle.std.proofs.Common.{arith, refl, sym, ◌∙◌}
use Rattle.token_grammar.proofs.Exits.{exit_reads}
use Rattle.token_grammar.proofs.Sequences.{apart_closed, fails_front, fails_present, fails_rest, fails_wider}
use Rattle.token_grammar.proofs.Sequences.{spelt_absent, spelt_present, spelt_then, spelt_wider}
use Rattle.asn1_syntax.proofs.module.read_tag_default.Goals as goal

pub returns-in_err-mode : goal.returns-in_err-mode
returns-in_err-mode c = exit_reads _ c.from_residual.result c.from_residual.ensures.1
    (fails_present (record { passed = sym c.is_one_of_at.ensures ∙ c.if-not-is_one_of_at.false })
    (fails_front apart_closed (c.in_err-mode.ensures asn1)))

pub returns-in_err-next : goal.returns-in_err-next
returns-in_err-next c = exit_reads _ c.from_residual-in_err-next.result c.from_residual-in_err-next.ensures.1
    (fails_present (record { passed = sym c.is_one_of_at.ensures ∙ c.if-not-is_one_of_at.false })
    (fails_rest (c.in_ok-mode.ensures asn1) apart_closed (fails_wider is_tag_mode (c.in_err-next.ensures asn1))))

pub returns : goal.returns
returns c = spelt_present (record { passed = sym c.is_one_of_at.ensures ∙ c.if-not-is_one_of_at.false })
    (spelt_then (c.in_ok-mode.ensures asn1) apart_closed (spelt_wider is_tag_mode (c.in_ok-next.ensures asn1)))

pub returns-then-not-is_one_of_at : goal.returns-then-not-is_one_of_at
returns-then-not-is_one_of_at c = spelt_absent ((quiet_unless is_tag_mode tag_default refl (λ t e. e)
    (sym c.is_one_of_at.ensures ∙ c.if-not-is_one_of_at.true)).stops _ (omega arith))
