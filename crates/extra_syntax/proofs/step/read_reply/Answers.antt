-- A label that is no value, or a value.
use Rattle.std.proofs.Common.{refl, sym, ◌∙◌}
use Rattle.token_grammar.specs.Form.{Keep}
use Rattle.token_grammar.proofs.Exits.{exit_reads}
use Rattle.token_grammar.proofs.Sequences.{fails_wider, spelt_wider}
use Rattle.asn1_values_syntax.specs.Asn1.{asn1}
use Rattle.asn1_values_syntax.specs.ValueForms.{colon}
use Rattle.asn1_values_syntax.proofs.FirstTokens.{quiet_unless}
use Rattle.asn1_values_syntax.proofs.Quiet.{fail_first, fail_second, take_first, take_second}
use Rattle.extra_syntax.specs.SectionForms.{is_reserved_label}
use Rattle.extra_syntax.proofs.Apart.{reserved_quiet}
use Rattle.extra_syntax.proofs.step.read_reply.Goals as goal

pub returns-in_err-label : goal.returns-in_err-label
returns-in_err-label c = exit_reads _ c.from_residual.result c.from_residual.ensures.1
    (fail_second (reserved_quiet (sym c.is_reserved_label_at-is_reserved.ensures ∙ c.if-is_reserved.true))
    (fails_wider colon (c.in_err-label.ensures asn1 is_reserved_label c.is_reserved_label_at-is_reserved.ensures)))

pub returns-then-is_reserved : goal.returns-then-is_reserved
returns-then-is_reserved c = take_second (reserved_quiet (sym c.is_reserved_label_at-is_reserved.ensures ∙
    c.if-is_reserved.true))
    (spelt_wider colon (c.in_ok-label.ensures asn1 is_reserved_label c.is_reserved_label_at-is_reserved.ensures))

pub returns-in_err-value : goal.returns-in_err-value
returns-in_err-value c = exit_reads _ c.from_residual-in_err-value.result c.from_residual-in_err-value.ensures.1
    (fail_first c.in_err-value.ensures (quiet_unless is_reserved_label (Keep is_reserved_label) refl (λ t e. e)
    (sym c.is_reserved_label_at-is_reserved.ensures ∙ c.if-is_reserved.false)))

pub returns : goal.returns
returns c = take_first c.in_ok-value.ensures (quiet_unless is_reserved_label (Keep is_reserved_label) refl (λ t e. e)
    (sym c.is_reserved_label_at-is_reserved.ensures ∙ c.if-is_reserved.false))
