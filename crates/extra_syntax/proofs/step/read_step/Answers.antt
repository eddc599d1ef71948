-- The first word tells which step it is.
use Rattle.std.proofs.Common.{codes, refl, sym, ◌∙◌}
use Rattle.token_grammar.specs.Form.{Or}
use Rattle.token_grammar.specs.TokenTests.{is_word_of}
use Rattle.token_grammar.proofs.Exits.{exit_reads}
use Rattle.token_grammar.proofs.Sequences.{fails_on, fails_wider, spelt_on, spelt_wider}
use Rattle.asn1_values_syntax.proofs.FirstTokens.{quiet_unless, quiet_word}
use Rattle.asn1_values_syntax.proofs.Quiet.{fail_first, fail_second, take_first, take_second}
use Rattle.extra_syntax.specs.SectionEnds.{is_step_end}
use Rattle.extra_syntax.specs.SectionForms.{add_step, emit_step, reply_step, set_step}
use Rattle.extra_syntax.proofs.Apart.{colon_step}
use Rattle.extra_syntax.proofs.step.read_step.Goals as goal

pub returns-in_err-step : goal.returns-in_err-step
returns-in_err-step c = exit_reads _ c.from_residual.result c.from_residual.ensures.1
    (fail_first (fails_on colon_step c.in_err-step.ensures)
    (quiet_word (codes "SET") (Or add_step (Or emit_step reply_step))
    (sym c.is_word_at.ensures ∙ c.if-is_word_at.true) (λ at. refl)))

pub returns-then-is_word_at : goal.returns-then-is_word_at
returns-then-is_word_at c = take_first (spelt_on colon_step c.in_ok-step.ensures)
    (quiet_word (codes "SET") (Or add_step (Or emit_step reply_step))
    (sym c.is_word_at.ensures ∙ c.if-is_word_at.true) (λ at. refl))

pub returns-in_err-step-2 : goal.returns-in_err-step-2
returns-in_err-step-2 c = exit_reads _ c.from_residual-in_err-step-2.result c.from_residual-in_err-step-2.ensures.1
    (fail_second (quiet_unless (is_word_of (codes "SET")) set_step refl (λ t e. e)
    (sym c.is_word_at.ensures ∙ c.if-is_word_at.false))
    (fail_first (fails_wider is_step_end c.in_err-step-2.ensures)
    (quiet_word (codes "ADD") (Or emit_step reply_step) (sym c.is_word_at-2.ensures ∙ c.if-is_word_at-2.true)
    (λ at. refl))))

pub returns-then-is_word_at-2 : goal.returns-then-is_word_at-2
returns-then-is_word_at-2 c =
    take_second (quiet_unless (is_word_of (codes "SET")) set_step refl (λ t e. e)
    (sym c.is_word_at.ensures ∙ c.if-is_word_at.false))
    (take_first (spelt_wider is_step_end c.in_ok-step-2.ensures)
    (quiet_word (codes "ADD") (Or emit_step reply_step) (sym c.is_word_at-2.ensures ∙ c.if-is_word_at-2.true)
    (λ at. refl)))

pub returns-in_err-step-3 : goal.returns-in_err-step-3
returns-in_err-step-3 c = exit_reads _ c.from_residual-in_err-step-3.result c.from_residual-in_err-step-3.ensures.1
    (fail_second (quiet_unless (is_word_of (codes "SET")) set_step refl (λ t e. e)
    (sym c.is_word_at.ensures ∙ c.if-is_word_at.false))
    (fail_second (quiet_unless (is_word_of (codes "ADD")) add_step refl (λ t e. e)
    (sym c.is_word_at-2.ensures ∙ c.if-is_word_at-2.false))
    (fail_first c.in_err-step-3.ensures
    (quiet_word (codes "EMIT") reply_step (sym c.is_word_at-3.ensures ∙ c.if-is_word_at-3.true) (λ at. refl)))))

pub returns-then-is_word_at-3 : goal.returns-then-is_word_at-3
returns-then-is_word_at-3 c =
    take_second (quiet_unless (is_word_of (codes "SET")) set_step refl (λ t e. e)
    (sym c.is_word_at.ensures ∙ c.if-is_word_at.false))
    (take_second (quiet_unless (is_word_of (codes "ADD")) add_step refl (λ t e. e)
    (sym c.is_word_at-2.ensures ∙ c.if-is_word_at-2.false))
    (take_first c.in_ok-step-3.ensures
    (quiet_word (codes "EMIT") reply_step (sym c.is_word_at-3.ensures ∙ c.if-is_word_at-3.true) (λ at. refl))))

pub returns-in_err-reply : goal.returns-in_err-reply
returns-in_err-reply c = exit_reads _ c.from_residual-in_err-reply.result c.from_residual-in_err-reply.ensures.1
    (fail_second (quiet_unless (is_word_of (codes "SET")) set_step refl (λ t e. e)
    (sym c.is_word_at.ensures ∙ c.if-is_word_at.false))
    (fail_second (quiet_unless (is_word_of (codes "ADD")) add_step refl (λ t e. e)
    (sym c.is_word_at-2.ensures ∙ c.if-is_word_at-2.false))
    (fail_second (quiet_unless (is_word_of (codes "EMIT")) emit_step refl (λ t e. e)
    (sym c.is_word_at-3.ensures ∙ c.if-is_word_at-3.false))
    (fails_on colon_step c.in_err-reply.ensures))))

pub returns : goal.returns
returns c =
    take_second (quiet_unless (is_word_of (codes "SET")) set_step refl (λ t e. e)
    (sym c.is_word_at.ensures ∙ c.if-is_word_at.false))
    (take_second (quiet_unless (is_word_of (codes "ADD")) add_step refl (λ t e. e)
    (sym c.is_word_at-2.ensures ∙ c.if-is_word_at-2.false))
    (take_second (quiet_unless (is_word_of (codes "EMIT")) emit_step refl (λ t e. e)
    (sym c.is_word_at-3.ensures ∙ c.if-is_word_at-3.false))
    (spelt_on colon_step c.in_ok-reply.ensures)))
