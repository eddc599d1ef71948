-- The first word tells which section it is.
use Rattle.std.proofs.Common.{sym, ◌∙◌}
use Rattle.token_grammar.proofs.Exits.{exit_reads}
use Rattle.token_grammar.proofs.Sequences.{fails_by, fault_first, fault_second, spelt_first, spelt_order, spelt_second}
use Rattle.extra_syntax.proofs.Sections.{instances_stop, rules_stop}
use Rattle.extra_syntax.proofs.section.read_section.Goals as goal

pub returns-in_err-rules : goal.returns-in_err-rules
returns-in_err-rules c = exit_reads _ c.from_residual.result c.from_residual.ensures.1
    (fails_by (λ k one. fault_first one (instances_stop (sym c.is_word_at.ensures ∙ c.if-is_word_at.true)
    one.stops.order)) c.in_err-rules.ensures)

pub returns-then-is_word_at : goal.returns-then-is_word_at
returns-then-is_word_at c = spelt_first c.in_ok-rules.ensures (instances_stop
    (sym c.is_word_at.ensures ∙ c.if-is_word_at.true) (spelt_order c.in_ok-rules.ensures))

pub returns-in_err-instances : goal.returns-in_err-instances
returns-in_err-instances c = exit_reads _ c.from_residual-in_err-instances.result
    c.from_residual-in_err-instances.ensures.1
    (fails_by (λ k one. fault_second (rules_stop (sym c.is_word_at.ensures ∙ c.if-is_word_at.false) one.stops.order)
    one) c.in_err-instances.ensures)

pub returns : goal.returns
returns c = spelt_second (rules_stop (sym c.is_word_at.ensures ∙ c.if-is_word_at.false)
    (spelt_order c.in_ok-instances.ensures)) c.in_ok-instances.ensures
