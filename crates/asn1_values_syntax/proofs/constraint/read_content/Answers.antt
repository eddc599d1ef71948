-- The parts, one after the other.
use Rattle.asn1_values_syntax.proofs.FirstTokens.{quiet_unless, quiet_word}
use Rattle.asn1_values_syntax.proofs.Quiet.{fail_first, fail_second, take_first, take_second}
use Rattle.asn1_values_syntax.specs.TypeEnds.{is_ranges_end}
use Rattle.asn1_values_syntax.specs.TypeForms.{ranges, size}
use Rattle.std.proofs.Common.{codes, refl, sym, ◌∙◌}
use Rattle.token_grammar.proofs.Exits.{exit_reads}
use Rattle.token_grammar.proofs.Sequences.{fails_wider, spelt_wider}
use Rattle.token_grammar.specs.TokenTests.{is_word_of}
use Rattle.asn1_values_syntax.proofs.constraint.read_content.Goals as goal

pub returns-in_err-sizes : goal.returns-in_err-sizes
returns-in_err-sizes c = exit_reads _ c.from_residual.result c.from_residual.ensures.1
    (fail_first (fails_wider is_ranges_end c.in_err-sizes.ensures)
    (quiet_word (codes "SIZE") ranges (sym c.is_word_at.ensures ∙ c.if-is_word_at.true) (λ at. refl)))

pub returns-then-is_word_at : goal.returns-then-is_word_at
returns-then-is_word_at c = take_first (spelt_wider is_ranges_end c.in_ok-sizes.ensures)
    (quiet_word (codes "SIZE") ranges (sym c.is_word_at.ensures ∙ c.if-is_word_at.true) (λ at. refl))

pub returns-in_err-ranges : goal.returns-in_err-ranges
returns-in_err-ranges c = exit_reads _ c.from_residual-in_err-ranges.result c.from_residual-in_err-ranges.ensures.1
    (fail_second (quiet_unless (is_word_of (codes "SIZE")) size refl (λ t e. e)
    (sym c.is_word_at.ensures ∙ c.if-is_word_at.false)) c.in_err-ranges.ensures)

pub returns : goal.returns
returns c = take_second (quiet_unless (is_word_of (codes "SIZE")) size refl (λ t e. e)
    (sym c.is_word_at.ensures ∙ c.if-is_word_at.false)) c.in_ok-ranges.ensures
