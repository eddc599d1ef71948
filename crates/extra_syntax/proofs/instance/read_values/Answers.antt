-- Where WITH comes, the word and the pairs behind it.
use Rattle.std.proofs.Common.{arith, refl, sym, ◌∙◌}
use Rattle.token_grammar.proofs.Exits.{exit_reads}
use Rattle.token_grammar.proofs.Sequences.{apart_closed, fails_front, fails_on, fails_present, fails_rest, spelt_absent}
use Rattle.token_grammar.proofs.Sequences.{spelt_on, spelt_present, spelt_then}
use Rattle.asn1_values_syntax.specs.Asn1.{asn1}
use Rattle.asn1_values_syntax.proofs.FirstTokens.{quiet_unless}
use Rattle.extra_syntax.specs.SectionEnds.{is_with}
use Rattle.extra_syntax.specs.SectionForms.{with_values}
use Rattle.extra_syntax.proofs.Apart.{pairs_with, with_comes}
use Rattle.extra_syntax.proofs.instance.read_values.Goals as goal

pub returns-then-not-is_word_at : goal.returns-then-not-is_word_at
returns-then-not-is_word_at c = spelt_absent ((quiet_unless is_with with_values refl (λ t e. e)
    (sym c.is_word_at.ensures ∙ c.if-not-is_word_at.true)).stops _ (omega arith))

pub returns-in_err-next : goal.returns-in_err-next
returns-in_err-next c = exit_reads _ c.from_residual.result c.from_residual.ensures.1
    (fails_present (with_comes (record { passed = sym c.is_word_at.ensures ∙ c.if-not-is_word_at.false }))
    (fails_front apart_closed (c.in_err-next.ensures asn1)))

pub returns-in_err-values : goal.returns-in_err-values
returns-in_err-values c = exit_reads _ c.from_residual-in_err-values.result c.from_residual-in_err-values.ensures.1
    (fails_present (with_comes (record { passed = sym c.is_word_at.ensures ∙ c.if-not-is_word_at.false }))
    (fails_rest (c.in_ok-next.ensures asn1) apart_closed (fails_on pairs_with c.in_err-values.ensures)))

pub returns : goal.returns
returns c = spelt_present (with_comes (record { passed = sym c.is_word_at.ensures ∙ c.if-not-is_word_at.false }))
    (spelt_then (c.in_ok-next.ensures asn1) apart_closed (spelt_on pairs_with c.in_ok-values.ensures))
