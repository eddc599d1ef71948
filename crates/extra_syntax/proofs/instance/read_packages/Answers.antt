-- Where PACKAGES comes, the word and the labels behind it.
use Rattle.std.proofs.Common.{arith, refl, sym, ◌∙◌}
use Rattle.token_grammar.proofs.Exits.{exit_reads}
use Rattle.token_grammar.proofs.Sequences.{apart_closed, fails_front, fails_on, fails_present, fails_rest, spelt_absent}
use Rattle.token_grammar.proofs.Sequences.{spelt_on, spelt_present, spelt_then}
use Rattle.asn1_values_syntax.specs.Asn1.{asn1}
use Rattle.asn1_values_syntax.proofs.FirstTokens.{quiet_unless}
use Rattle.extra_syntax.specs.SectionEnds.{is_packages}
use Rattle.extra_syntax.specs.SectionForms.{packages}
use Rattle.extra_syntax.proofs.Apart.{labels_packages, packages_come}
use Rattle.extra_syntax.proofs.instance.read_packages.Goals as goal

pub returns-then-not-is_word_at : goal.returns-then-not-is_word_at
returns-then-not-is_word_at c = spelt_absent ((quiet_unless is_packages packages refl (λ t e. e)
    (sym c.is_word_at.ensures ∙ c.if-not-is_word_at.true)).stops _ (omega arith))

pub returns-in_err-next : goal.returns-in_err-next
returns-in_err-next c = exit_reads _ c.from_residual.result c.from_residual.ensures.1
    (fails_present (packages_come (record { passed = sym c.is_word_at.ensures ∙ c.if-not-is_word_at.false }))
    (fails_front apart_closed (c.in_err-next.ensures asn1)))

pub returns-in_err-labels : goal.returns-in_err-labels
returns-in_err-labels c = exit_reads _ c.from_residual-in_err-labels.result c.from_residual-in_err-labels.ensures.1
    (fails_present (packages_come (record { passed = sym c.is_word_at.ensures ∙ c.if-not-is_word_at.false }))
    (fails_rest (c.in_ok-next.ensures asn1) apart_closed (fails_on labels_packages c.in_err-labels.ensures)))

pub returns : goal.returns
returns c = spelt_present (packages_come (record { passed = sym c.is_word_at.ensures ∙ c.if-not-is_word_at.false }))
    (spelt_then (c.in_ok-next.ensures asn1) apart_closed (spelt_on labels_packages c.in_ok-labels.ensures))
