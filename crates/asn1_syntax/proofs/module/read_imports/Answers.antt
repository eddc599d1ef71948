-- The parts, one after the other.
use Rattle.asn1_syntax.proofs.ModuleApart.{further_apart, imports_apart}
use Rattle.asn1_values_syntax.proofs.FirstTokens.{quiet_unless}
use Rattle.asn1_values_syntax.specs.Asn1.{asn1, imports}
use Rattle.std.proofs.Common.{arith, codes, refl, sym, ◌∙◌}
use Rattle.token_grammar.proofs.Exits.{exit_reads}
use Rattle.token_grammar.proofs.Sequences.{apart_closed, fails_front, fails_present, fails_rest, fails_wider}
use Rattle.token_grammar.proofs.Sequences.{spelt_absent, spelt_present, spelt_then, spelt_wider}
use Rattle.token_grammar.specs.TokenTests.{is_word_of}
use Rattle.asn1_syntax.proofs.module.read_imports.Goals as goal

pub returns-in_err-next : goal.returns-in_err-next
returns-in_err-next c = exit_reads _ c.from_residual.result c.from_residual.ensures.1
    (fails_present (record { passed = sym c.is_word_at.ensures ∙ c.if-not-is_word_at.false })
    (fails_front apart_closed (c.in_err-next.ensures asn1)))

pub returns-in_err-first : goal.returns-in_err-first
returns-in_err-first c = exit_reads _ c.from_residual-in_err-first.result c.from_residual-in_err-first.ensures.1
    (fails_present (record { passed = sym c.is_word_at.ensures ∙ c.if-not-is_word_at.false })
    (fails_rest (c.in_ok-next.ensures asn1) apart_closed (fails_front further_apart c.in_err-first.ensures)))

pub returns-in_err-others : goal.returns-in_err-others
returns-in_err-others c = exit_reads _ c.from_residual-in_err-others.result c.from_residual-in_err-others.ensures.1
    (fails_present (record { passed = sym c.is_word_at.ensures ∙ c.if-not-is_word_at.false })
    (fails_rest (c.in_ok-next.ensures asn1) apart_closed (fails_rest c.in_ok-first.ensures further_apart
    (fails_front imports_apart c.in_err-others.ensures))))

pub returns-in_err-next-2 : goal.returns-in_err-next-2
returns-in_err-next-2 c = exit_reads _ c.from_residual-in_err-next-2.result c.from_residual-in_err-next-2.ensures.1
    (fails_present (record { passed = sym c.is_word_at.ensures ∙ c.if-not-is_word_at.false })
    (fails_rest (c.in_ok-next.ensures asn1) apart_closed (fails_rest c.in_ok-first.ensures further_apart
    (fails_rest c.in_ok-others.ensures imports_apart (fails_wider (is_word_of (codes "IMPORTS"))
    (c.in_err-next-2.ensures asn1))))))

pub returns : goal.returns
returns c = spelt_present (record { passed = sym c.is_word_at.ensures ∙ c.if-not-is_word_at.false })
    (spelt_then (c.in_ok-next.ensures asn1) apart_closed (spelt_then c.in_ok-first.ensures further_apart
    (spelt_then c.in_ok-others.ensures imports_apart (spelt_wider (is_word_of (codes "IMPORTS"))
    (c.in_ok-next-2.ensures asn1)))))

pub returns-then-not-is_word_at : goal.returns-then-not-is_word_at
returns-then-not-is_word_at c = spelt_absent ((quiet_unless (is_word_of (codes "IMPORTS")) imports refl (λ t e. e)
    (sym c.is_word_at.ensures ∙ c.if-not-is_word_at.true)).stops _ (omega arith))
