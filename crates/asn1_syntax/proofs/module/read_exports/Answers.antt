-- The parts, one after the other.
use Rattle.asn1_syntax.proofs.ModuleApart.{exports_apart}
use Rattle.asn1_values_syntax.proofs.FirstTokens.{quiet_unless}
use Rattle.asn1_values_syntax.specs.Asn1.{asn1, exports}
use Rattle.std.proofs.Common.{arith, codes, refl, sym, ◌∙◌}
use Rattle.token_grammar.proofs.Exits.{exit_reads}
use Rattle.token_grammar.proofs.Sequences.{apart_closed, fails_front, fails_present, fails_rest, fails_wider}
use Rattle.token_grammar.proofs.Sequences.{spelt_absent, spelt_present, spelt_then, spelt_wider}
use Rattle.token_grammar.specs.TokenTests.{is_word_of}
use Rattle.asn1_syntax.proofs.module.read_exports.Goals as goal

pub returns-in_err-next : goal.returns-in_err-next
returns-in_err-next c = exit_reads _ c.from_residual.result c.from_residual.ensures.1
    (fails_present (record { passed = sym c.is_word_at.ensures ∙ c.if-not-is_word_at.false })
    (fails_front apart_closed (c.in_err-next.ensures asn1)))

pub returns-in_err-symbols : goal.returns-in_err-symbols
returns-in_err-symbols c = exit_reads _ c.from_residual-in_err-symbols.result c.from_residual-in_err-symbols.ensures.1
    (fails_present (record { passed = sym c.is_word_at.ensures ∙ c.if-not-is_word_at.false })
    (fails_rest (c.in_ok-next.ensures asn1) apart_closed (fails_front exports_apart c.in_err-symbols.ensures)))

pub returns-in_err-next-2 : goal.returns-in_err-next-2
returns-in_err-next-2 c = exit_reads _ c.from_residual-in_err-next-2.result c.from_residual-in_err-next-2.ensures.1
    (fails_present (record { passed = sym c.is_word_at.ensures ∙ c.if-not-is_word_at.false })
    (fails_rest (c.in_ok-next.ensures asn1) apart_closed (fails_rest c.in_ok-symbols.ensures exports_apart
    (fails_wider (is_word_of (codes "EXPORTS")) (c.in_err-next-2.ensures asn1)))))

pub returns : goal.returns
returns c = spelt_present (record { passed = sym c.is_word_at.ensures ∙ c.if-not-is_word_at.false })
    (spelt_then (c.in_ok-next.ensures asn1) apart_closed (spelt_then c.in_ok-symbols.ensures exports_apart
    (spelt_wider (is_word_of (codes "EXPORTS")) (c.in_ok-next-2.ensures asn1))))

pub returns-then-not-is_word_at : goal.returns-then-not-is_word_at
returns-then-not-is_word_at c = spelt_absent ((quiet_unless (is_word_of (codes "EXPORTS")) exports refl (λ t e. e)
    (sym c.is_word_at.ensures ∙ c.if-not-is_word_at.true)).stops _ (omega arith))
