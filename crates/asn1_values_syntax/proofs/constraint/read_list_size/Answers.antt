-- The parts, one after the other.
use Rattle.asn1_values_syntax.proofs.FirstTokens.{quiet_unless}
use Rattle.asn1_values_syntax.specs.Asn1.{asn1}
use Rattle.asn1_values_syntax.specs.TypeForms.{list_size, parenthesis}
use Rattle.std.proofs.Common.{arith, refl, sym, ◌∙◌}
use Rattle.token_grammar.proofs.Exits.{exit_reads}
use Rattle.token_grammar.proofs.Sequences.{apart_closed, fails_front, fails_present, fails_rest, fails_wider}
use Rattle.token_grammar.proofs.Sequences.{spelt_absent, spelt_present, spelt_then, spelt_wider}
use Rattle.asn1_values_syntax.proofs.constraint.read_list_size.Goals as goal

pub returns-in_err-next : goal.returns-in_err-next
returns-in_err-next c = exit_reads _ c.from_residual.result c.from_residual.ensures.1
    (fails_present (record { passed = sym c.is_sign_at.ensures ∙ c.if-not-is_sign_at.false })
    (fails_front apart_closed (c.in_err-next.ensures asn1)))

pub returns-in_err-sizes : goal.returns-in_err-sizes
returns-in_err-sizes c = exit_reads _ c.from_residual-in_err-sizes.result c.from_residual-in_err-sizes.ensures.1
    (fails_present (record { passed = sym c.is_sign_at.ensures ∙ c.if-not-is_sign_at.false })
    (fails_rest (c.in_ok-next.ensures asn1) apart_closed (fails_front apart_closed c.in_err-sizes.ensures)))

pub returns-in_err-next-2 : goal.returns-in_err-next-2
returns-in_err-next-2 c = exit_reads _ c.from_residual-in_err-next-2.result c.from_residual-in_err-next-2.ensures.1
    (fails_present (record { passed = sym c.is_sign_at.ensures ∙ c.if-not-is_sign_at.false })
    (fails_rest (c.in_ok-next.ensures asn1) apart_closed (fails_rest c.in_ok-sizes.ensures apart_closed
    (fails_wider parenthesis (c.in_err-next-2.ensures asn1)))))

pub returns : goal.returns
returns c = spelt_present (record { passed = sym c.is_sign_at.ensures ∙ c.if-not-is_sign_at.false })
    (spelt_then (c.in_ok-next.ensures asn1) apart_closed (spelt_then c.in_ok-sizes.ensures apart_closed
    (spelt_wider parenthesis (c.in_ok-next-2.ensures asn1))))

pub returns-then-not-is_sign_at : goal.returns-then-not-is_sign_at
returns-then-not-is_sign_at c = spelt_absent ((quiet_unless parenthesis list_size refl (λ t e. e)
    (sym c.is_sign_at.ensures ∙ c.if-not-is_sign_at.true)).stops _ (omega arith))
