-- The parts, one after the other.
use Rattle.asn1_values_syntax.proofs.FirstTokens.{quiet_number, quiet_unless}
use Rattle.asn1_values_syntax.proofs.Quiet.{fail_first, fail_second, take_first, take_second}
use Rattle.asn1_values_syntax.specs.Asn1.{asn1}
use Rattle.std.proofs.Common.{refl, sym, ◌∙◌}
use Rattle.token_grammar.proofs.Exits.{exit_reads}
use Rattle.token_grammar.proofs.Sequences.{apart_closed, fails_front, fails_rest, spelt_then}
use Rattle.token_grammar.specs.Form.{Empty, Keep, Many, Then}
use Rattle.token_grammar.specs.Parts.{arc, named_number}
use Rattle.token_grammar.specs.TokenTests.{is_number}
use Rattle.asn1_values_syntax.proofs.arcs.read_sure_arcs.Goals as goal

pub returns-in_err-first : goal.returns-in_err-first
returns-in_err-first c = exit_reads _ c.from_residual.result c.from_residual.ensures.1
    (fail_first (fails_front apart_closed (c.in_err-first.ensures asn1))
    (quiet_number (Then named_number (Many Empty arc)) (sym c.is_number_at.ensures ∙ c.if-is_number_at.true)
    (λ at text. refl)))

pub returns-in_err-second : goal.returns-in_err-second
returns-in_err-second c = exit_reads _ c.from_residual-in_err-second.result c.from_residual-in_err-second.ensures.1
    (fail_first (fails_rest (c.in_ok-first.ensures asn1) apart_closed
    (fails_front apart_closed (c.in_err-second.ensures asn1))) (quiet_number (Then named_number (Many Empty arc))
    (sym c.is_number_at.ensures ∙ c.if-is_number_at.true) (λ at text. refl)))

pub returns-in_err-others : goal.returns-in_err-others
returns-in_err-others c = exit_reads _ c.from_residual-in_err-others.result c.from_residual-in_err-others.ensures.1
    (fail_first (fails_rest (c.in_ok-first.ensures asn1) apart_closed
    (fails_rest (c.in_ok-second.ensures asn1) apart_closed (c.in_err-others.ensures asn1)))
    (quiet_number (Then named_number (Many Empty arc)) (sym c.is_number_at.ensures ∙ c.if-is_number_at.true)
    (λ at text. refl)))

pub returns-then-is_number_at : goal.returns-then-is_number_at
returns-then-is_number_at c = take_first (spelt_then (c.in_ok-first.ensures asn1) apart_closed
    (spelt_then (c.in_ok-second.ensures asn1) apart_closed (c.in_ok-others.ensures asn1)))
    (quiet_number (Then named_number (Many Empty arc)) (sym c.is_number_at.ensures ∙ c.if-is_number_at.true)
    (λ at text. refl))

pub returns-in_err-first-2 : goal.returns-in_err-first-2
returns-in_err-first-2 c = exit_reads _ c.from_residual-in_err-first-2.result c.from_residual-in_err-first-2.ensures.1
    (fail_second (quiet_unless is_number (Then (Keep is_number) (Then arc (Many Empty arc))) refl (λ t e. e)
    (sym c.is_number_at.ensures ∙ c.if-is_number_at.false)) (fails_front apart_closed c.in_err-first-2.ensures))

pub returns-in_err-others-2 : goal.returns-in_err-others-2
returns-in_err-others-2 c = exit_reads _ c.from_residual-in_err-others-2.result
    c.from_residual-in_err-others-2.ensures.1 (fail_second (quiet_unless is_number
    (Then (Keep is_number) (Then arc (Many Empty arc))) refl (λ t e. e)
    (sym c.is_number_at.ensures ∙ c.if-is_number_at.false)) (fails_rest c.in_ok-first-2.ensures apart_closed
    (c.in_err-others-2.ensures asn1)))

pub returns : goal.returns
returns c = take_second (quiet_unless is_number (Then (Keep is_number) (Then arc (Many Empty arc))) refl (λ t e. e)
    (sym c.is_number_at.ensures ∙ c.if-is_number_at.false)) (spelt_then c.in_ok-first-2.ensures apart_closed
    (c.in_ok-others-2.ensures asn1))
