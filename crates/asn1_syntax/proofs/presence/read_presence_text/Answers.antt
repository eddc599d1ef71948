-- The parts, one after the other.
use Rattle.asn1_values_syntax.proofs.FirstTokens.{quiet_unless, quiet_word}
use Rattle.asn1_values_syntax.proofs.Quiet.{fail_first, fail_second, take_first, take_second}
use Rattle.asn1_values_syntax.specs.Asn1.{asn1}
use Rattle.asn1_values_syntax.specs.TypeForms.{keyword}
use Rattle.asn1_values_syntax.specs.ValueForms.{colon, values}
use Rattle.std.proofs.Common.{[], codes, refl, sym, ◌∙◌, ◌∷◌}
use Rattle.token_grammar.proofs.Exits.{exit_reads}
use Rattle.token_grammar.proofs.Parts.{one_word}
use Rattle.token_grammar.proofs.Sequences.{apart_closed, fails_front, fails_rest, fails_wider, spelt_then, spelt_wider}
use Rattle.token_grammar.specs.Form.{Marks, Named, Then}
use Rattle.token_grammar.specs.Parts.{words}
use Rattle.token_grammar.specs.TokenTests.{is_word_of}
use Rattle.asn1_syntax.proofs.presence.read_presence_text.Goals as goal

pub returns-in_err-word : goal.returns-in_err-word
returns-in_err-word c = exit_reads _ c.from_residual.result c.from_residual.ensures.1
    (fail_first (fails_wider colon (c.in_err-word.ensures asn1)) (quiet_word (codes "OPTIONAL")
    (Then (Marks (words (codes "DEFAULT" ∷ []))) (Named values)) (sym c.is_word_at.ensures ∙ c.if-is_word_at.true)
    (λ at. refl)))

pub returns-then-is_word_at : goal.returns-then-is_word_at
returns-then-is_word_at c = take_first (spelt_wider colon (c.in_ok-word.ensures asn1))
    (quiet_word (codes "OPTIONAL") (Then (Marks (words (codes "DEFAULT" ∷ []))) (Named values))
    (sym c.is_word_at.ensures ∙ c.if-is_word_at.true) (λ at. refl))

pub returns-in_err-next : goal.returns-in_err-next
returns-in_err-next c = exit_reads _ c.from_residual-in_err-next.result c.from_residual-in_err-next.ensures.1
    (fail_second (quiet_unless (is_word_of (codes "OPTIONAL")) (keyword (codes "OPTIONAL")) refl
    (λ t e. one_word (is_word_of (codes "OPTIONAL") t) e) (sym c.is_word_at.ensures ∙ c.if-is_word_at.false))
    (fails_front apart_closed (c.in_err-next.ensures asn1)))

pub returns-in_err-value : goal.returns-in_err-value
returns-in_err-value c = exit_reads _ c.from_residual-in_err-value.result c.from_residual-in_err-value.ensures.1
    (fail_second (quiet_unless (is_word_of (codes "OPTIONAL")) (keyword (codes "OPTIONAL")) refl
    (λ t e. one_word (is_word_of (codes "OPTIONAL") t) e) (sym c.is_word_at.ensures ∙ c.if-is_word_at.false))
    (fails_rest (c.in_ok-next.ensures asn1) apart_closed c.in_err-value.ensures))

pub returns : goal.returns
returns c = take_second (quiet_unless (is_word_of (codes "OPTIONAL")) (keyword (codes "OPTIONAL")) refl
    (λ t e. one_word (is_word_of (codes "OPTIONAL") t) e) (sym c.is_word_at.ensures ∙ c.if-is_word_at.false))
    (spelt_then (c.in_ok-next.ensures asn1) apart_closed c.in_ok-value.ensures)
