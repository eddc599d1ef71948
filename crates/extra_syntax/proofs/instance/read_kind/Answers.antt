-- The word tells.
use Rattle.std.proofs.Common.{codes, refl, sym, ◌∙◌}
use Rattle.token_grammar.specs.TokenTests.{is_word_of}
use Rattle.token_grammar.proofs.Exits.{exit_reads}
use Rattle.token_grammar.proofs.Parts.{one_word}
use Rattle.asn1_values_syntax.specs.Asn1.{asn1}
use Rattle.asn1_values_syntax.specs.TypeForms.{keyword}
use Rattle.asn1_values_syntax.proofs.FirstTokens.{quiet_unless, quiet_word}
use Rattle.asn1_values_syntax.proofs.Quiet.{fail_first, fail_second, take_first, take_second}
use Rattle.extra_syntax.proofs.instance.read_kind.Goals as goal

pub returns-in_err-word : goal.returns-in_err-word
returns-in_err-word c = exit_reads _ c.from_residual.result c.from_residual.ensures.1
    (fail_first (c.in_err-word.ensures asn1) (quiet_word (codes "ROOT") (keyword (codes "OBJECT"))
    (sym c.is_word_at.ensures ∙ c.if-is_word_at.true) (λ at. refl)))

pub returns-then-is_word_at : goal.returns-then-is_word_at
returns-then-is_word_at c = take_first (c.in_ok-word.ensures asn1) (quiet_word (codes "ROOT") (keyword (codes "OBJECT"))
    (sym c.is_word_at.ensures ∙ c.if-is_word_at.true) (λ at. refl))

pub returns-in_err-word-2 : goal.returns-in_err-word-2
returns-in_err-word-2 c = exit_reads _ c.from_residual-in_err-word-2.result c.from_residual-in_err-word-2.ensures.1
    (fail_second (quiet_unless (is_word_of (codes "ROOT")) (keyword (codes "ROOT")) refl
    (λ t e. one_word (is_word_of (codes "ROOT") t) e) (sym c.is_word_at.ensures ∙ c.if-is_word_at.false))
    (c.in_err-word-2.ensures asn1))

pub returns : goal.returns
returns c = take_second (quiet_unless (is_word_of (codes "ROOT")) (keyword (codes "ROOT")) refl
    (λ t e. one_word (is_word_of (codes "ROOT") t) e) (sym c.is_word_at.ensures ∙ c.if-is_word_at.false))
    (c.in_ok-word-2.ensures asn1)
