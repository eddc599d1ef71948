-- The last tokens are the nearest ones before the end.
use Rattle.std.proofs.Common.{sym, ◌∙◌}
use Rattle.text_lex.proofs.Announced.{announces_last, announces_only, announces_pair}
use Rattle.text_lex.proofs.lexing.announce_string.Goals as goal

pub returns-then-is_word : goal.returns-then-is_word
returns-then-is_word c =
    sym (announces_last _ _ _ c.in-Some.ensures.cases.0 (sym c.is_word.ensures ∙ c.if-is_word.true))

pub returns-in_default-split_last : goal.returns-in_default-split_last
returns-in_default-split_last c =
    sym (announces_only _ _ _ c.in-Some.ensures.cases.0 c.in_default-split_last.ensures.cases ∙ sym c.is_word.ensures
    ∙ c.if-is_word.false)

pub returns : goal.returns
returns c = announces_pair _ _ _ _ _ _ _ _ _ c.in-Some.ensures.cases.0 c.in-Some-split_last.ensures.cases.0
    (sym c.is_word.ensures ∙ c.if-is_word.false) c.is_word-2.ensures c.is_word-3.ensures c.is_word-4.ensures
    c.is_word-5.ensures
