-- Each turn reads one gap or one token.
use Rattle.std.proofs.Common.{reverse, refl, ap, ◌∙◌}
use Rattle.text_lex.specs.Lexed.{announces}
use Rattle.text_lex.proofs.Reading.{read_none, read_gap, read_token, read_all, read_fault}
use Rattle.text_lex.proofs.Slices.{tokens_slices}
use Rattle.text_lex.proofs.lexing.lex.Goals as goal

pub loop-at-init : goal.loop-at-init
loop-at-init c = read_none _ _ c.new-tokens.ensures.items

pub loop-at-preserved-in-Gap : goal.loop-at-preserved-in-Gap
loop-at-preserved-in-Gap c = let found = c.in-Gap.ensures in read_gap _ _ _ _ _ c.loop-at.invariant found.0 found.2

pub loop-at-preserved : goal.loop-at-preserved
loop-at-preserved c =
    let found = c.in-Lexeme.ensures.0 in
    read_token _ _ _ _ _ _ _ _ c.loop-at.invariant
    (record { lexeme = found; placed = refl; slice = c.in_ok-text-in-Lexeme.ensures })
    found.within
    c.in_ok-push-in-Lexeme.ensures.items
    (c.announce_string-announced.ensures ∙ ap (λ ts. announces (reverse ts)) c.as_slice.ensures.value)

pub returns-in-Wrong-clause-refused : goal.returns-in-Wrong-clause-refused
returns-in-Wrong-clause-refused c = read_fault _ _ _ _ _ c.loop-at.invariant c.in-Wrong.ensures

pub returns-clause-tokens : goal.returns-clause-tokens
returns-clause-tokens c = read_all _ _ _ _ c.loop-at.invariant c.loop-at-test.false

pub returns-clause-slices : goal.returns-clause-slices
returns-clause-slices c = (tokens_slices _ _ _ _ (read_all _ _ _ _ c.loop-at.invariant c.loop-at-test.false)).slices

pub returns-clause-rising : goal.returns-clause-rising
returns-clause-rising c = (tokens_slices _ _ _ _ (read_all _ _ _ _ c.loop-at.invariant c.loop-at-test.false)).rising
