-- The point, where it stands, and the word.
use Rattle.std.proofs.Common.{refl, codes}
use Rattle.token_grammar.proofs.Sequences.{spelt_then, fails_front, fails_rest}
use Rattle.token_grammar.proofs.Exits.{exit_reads}
use Rattle.token_grammar.specs.Form.{Keep}
use Rattle.token_grammar.specs.TokenTests.{is_word}
use Rattle.gdmo_members.proofs.Apart.{sign_apart}
use Rattle.gdmo_members.specs.Templates.{templates}
use Rattle.gdmo_members.proofs.context.read_context_word.Goals as goal

pub returns-in_err-point : goal.returns-in_err-point
returns-in_err-point c =
    exit_reads _ c.from_residual.result c.from_residual.ensures.1
    (fails_front (sign_apart (codes ".") (Keep is_word) refl (λ at. refl)) c.in_err-point.ensures)

pub returns-in_err-word : goal.returns-in_err-word
returns-in_err-word c = exit_reads _ c.from_residual-in_err-word.result c.from_residual-in_err-word.ensures.1
    (fails_rest c.in_ok-point.ensures (sign_apart (codes ".") (Keep is_word) refl (λ at. refl))
    (c.in_err-word.ensures templates))

pub returns : goal.returns
returns c = (spelt_then c.in_ok-point.ensures (sign_apart (codes ".") (Keep is_word) refl (λ at. refl))
    (c.in_ok-word.ensures templates))
