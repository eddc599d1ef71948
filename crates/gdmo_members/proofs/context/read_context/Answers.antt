-- The first word, and the others.
use Rattle.token_grammar.proofs.Sequences.{apart_closed, spelt_then, fails_front, fails_rest}
use Rattle.token_grammar.proofs.Exits.{exit_reads}
use Rattle.gdmo_members.specs.Templates.{templates}
use Rattle.gdmo_members.proofs.context.read_context.Goals as goal

pub returns-in_err-first : goal.returns-in_err-first
returns-in_err-first c =
    exit_reads _ c.from_residual.result c.from_residual.ensures.1
    (fails_front apart_closed (c.in_err-first.ensures templates))

pub returns-in_err-others : goal.returns-in_err-others
returns-in_err-others c =
    exit_reads _ c.from_residual-in_err-others.result c.from_residual-in_err-others.ensures.1
    (fails_rest (c.in_ok-first.ensures templates) apart_closed c.in_err-others.ensures)

pub returns : goal.returns
returns c = (spelt_then (c.in_ok-first.ensures templates) apart_closed c.in_ok-others.ensures)
