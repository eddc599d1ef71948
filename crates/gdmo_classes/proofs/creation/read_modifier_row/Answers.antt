-- The first modifier, and the second one.
use Rattle.token_grammar.proofs.Sequences.{apart_closed, spelt_then, fails_front, fails_rest}
use Rattle.token_grammar.proofs.Exits.{exit_reads}
use Rattle.gdmo_members.specs.Templates.{templates}
use Rattle.gdmo_classes.proofs.creation.read_modifier_row.Goals as goal

pub returns-in_err-first : goal.returns-in_err-first
returns-in_err-first c =
    exit_reads _ c.from_residual.result c.from_residual.ensures.1
    (fails_front apart_closed (c.in_err-first.ensures templates))

pub returns-in_err-second : goal.returns-in_err-second
returns-in_err-second c =
    exit_reads _ c.from_residual-in_err-second.result c.from_residual-in_err-second.ensures.1
    (fails_rest (c.in_ok-first.ensures templates) apart_closed c.in_err-second.ensures)

pub returns : goal.returns
returns c = (spelt_then (c.in_ok-first.ensures templates) apart_closed c.in_ok-second.ensures)
