-- The keywords, and the value.
use Rattle.token_grammar.proofs.Sequences.{apart_closed, spelt_then, fails_front, fails_rest}
use Rattle.token_grammar.proofs.Exits.{exit_reads}
use Rattle.gdmo_members.specs.Templates.{templates}
use Rattle.gdmo_classes.proofs.properties.read_default_value.Goals as goal

pub returns-in_err-next : goal.returns-in_err-next
returns-in_err-next c = exit_reads _ c.from_residual.result c.from_residual.ensures.1
    (fails_front apart_closed (c.in_err-next.ensures templates))

pub returns-in_err-value : goal.returns-in_err-value
returns-in_err-value c =
    exit_reads _ c.from_residual-in_err-value.result c.from_residual-in_err-value.ensures.1
    (fails_rest (c.in_ok-next.ensures templates) apart_closed c.in_err-value.ensures)

pub returns : goal.returns
returns c = (spelt_then (c.in_ok-next.ensures templates) apart_closed c.in_ok-value.ensures)
