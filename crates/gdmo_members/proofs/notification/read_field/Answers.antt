-- The name, and the attribute.
use Rattle.token_grammar.proofs.Sequences.{apart_closed, spelt_then, fails_front, fails_rest}
use Rattle.token_grammar.proofs.Exits.{exit_reads}
use Rattle.gdmo_members.specs.Templates.{templates}
use Rattle.gdmo_members.proofs.notification.read_field.Goals as goal

pub returns-in_err-name : goal.returns-in_err-name
returns-in_err-name c = exit_reads _ c.from_residual.result c.from_residual.ensures.1
    (fails_front apart_closed (c.in_err-name.ensures templates))

pub returns-in_err-attribute : goal.returns-in_err-attribute
returns-in_err-attribute c =
    exit_reads _ c.from_residual-in_err-attribute.result c.from_residual-in_err-attribute.ensures.1
    (fails_rest (c.in_ok-name.ensures templates) apart_closed c.in_err-attribute.ensures)

pub returns : goal.returns
returns c = (spelt_then (c.in_ok-name.ensures templates) apart_closed c.in_ok-attribute.ensures)
