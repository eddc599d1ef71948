-- The type, and the components.
use Rattle.token_grammar.proofs.Sequences.{apart_closed, spelt_then, fails_front, fails_rest}
use Rattle.token_grammar.proofs.Exits.{exit_reads}
use Rattle.gdmo_members.specs.Templates.{templates}
use Rattle.gdmo_members.proofs.notification.read_information.Goals as goal

pub returns-in_err-syntax : goal.returns-in_err-syntax
returns-in_err-syntax c =
    exit_reads _ c.from_residual.result c.from_residual.ensures.1
    (fails_front apart_closed (c.in_err-syntax.ensures templates))

pub returns-in_err-fields : goal.returns-in_err-fields
returns-in_err-fields c =
    exit_reads _ c.from_residual-in_err-fields.result c.from_residual-in_err-fields.ensures.1
    (fails_rest (c.in_ok-syntax.ensures templates) apart_closed c.in_err-fields.ensures)

pub returns : goal.returns
returns c = (spelt_then (c.in_ok-syntax.ensures templates) apart_closed c.in_ok-fields.ensures)
