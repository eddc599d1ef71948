-- The keywords, and the name of the type.
use Rattle.token_grammar.proofs.Sequences.{apart_closed, spelt_then, fails_front, fails_rest}
use Rattle.token_grammar.proofs.Exits.{exit_reads}
use Rattle.gdmo_members.specs.Templates.{templates}
use Rattle.gdmo_classes.proofs.properties.read_permitted_values.Goals as goal

pub returns-in_err-next : goal.returns-in_err-next
returns-in_err-next c = exit_reads _ c.from_residual.result c.from_residual.ensures.1
    (fails_front apart_closed (c.in_err-next.ensures templates))

pub returns-in_err-name : goal.returns-in_err-name
returns-in_err-name c = exit_reads _ c.from_residual-in_err-name.result c.from_residual-in_err-name.ensures.1
    (fails_rest (c.in_ok-next.ensures templates) apart_closed (c.in_err-name.ensures templates))

pub returns : goal.returns
returns c = (spelt_then (c.in_ok-next.ensures templates) apart_closed (c.in_ok-name.ensures templates))
