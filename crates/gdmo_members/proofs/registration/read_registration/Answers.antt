-- The keywords, and what stands behind them.
use Rattle.token_grammar.proofs.Sequences.{apart_closed, spelt_then, fails_front, fails_rest}
use Rattle.token_grammar.proofs.Exits.{exit_reads}
use Rattle.gdmo_members.specs.Templates.{templates}
use Rattle.gdmo_members.proofs.registration.read_registration.Goals as goal

pub returns-in_err-next : goal.returns-in_err-next
returns-in_err-next c = exit_reads _ c.from_residual.result c.from_residual.ensures.1
    (fails_front apart_closed (c.in_err-next.ensures templates))

pub returns-in_err-identifier : goal.returns-in_err-identifier
returns-in_err-identifier c =
    exit_reads _ c.from_residual-in_err-identifier.result c.from_residual-in_err-identifier.ensures.1
    (fails_rest (c.in_ok-next.ensures templates) apart_closed (c.in_err-identifier.ensures templates))

pub returns : goal.returns
returns c = (spelt_then (c.in_ok-next.ensures templates) apart_closed (c.in_ok-identifier.ensures templates))
