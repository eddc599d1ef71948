-- A label, the keywords, the string and the semicolon.
use Rattle.token_grammar.proofs.Sequences.{apart_closed, spelt_then, spelt_named, fails_front, fails_rest, fails_named}
use Rattle.token_grammar.proofs.Exits.{exit_reads}
use Rattle.gdmo_members.specs.Clauses.{behaviours}
use Rattle.gdmo_members.specs.Templates.{templates}
use Rattle.gdmo_members.proofs.behaviour.read_behaviour.Goals as goal

pub returns-in_err-label : goal.returns-in_err-label
returns-in_err-label c =
    exit_reads _ c.from_residual.result c.from_residual.ensures.1
    (fails_named behaviours (fails_front apart_closed (c.in_err-label.ensures templates)))

pub returns-in_err-next : goal.returns-in_err-next
returns-in_err-next c = exit_reads _ c.from_residual-in_err-next.result c.from_residual-in_err-next.ensures.1
    (fails_named behaviours (fails_rest (c.in_ok-label.ensures templates) apart_closed
    (fails_front apart_closed (c.in_err-next.ensures templates))))

pub returns-in_err-definition : goal.returns-in_err-definition
returns-in_err-definition c =
    exit_reads _ c.from_residual-in_err-definition.result c.from_residual-in_err-definition.ensures.1
    (fails_named behaviours (fails_rest (c.in_ok-label.ensures templates) apart_closed
    (fails_rest (c.in_ok-next.ensures templates) apart_closed
    (fails_front apart_closed (c.in_err-definition.ensures templates)))))

pub returns-in_err-next-2 : goal.returns-in_err-next-2
returns-in_err-next-2 c =
    exit_reads _ c.from_residual-in_err-next-2.result c.from_residual-in_err-next-2.ensures.1
    (fails_named behaviours (fails_rest (c.in_ok-label.ensures templates) apart_closed
    (fails_rest (c.in_ok-next.ensures templates) apart_closed
    (fails_rest (c.in_ok-definition.ensures templates) apart_closed (c.in_err-next-2.ensures templates)))))

pub returns : goal.returns
returns c = spelt_named behaviours
    (spelt_then (c.in_ok-label.ensures templates) apart_closed
    (spelt_then (c.in_ok-next.ensures templates) apart_closed
    (spelt_then (c.in_ok-definition.ensures templates) apart_closed (c.in_ok-next-2.ensures templates))))
