-- The label, the keywords, the clauses and the end.
use Rattle.token_grammar.proofs.Sequences.{apart_closed, spelt_then, spelt_named, fails_front, fails_rest, fails_named}
use Rattle.token_grammar.proofs.Endings.{beside_reads}
use Rattle.token_grammar.specs.Outcome.{closed}
use Rattle.token_grammar.proofs.Exits.{exit_reads}
use Rattle.gdmo_members.specs.Clauses.{groups, registered_ending}
use Rattle.gdmo_members.specs.Trees.{registered_ending_tree}
use Rattle.gdmo_members.specs.FurtherTrees.{group_clauses_tree}
use Rattle.gdmo_members.specs.Templates.{templates}
use Rattle.gdmo_members.proofs.WithClauses.{group_apart}
use Rattle.gdmo_members.proofs.group.read_group.Goals as goal

pub returns-in_err-label : goal.returns-in_err-label
returns-in_err-label c =
    exit_reads _ c.from_residual.result c.from_residual.ensures.1
    (fails_named groups (fails_front apart_closed (c.in_err-label.ensures templates)))

pub returns-in_err-next : goal.returns-in_err-next
returns-in_err-next c = exit_reads _ c.from_residual-in_err-next.result c.from_residual-in_err-next.ensures.1
    (fails_named groups (fails_rest (c.in_ok-label.ensures templates) apart_closed
    (fails_front apart_closed (c.in_err-next.ensures templates))))

pub returns-in_err-clauses : goal.returns-in_err-clauses
returns-in_err-clauses c =
    exit_reads _ c.from_residual-in_err-clauses.result c.from_residual-in_err-clauses.ensures.1
    (fails_named groups (fails_rest (c.in_ok-label.ensures templates) apart_closed
    (fails_rest (c.in_ok-next.ensures templates) apart_closed (fails_front group_apart c.in_err-clauses.ensures))))

pub returns-in_err-parts : goal.returns-in_err-parts
returns-in_err-parts c = exit_reads _ c.from_residual-in_err-parts.result c.from_residual-in_err-parts.ensures.1
    (fails_named groups (fails_rest (c.in_ok-label.ensures templates) apart_closed
    (fails_rest (c.in_ok-next.ensures templates) apart_closed (beside_reads c.args.tokens.now closed registered_ending
    group_clauses_tree registered_ending_tree _ c.read_registered_ending.result _ c.in_ok-clauses.ensures group_apart
    c.read_registered_ending.ensures c.in_err-parts.ensures))))

pub returns : goal.returns
returns c = spelt_named groups (spelt_then (c.in_ok-label.ensures templates) apart_closed
    (spelt_then (c.in_ok-next.ensures templates) apart_closed (beside_reads c.args.tokens.now closed registered_ending
    group_clauses_tree registered_ending_tree _ c.read_registered_ending.result _ c.in_ok-clauses.ensures group_apart
    c.read_registered_ending.ensures c.in_ok-parts.ensures)))
