-- One clause after the other, until none comes.
use Rattle.std.proofs.Common.{refl}
use Rattle.token_grammar.proofs.Exits.{exit_reads}
use Rattle.token_grammar.proofs.Clauses.{over, clauses_done, fails_led}
use Rattle.gdmo_members.specs.FurtherTrees.{group_slots, is_group_clause}
use Rattle.gdmo_members.proofs.group.read_group_clauses.Goals as goal

pub returns-in_err-behind : goal.returns-in_err-behind
returns-in_err-behind c =
    exit_reads _ c.from_residual.result c.from_residual.ensures.1 (fails_led c.turns.invariant c.in_err-behind.ensures)

pub returns : goal.returns
returns c = clauses_done (group_slots c.turns.clauses) (group_slots c.read_group_clause.new.clauses) c.turns.invariant
    (over is_group_clause (group_slots c.turns.clauses) (group_slots c.read_group_clause.new.clauses) c.turns.next
    c.in_ok-behind.field-0 c.in_default.is c.in_ok-behind.ensures) refl refl
