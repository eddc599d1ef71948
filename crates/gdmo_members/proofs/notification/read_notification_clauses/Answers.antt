-- One clause after the other, until none comes.
use Rattle.std.proofs.Common.{refl}
use Rattle.token_grammar.proofs.Exits.{exit_reads}
use Rattle.token_grammar.proofs.Clauses.{over, clauses_done, fails_led}
use Rattle.gdmo_members.specs.FurtherTrees.{notification_slots, is_notification_clause}
use Rattle.gdmo_members.proofs.notification.read_notification_clauses.Goals as goal

pub returns-in_err-behind : goal.returns-in_err-behind
returns-in_err-behind c =
    exit_reads _ c.from_residual.result c.from_residual.ensures.1 (fails_led c.turns.invariant c.in_err-behind.ensures)

pub returns : goal.returns
returns c = clauses_done (notification_slots c.turns.clauses)
    (notification_slots c.read_notification_clause.new.clauses) c.turns.invariant
    (over is_notification_clause (notification_slots c.turns.clauses)
    (notification_slots c.read_notification_clause.new.clauses) c.turns.next c.in_ok-behind.field-0 c.in_default.is
    c.in_ok-behind.ensures) refl refl
