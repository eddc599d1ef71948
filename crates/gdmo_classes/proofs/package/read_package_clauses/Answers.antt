-- One clause after the other, until none comes.
use Rattle.std.proofs.Common.{refl}
use Rattle.token_grammar.proofs.Exits.{exit_reads}
use Rattle.token_grammar.proofs.Clauses.{over, clauses_done, fails_led}
use Rattle.gdmo_classes.specs.PackageTrees.{package_slots, is_package_clause}
use Rattle.gdmo_classes.proofs.package.read_package_clauses.Goals as goal

pub returns-in_err-behind : goal.returns-in_err-behind
returns-in_err-behind c =
    exit_reads _ c.from_residual.result c.from_residual.ensures.1 (fails_led c.turns.invariant c.in_err-behind.ensures)

pub returns : goal.returns
returns c = clauses_done (package_slots c.turns.clauses) (package_slots c.read_package_clause.new.clauses)
    c.turns.invariant (over is_package_clause (package_slots c.turns.clauses)
    (package_slots c.read_package_clause.new.clauses) c.turns.next c.in_ok-behind.field-0 c.in_default.is
    c.in_ok-behind.ensures) refl refl
