-- One clause after the other, until none comes; then those that are needed.
use Rattle.std.proofs.Common.{refl}
use Rattle.token_grammar.proofs.Exits.{exit_reads}
use Rattle.token_grammar.proofs.Clauses.{over, fails_led, clauses_done, clauses_missing}
use Rattle.gdmo_classes.specs.BindingTrees.{name_binding_slots, is_name_binding_clause}
use Rattle.gdmo_classes.proofs.name_binding.read_name_binding_clauses.Goals as goal

pub returns-in_err-behind : goal.returns-in_err-behind
returns-in_err-behind c =
    exit_reads _ c.from_residual.result c.from_residual.ensures.1 (fails_led c.turns.invariant c.in_err-behind.ensures)

pub returns-in-None : goal.returns-in-None
returns-in-None c = clauses_missing (name_binding_slots c.turns.draft)
    (name_binding_slots c.read_name_binding_clause.new.draft) c.turns.invariant
    (over is_name_binding_clause (name_binding_slots c.turns.draft)
    (name_binding_slots c.read_name_binding_clause.new.draft) c.turns.next c.in_ok-behind.field-0 c.in_default.is
    c.in_ok-behind.ensures) (c.in-None.ensures.missing refl)

pub returns-in-Some-complete_clauses : goal.returns-in-Some-complete_clauses
returns-in-Some-complete_clauses c = clauses_done (name_binding_slots c.turns.draft)
    (name_binding_slots c.read_name_binding_clause.new.draft) c.turns.invariant
    (over is_name_binding_clause (name_binding_slots c.turns.draft)
    (name_binding_slots c.read_name_binding_clause.new.draft) c.turns.next c.in_ok-behind.field-0 c.in_default.is
    c.in_ok-behind.ensures) c.in-Some-complete_clauses.ensures.made.0 c.in-Some-complete_clauses.ensures.made.1
