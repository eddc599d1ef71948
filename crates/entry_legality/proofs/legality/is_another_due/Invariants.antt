-- For none of the logs so far, whose names are lesser ones, more records wait.
use Rattle.std.proofs.Common.{◌≡◌, take, false}
use Rattle.std.specs.List.{list_any}
use Rattle.agent_model.specs.Step.{is_due_before}
use Rattle.entry_legality.proofs.legality.is_another_due.Given as goal

abbrev pub invariant-loop-waiting : goal.invariant-loop-waiting
invariant-loop-waiting l =
    list_any (is_due_before l.agent l.log) (take l.waiting-index l.waiting-items) ≡ false
