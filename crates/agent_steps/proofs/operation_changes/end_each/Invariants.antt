use Rattle.std.proofs.Common.{◌≡◌, ◌++◌, take, drop}
use Rattle.std.specs.Prelude.{map}
use Rattle.agent_model.specs.Step.{ended_with}
use Rattle.agent_steps.proofs.operation_changes.end_each.Given as goal

-- those so far are ended
abbrev pub invariant-loop-operation : goal.invariant-loop-operation
invariant-loop-operation l =
    l.operations ≡ map (ended_with l.number l.place) (take l.operation-index l.fn.operations)
    ++ drop l.operation-index l.fn.operations
