use Rattle.std.proofs.Common.{◌≡◌, take, count_by}
use Rattle.agent_model.specs.AgentState.{is_outstanding}
use Rattle.entry_legality.proofs.legality.count_outstanding.Given as goal

-- those that were looked at are counted
abbrev pub invariant-loop-operation : goal.invariant-loop-operation
invariant-loop-operation l =
    l.count ≡ count_by (is_outstanding l.number) (take l.operation-index l.operation-items)
