use Rattle.std.proofs.Common.{◌≡◌, take, count_by}
use Rattle.agent_model.specs.Step.{is_append_to}
use Rattle.entry_legality.proofs.legality.count_appends.Given as goal

-- those that were looked at are counted
abbrev pub invariant-loop-operation : goal.invariant-loop-operation
invariant-loop-operation l =
    l.count ≡ count_by (is_append_to l.log) (take l.operation-index l.operation-items)
