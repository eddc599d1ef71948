use Rattle.std.proofs.Common.{◌≡◌, false, take}
use Rattle.std.specs.List.{list_any}
use Rattle.agent_steps.specs.Asking.{is_unbuilt}
use Rattle.agent_steps.proofs.requests.has_unbuilt.Given as goal

-- none of those so far is one
abbrev pub invariant-loop-operation : goal.invariant-loop-operation
invariant-loop-operation l = list_any is_unbuilt (take l.operation-index l.operation-items) ≡ false
