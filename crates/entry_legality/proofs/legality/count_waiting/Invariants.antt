use Rattle.std.proofs.Common.{◌≡◌, take, count_by}
use Rattle.agent_model.specs.Step.{waits_for}
use Rattle.entry_legality.proofs.legality.count_waiting.Given as goal

-- those that were looked at are counted
abbrev pub invariant-loop-waiting : goal.invariant-loop-waiting
invariant-loop-waiting l = l.count ≡ count_by (waits_for l.log) (take l.waiting-index l.waiting-items)
