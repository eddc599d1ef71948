-- The logs so far, and those behind this name.
use Rattle.std.proofs.Common.{◌≡◌, ◌++◌, length}
use Rattle.mib_opening.specs.LogOrder.{log_names}
use Rattle.mib_opening.specs.Walks.{behind}
use Rattle.mib_opening.proofs.log_counts.add_logs.Given as goal

abbrev pub invariant-loop-next : goal.invariant-loop-next
invariant-loop-next g l =
    l.fn.logs ++ log_names l.schema (behind l.fn.name (g.M.Ranged.objects l.mib))
    ≡ l.logs ++ log_names l.schema (behind l.here (g.M.Ranged.objects l.mib))

abbrev pub decreases-loop-next : goal.decreases-loop-next
decreases-loop-next g l = length (behind l.here (g.M.Ranged.objects l.mib))
