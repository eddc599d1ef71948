-- All logs but so many first ones tell of their records.
use Rattle.std.proofs.Common.{◌≡◌}
use Rattle.mib_opening.specs.LogOrder.{counted_behind}
use Rattle.mib_opening.proofs.log_counts.count_logs.Given as goal

abbrev pub invariant-loop-i : goal.invariant-loop-i
invariant-loop-i g l = l.mib ≡ counted_behind l.schema l.i l.fn.mib
