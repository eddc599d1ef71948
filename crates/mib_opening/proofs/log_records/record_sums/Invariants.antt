-- The sums are those of the records up to here, and the others stand behind.
use Rattle.std.proofs.Common.{length}
use Rattle.mib_opening.specs.Walks.{behind}
use Rattle.mib_opening.proofs.CountLaws.{IsOnWay}
use Rattle.mib_opening.proofs.log_records.record_sums.Given as goal

abbrev pub invariant-loop-next : goal.invariant-loop-next
invariant-loop-next g l = IsOnWay l.schema l.log (g.M.Ranged.objects l.mib) l.here l.sums

abbrev pub decreases-loop-next : goal.decreases-loop-next
decreases-loop-next g l = length (behind l.here (g.M.Ranged.objects l.mib))
