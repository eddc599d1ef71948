use Rattle.std.proofs.Common.{◌+◌, ◌-◌, length, drop}
use Rattle.range_sets.specs.RangeSteps.{Rises}
use Rattle.range_sets.proofs.CommonLaws.{Gone}
use Rattle.range_sets.proofs.common.common.Given as goal

abbrev pub invariant-loop-i : goal.invariant-loop-i
invariant-loop-i l = Rises l.xs → Rises l.ys → Gone l.xs l.ys l.both.items (drop l.i l.xs) (drop l.j l.ys)

abbrev pub decreases-loop-i : goal.decreases-loop-i
decreases-loop-i l = (length l.xs - l.i) + (length l.ys - l.j)
