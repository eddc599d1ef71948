use Rattle.range_sets.proofs.RisingLaws.{Joined}
use Rattle.range_sets.proofs.rising.rising.Given as goal

-- what was joined of the pairs so far; the others begin no earlier
abbrev pub invariant-loop-pair : goal.invariant-loop-pair
invariant-loop-pair l = Joined l.pair-items l.pair-index l.joined.items
