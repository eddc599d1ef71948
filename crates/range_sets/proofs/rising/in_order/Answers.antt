use Rattle.range_sets.proofs.HeldLaws.{moved_allows}
use Rattle.range_sets.proofs.RisingLaws.{sorted_in_order}
use Rattle.range_sets.proofs.rising.in_order.Goals as goal

pub returns-clause-order : goal.returns-clause-order
returns-clause-order c = sorted_in_order _ c.sort_unstable.ensures.sorted

pub returns-clause-same : goal.returns-clause-same
returns-clause-same c = λ n. moved_allows n _ _ c.sort_unstable.ensures.permutation
