-- The targets of the elements before a place were added.
use Rattle.link_graphs.specs.Leading.{target_lists}
use Rattle.reached_elements.proofs.ReachLaws.{IsSpread}
use Rattle.reached_elements.proofs.reaching.elements_reached.Given as goal

abbrev pub invariant-loop-place : goal.invariant-loop-place
invariant-loop-place l =
    IsSpread (target_lists l.graph) l.from l.reached.marks l.reached.elements.items l.place
