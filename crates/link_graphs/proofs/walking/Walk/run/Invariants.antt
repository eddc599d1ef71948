-- The search goes on until nothing is being visited.
use Rattle.link_graphs.specs.Leading.{target_lists}
use Rattle.link_graphs.specs.Walking.{IsWalk, StaysReached, steps_left}
use Rattle.link_graphs.proofs.walking.Walk.run.Given as goal

abbrev pub invariant-loop-visit : goal.invariant-loop-visit
invariant-loop-visit l = record {
  walk : IsWalk (target_lists l.graph) l.self.finished.items l.self.visits.items l.self.reached.items;
  stays : StaysReached l.initial.self.reached.items l.self.reached.items;
}

abbrev pub decreases-loop-visit : goal.decreases-loop-visit
decreases-loop-visit l = steps_left (target_lists l.graph) l.self.visits.items l.self.reached.items
