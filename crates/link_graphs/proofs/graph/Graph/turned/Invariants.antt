-- What was turned so far: all that elements before this one lead to, and this one by its targets before a place.
use Rattle.std.proofs.Common.{◌-◌, length}
use Rattle.link_graphs.specs.Leading.{target_lists, targets_of}
use Rattle.link_graphs.proofs.TurnLaws.{IsPartlyTurned}
use Rattle.link_graphs.proofs.graph.Graph.turned.Given as goal

abbrev pub invariant-loop-element : goal.invariant-loop-element
invariant-loop-element l = IsPartlyTurned (target_lists l.self) (target_lists l.turned) l.element 0

abbrev pub invariant-loop-target : goal.invariant-loop-target
invariant-loop-target l = IsPartlyTurned (target_lists l.self) (target_lists l.turned) l.element l.place

abbrev pub decreases-loop-target : goal.decreases-loop-target
decreases-loop-target l = length (targets_of (target_lists l.self) l.element) - l.place
