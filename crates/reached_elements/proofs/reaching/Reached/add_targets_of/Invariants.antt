-- The targets of the elements before a place were added.
use Rattle.link_graphs.specs.Leading.{target_lists}
use Rattle.reached_elements.specs.Reaching.{AddsSome}
use Rattle.reached_elements.proofs.ReachLaws.{TargetBefore}
use Rattle.reached_elements.proofs.reaching.Reached.add_targets_of.Given as goal

abbrev pub invariant-loop-element : goal.invariant-loop-element
invariant-loop-element l =
    AddsSome (TargetBefore (target_lists l.graph) l.elements l.element-index) l.initial.self.marks
    l.self.marks l.initial.self.elements.items l.self.elements.items
