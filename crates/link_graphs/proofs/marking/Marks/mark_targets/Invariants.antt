-- The targets before a place are marked.
use Rattle.std.proofs.Common.{◌-◌, length}
use Rattle.link_graphs.specs.Leading.{target_lists, targets_of}
use Rattle.link_graphs.specs.Marking.{IsTargetBefore, MarksSome}
use Rattle.link_graphs.proofs.marking.Marks.mark_targets.Given as goal

abbrev pub invariant-loop-target : goal.invariant-loop-target
invariant-loop-target l =
    MarksSome (IsTargetBefore (target_lists l.graph) l.element l.place) l.initial.self.marked.items l.self.marked.items
    l.initial.self.found.items l.self.found.items

abbrev pub decreases-loop-target : goal.decreases-loop-target
decreases-loop-target l = length (targets_of (target_lists l.graph) l.element) - l.place
