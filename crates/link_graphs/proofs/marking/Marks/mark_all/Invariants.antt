-- The marks spread from what was found.
use Rattle.link_graphs.specs.Leading.{target_lists}
use Rattle.link_graphs.specs.Marking.{marking_steps}
use Rattle.link_graphs.proofs.MarkLaws.{IsSpreading}
use Rattle.link_graphs.proofs.marking.Marks.mark_all.Given as goal

abbrev pub invariant-loop-next : goal.invariant-loop-next
invariant-loop-next l =
    IsSpreading (target_lists l.graph) l.element l.fn.self.marked.items l.self.marked.items l.self.found.items

abbrev pub decreases-loop-next : goal.decreases-loop-next
decreases-loop-next l = marking_steps l.self.marked.items l.self.found.items
