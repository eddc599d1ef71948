-- One more target is marked.
use Rattle.std.proofs.Common.{sym, arith}
use Rattle.link_graphs.specs.Leading.{target_lists}
use Rattle.link_graphs.specs.Marking.{IsTargetBefore}
use Rattle.link_graphs.proofs.MarkLaws.{marks_same, target_more, all_targets}
use Rattle.link_graphs.proofs.marking.Marks.mark_targets.Goals as goal

pub loop-target-init : goal.loop-target-init
loop-target-init c =
    marks_same c.args.self.now.marked.items c.args.self.now.found.items
    (IsTargetBefore (target_lists c.args.graph.now) c.args.element 0) (λ e h less. absurd (let l = h.1 in omega arith))

pub loop-target-preserved : goal.loop-target-preserved
loop-target-preserved c =
    target_more (target_lists c.args.graph.now) c.args.element c.loop-target.place c.in-Some.target
    (sym c.in-Some.ensures.target) c.args.self.now.marked.items c.loop-target.self.marked.items
    c.mark.new.self.marked.items c.args.self.now.found.items c.loop-target.self.found.items c.mark.new.self.found.items
    c.loop-target.invariant c.in_ok-mark.ensures

pub returns : goal.returns
returns c =
    all_targets (target_lists c.args.graph.now) c.args.element c.loop-target.place c.args.self.now.marked.items
    c.loop-target.self.marked.items c.args.self.now.found.items c.loop-target.self.found.items
    (sym c.in_default.ensures.target) c.loop-target.invariant
