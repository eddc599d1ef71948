-- Each element in turn, and each of its targets in turn.
use Rattle.std.proofs.Common.{sym, arith}
use Rattle.link_graphs.specs.Leading.{target_lists}
use Rattle.link_graphs.proofs.TurnLaws.{one_turned, element_turned, all_turned}
use Rattle.link_graphs.proofs.graph.Graph.turned.Goals as goal

pub loop-target-preserved : goal.loop-target-preserved
loop-target-preserved c = let h = c.in_ok-add.ensures in
    rw c.in_ok-add.ensures
    (one_turned (target_lists c.args.self.now) (target_lists c.loop-target.turned) c.loop-element.element
    c.loop-target.place c.in-Some.target (sym c.in-Some.ensures.target) c.loop-target.invariant)

pub loop-element-preserved : goal.loop-element-preserved
loop-element-preserved c =
    element_turned (target_lists c.args.self.now) (target_lists c.loop-target.turned) c.loop-element.element
    c.loop-target.place (sym c.in_default.ensures.target) c.loop-target.invariant

pub returns : goal.returns
returns c =
    all_turned (target_lists c.args.self.now) (target_lists c.loop-element.turned) c.loop-element.element
    (let n = c.count-count.ensures in let t = c.loop-element-test.false in omega arith) c.loop-element.invariant
