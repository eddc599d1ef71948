-- The targets of one more element, and of all of them.
use Rattle.std.proofs.Common.{arith, get_or}
use Rattle.std.proofs.lemmas.Option.{slice_get-get_or}
use Rattle.link_graphs.specs.Leading.{target_lists}
use Rattle.reached_elements.proofs.ReachLaws.{targets_end, targets_none, targets_step}
use Rattle.reached_elements.proofs.reaching.Reached.add_targets_of.Goals as goal

pub loop-element-init : goal.loop-element-init
loop-element-init c = targets_none (target_lists c.args.graph.now) c.args.elements.now c.args.self.now.marks
    c.args.self.now.elements.items

pub loop-element-preserved : goal.loop-element-preserved
loop-element-preserved c =
    let xs = c.args.elements.now in
    let at = c.loop-element.element-index in
    targets_step (target_lists c.args.graph.now) xs at (get_or xs at 0)
    (slice_get-get_or xs at 0 c.loop-element-test.true) c.loop-element.invariant c.in_ok-add_targets.ensures

pub returns : goal.returns
returns c = targets_end (target_lists c.args.graph.now) c.args.elements.now c.loop-element.element-index
    (omega (arith, c.loop-element-test.false)) c.loop-element.invariant
