-- One more target, and all of them.
use Rattle.std.proofs.Common.{None, arith, get_or}
use Rattle.std.proofs.lemmas.Option.{slice_get-get_or}
use Rattle.link_graphs.specs.Leading.{target_lists}
use Rattle.reached_elements.proofs.LinkLaws.{each_end, each_none, each_step}
use Rattle.reached_elements.proofs.linking.add_each.Goals as goal

pub loop-target-init : goal.loop-target-init
loop-target-init c = each_none (target_lists c.args.graph.now) c.args.element c.args.targets.now

pub loop-target-preserved : goal.loop-target-preserved
loop-target-preserved c =
    let xs = c.args.targets.now in
    let at = c.loop-target.target-index in
    each_step c.args.element xs at (get_or xs at None) (slice_get-get_or xs at None c.loop-target-test.true)
    c.loop-target.invariant c.in_ok-add_that.ensures

pub returns : goal.returns
returns c = each_end c.args.element c.args.targets.now c.loop-target.target-index
    (omega (arith, c.loop-target-test.false)) c.loop-target.invariant
