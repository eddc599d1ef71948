-- One more element, and all of them.
use Rattle.std.proofs.Common.{None, arith, get_or}
use Rattle.std.proofs.lemmas.Option.{slice_get-get_or}
use Rattle.link_graphs.specs.Leading.{target_lists}
use Rattle.reached_elements.proofs.LinkLaws.{all_end, all_none, all_step}
use Rattle.reached_elements.proofs.linking.add_links.Goals as goal

pub loop-element-init : goal.loop-element-init
loop-element-init c = all_none (target_lists c.args.graph.now) c.args.elements.now c.args.targets.now

pub loop-element-preserved : goal.loop-element-preserved
loop-element-preserved c =
    let xs = c.args.elements.now in
    let at = c.loop-element.element-index in
    all_step xs c.args.targets.now at (get_or xs at None) (slice_get-get_or xs at None c.loop-element-test.true)
    c.loop-element.invariant c.in_ok-add_those.ensures

pub returns : goal.returns
returns c = all_end c.args.elements.now c.args.targets.now c.loop-element.element-index
    (omega (arith, c.loop-element-test.false)) c.loop-element.invariant
