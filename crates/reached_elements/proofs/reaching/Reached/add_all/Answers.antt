-- One more element, and all of them.
use Rattle.std.proofs.Common.{arith, get_or}
use Rattle.std.proofs.lemmas.Option.{slice_get-get_or}
use Rattle.reached_elements.proofs.ReachLaws.{listed_end, listed_none, listed_step}
use Rattle.reached_elements.proofs.reaching.Reached.add_all.Goals as goal

pub loop-element-init : goal.loop-element-init
loop-element-init c =
    listed_none c.args.elements.now c.args.self.now.marks c.args.self.now.elements.items

pub loop-element-preserved : goal.loop-element-preserved
loop-element-preserved c =
    let xs = c.args.elements.now in
    let at = c.loop-element.element-index in
    listed_step xs at (get_or xs at 0) (slice_get-get_or xs at 0 c.loop-element-test.true) c.loop-element.invariant
    c.in_ok-add.ensures

pub returns : goal.returns
returns c = listed_end c.args.elements.now c.loop-element.element-index (omega (arith, c.loop-element-test.false))
    c.loop-element.invariant
