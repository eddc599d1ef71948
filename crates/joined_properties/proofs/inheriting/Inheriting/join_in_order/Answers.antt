-- A class more, and all of them.
use Rattle.std.proofs.Common.{◌<◌, ◌≤◌, arith, length}
use Rattle.joined_properties.specs.JoiningSteps.IsPass.{begin}
use Rattle.joined_properties.proofs.PutLaws.{pass_all, pass_more}
use Rattle.joined_properties.proofs.inheriting.Inheriting.join_in_order.Goals as goal

pub loop-place-init : goal.loop-place-init
loop-place-init c = begin

pub loop-place-preserved : goal.loop-place-preserved
loop-place-preserved c =
    let i = c.loop-place.place-index in
    let within : i < length c.args.order.now = omega (arith, c.loop-place-test.true) in
    pass_more c.args.order.now i within c.loop-place.invariant c.in_ok-anew.ensures

pub returns : goal.returns
returns c =
    let past : length c.args.order.now ≤ c.loop-place.place-index = omega (arith, c.loop-place-test.false) in
    pass_all c.args.order.now c.loop-place.place-index past c.loop-place.invariant
