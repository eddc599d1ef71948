-- One that isn't marked, and all of them.
use Rattle.std.proofs.Common.{◌<◌, ◌≤◌, arith, length, true}
use Rattle.joined_properties.proofs.ChainLaws.{contains_nothing, none_marked, not_marked}
use Rattle.joined_properties.proofs.inheriting.is_any.Goals as goal

pub loop-mark-init : goal.loop-mark-init
loop-mark-init c = λ d. contains_nothing true d

pub loop-mark-preserved : goal.loop-mark-preserved
loop-mark-preserved c =
    let i = c.loop-mark.mark-index in
    let within : i < length c.args.marks.now = omega (arith, c.loop-mark-test.true) in
    not_marked c.args.marks.now i within c.if-mark.false c.loop-mark.invariant

pub returns : goal.returns
returns c = λ e.
    let past : length c.args.marks.now ≤ c.loop-mark.mark-index = omega (arith, c.loop-mark-test.false) in
    none_marked c.args.marks.now c.loop-mark.mark-index past c.loop-mark.invariant
