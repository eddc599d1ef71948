-- A package more, and all of them.
use Rattle.std.proofs.Common.{◌<◌, ◌≤◌, arith, length}
use Rattle.joined_properties.specs.StatementChains.IsChain.{begin}
use Rattle.joined_properties.proofs.ChainLaws.{packages_all, packages_more}
use Rattle.joined_properties.proofs.inheriting.Inheriting.join_packages.Goals as goal

pub loop-place-init : goal.loop-place-init
loop-place-init c = λ q. begin

pub loop-place-preserved : goal.loop-place-preserved
loop-place-preserved c = λ q.
    let i = c.loop-place.place-index in
    let within : i < length c.args.packages.now = omega (arith, c.loop-place-test.true) in
    packages_more c.args.self.now.stated.now c.args.packages.now i within (c.loop-place.invariant q)
    (c.in_ok-join_package.ensures q)

pub returns : goal.returns
returns c = λ q.
    let past : length c.args.packages.now ≤ c.loop-place.place-index = omega (arith, c.loop-place-test.false) in
    packages_all c.args.self.now.stated.now c.args.packages.now c.loop-place.place-index past
    (c.loop-place.invariant q)
