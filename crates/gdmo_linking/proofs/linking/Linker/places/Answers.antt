-- One more place, and all of them.
use Rattle.std.proofs.Common.{◌<◌, ◌≤◌, arith, length}
use Rattle.gdmo_names.specs.TargetTables.{TellsMention}
use Rattle.gdmo_linking.specs.Linkers.{IsMeant, LinksMention}
use Rattle.gdmo_linking.proofs.StepLaws.{all_at, each_begun, each_done, each_more, each_size, told_at}
use Rattle.gdmo_linking.proofs.linking.Linker.places.Goals as goal

pub loop-k-init : goal.loop-k-init
loop-k-init c = λ parts document xs is meant each.
    each_begun (LinksMention parts document) xs c.new-places.result.items c.new-places.ensures.items

pub loop-k-preserved : goal.loop-k-preserved
loop-k-preserved c = λ parts document xs is meant each.
    let within : c.loop-k.k < length c.args.numbers.now = omega (arith, c.loop-k-test.true) in
    let found = told_at (TellsMention parts c.args.self.now.linkage.templates.now document) xs c.args.numbers.now
    c.loop-k.k c.target_at.result each within c.target_at.ensures in
    each_more (LinksMention parts document) xs c.loop-k.places.items c.push.new.self.items c.loop-k.k found.0
    c.place.result found.1 (c.loop-k.invariant parts document xs is meant each)
    (c.place.ensures parts document found.0 is
    (all_at (IsMeant parts document) xs c.loop-k.k found.0 meant found.1) found.2)
    c.in_ok-push.ensures.items

pub returns : goal.returns
returns c = λ parts document xs is meant each.
    let past : length xs ≤ c.loop-k.k =
    (let size = each_size (TellsMention parts c.args.self.now.linkage.templates.now document) xs c.args.numbers.now each in
    omega (arith, size, c.loop-k-test.false)) in
    each_done (LinksMention parts document) xs c.loop-k.places.items c.loop-k.k past
    (c.loop-k.invariant parts document xs is meant each)
