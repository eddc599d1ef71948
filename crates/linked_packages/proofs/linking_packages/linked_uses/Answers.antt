-- One attribute more, and all of them.
use Rattle.std.proofs.Common.{◌<◌, ◌≤◌, arith, length}
use Rattle.linked_packages.specs.PackageTexts.{IsNamedUse, IsUseText, LinksUse}
use Rattle.gdmo_linking.proofs.StepLaws.{all_at, at_place, each_begun, each_done, each_more, each_number}
use Rattle.linked_packages.proofs.linking_packages.linked_uses.Goals as goal

pub loop-k-init : goal.loop-k-init
loop-k-init c = λ parts document is named each.
    each_begun (IsUseText parts document) c.args.uses.now c.new-linked.result.items c.new-linked.ensures.items

pub loop-k-preserved : goal.loop-k-preserved
loop-k-preserved c = λ parts document is named each.
    let uses = c.args.uses.now in
    let k = c.loop-k.k in
    let within : k < length uses = omega (arith, c.loop-k-test.true) in
    let own = c.index-uses-k.result in
    let at = at_place uses k own within c.index-uses-k.is in
    each_more (IsUseText parts document) uses c.loop-k.linked.items c.push.new.self.items k own _ at
    (c.loop-k.invariant parts document is named each)
    (c.in_ok-linked_use.ensures parts document is (all_at (IsNamedUse parts) uses k own named at)
    (each_number (LinksUse parts document) uses c.args.attributes.now k own c.number_at.result each at
    c.number_at.ensures)) c.in_ok-push.ensures.items

pub returns : goal.returns
returns c = λ parts document is named each.
    let past : length c.args.uses.now ≤ c.loop-k.k = omega (arith, c.loop-k-test.false) in
    each_done (IsUseText parts document) c.args.uses.now c.loop-k.linked.items c.loop-k.k past
    (c.loop-k.invariant parts document is named each)
