-- One more that is named, and all of them.
use Rattle.std.proofs.Common.{◌≡◌, ◌<◌, ◌≤◌, [], arith, get_or, length, sym, take}
use Rattle.std.proofs.Math.Path.{subst}
use Rattle.std.proofs.lemmas.List.{take_all}
use Rattle.gdmo_names.specs.FoundViews.{found_term}
use Rattle.gdmo_names.specs.InStep.{AreEach}
use Rattle.gdmo_names.specs.Mentions.{template_mentions}
use Rattle.gdmo_names.specs.Roles.{role_term}
use Rattle.gdmo_names.specs.TargetTables.{IsMention}
use Rattle.gdmo_linking.specs.InRoles.{only}
use Rattle.gdmo_linking.specs.Linkers.{LinksMention}
use Rattle.gdmo_linking.proofs.LinkLaws.{named_at}
use Rattle.gdmo_linking.proofs.StepLaws.{at_place, each_size, taken}
use Rattle.gdmo_linking.proofs.linking.Linker.in_role.Goals as goal

pub loop-k-init : goal.loop-k-init
loop-k-init c = λ parts is. subst (λ ys. AreEach (LinksMention parts c.args.found.now.document) [] ys)
    (sym c.new-places.ensures.items) tt

pub loop-k-preserved : goal.loop-k-preserved
loop-k-preserved c = λ parts is.
    let mentions = c.args.found.now.mentions.items in
    let k = c.loop-k.k in
    let document = c.args.found.now.document in
    let all = template_mentions (found_term c.args.found.now) in
    let within : k < length mentions = omega (arith, c.loop-k-test.true) in
    let here = named_at parts c.args.self.now c.args.found.now c.args.targets.now k c.index-mentions-k.result
    c.target_at.result is (at_place mentions k c.index-mentions-k.result within
    (subst (λ ys. c.index-mentions-k.result ≡ get_or ys k c.index-mentions-k.result) c.as_slice-mentions.ensures.value
    c.index-mentions-k.is))
    c.target_at.ensures in
    subst (λ xs. AreEach (LinksMention parts document) (only (role_term c.args.role) xs) c.push_in_role.new.places.items)
    (sym (taken all k here.x here.at))
    (c.in_ok-push_in_role.ensures parts document (take k all) here.x is.knows here.meant here.in_role here.tells
    (c.loop-k.invariant parts is))

pub returns : goal.returns
returns c = λ parts is.
    let all = template_mentions (found_term c.args.found.now) in
    let past : length all ≤ c.loop-k.k =
    (let size = each_size (IsMention c.args.self.now.linkage.templates.now c.args.found.now.document)
    c.args.found.now.mentions.items all is.mentions in
    omega (arith, size, c.loop-k-test.false)) in
    subst (λ xs. AreEach (LinksMention parts c.args.found.now.document) (only (role_term c.args.role) xs)
    c.loop-k.places.items) (take_all c.loop-k.k all past) (c.loop-k.invariant parts is)
