-- One field more, and all of them.
use Rattle.std.proofs.Common.{◌<◌, ◌≤◌, arith, length, sym}
use Rattle.linked_templates.specs.MemberTexts.{IsFieldText, LinksField}
use Rattle.gdmo_linking.proofs.StepLaws.{at_place, each_begun, each_done, each_more, each_number}
use Rattle.linked_templates.proofs.linking_members.linked_fields.Goals as goal

pub loop-k-init : goal.loop-k-init
loop-k-init c = λ parts document each.
    each_begun (IsFieldText parts document) c.args.fields.now c.new-linked.result.items c.new-linked.ensures.items

pub loop-k-preserved : goal.loop-k-preserved
loop-k-preserved c = λ parts document each.
    let fields = c.args.fields.now in
    let k = c.loop-k.k in
    let within : k < length fields = omega (arith, c.loop-k-test.true) in
    let at = at_place fields k c.index-fields-k.result within c.index-fields-k.is in
    each_more (IsFieldText parts document) fields c.loop-k.linked.items c.push.new.self.items k c.index-fields-k.result
    _ at (c.loop-k.invariant parts document each)
    (record {
      is_name = sym c.in_ok-name.ensures;
      is_attribute = each_number (LinksField parts document) fields c.args.attributes.now k c.index-fields-k.result
          c.number_at.result each at c.number_at.ensures;
    }) c.in_ok-push.ensures.items

pub returns : goal.returns
returns c = λ parts document each.
    let past : length c.args.fields.now ≤ c.loop-k.k = omega (arith, c.loop-k-test.false) in
    each_done (IsFieldText parts document) c.args.fields.now c.loop-k.linked.items c.loop-k.k past
    (c.loop-k.invariant parts document each)
