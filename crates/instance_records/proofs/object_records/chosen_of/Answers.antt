-- One identifier more, and all of them.
use Rattle.std.proofs.Common.{◌<◌, arith, length}
use Rattle.std.specs.Option.{option_copied}
use Rattle.linked_parts.specs.declared.linked.LinkedPackage.{LinkedPackage}
use Rattle.linked_types.specs.PartIdentifiers.{IsIdentified}
use Rattle.schema_records.proofs.EachLaws.{each_none, each_whole, identified_added}
use Rattle.instance_records.proofs.object_records.chosen_of.Goals as goal

pub loop-place-init : goal.loop-place-init
loop-place-init c = λ all.
    each_none (IsIdentified (λ (x : LinkedPackage). x.head) c.args.parts.now.linked.now.packages.items)
    c.new-items.result.items c.new-items.ensures.items

pub loop-place-preserved : goal.loop-place-preserved
loop-place-preserved c = λ all.
    let within : c.loop-place.place-index < length c.args.places.now = omega (arith, c.loop-place-test.true) in
    identified_added (λ (x : LinkedPackage). x.head) c.args.parts.now.linked.now.packages.items c.args.places.now
    c.loop-place.place-index c.loop-place.items.items c.push_id.new.ids.items (option_copied c.package_id.result) all
    within c.package_id.ensures c.in_ok-push_id.ensures (c.loop-place.invariant all)

pub returns : goal.returns
returns c = λ all.
    each_whole (IsIdentified (λ (x : LinkedPackage). x.head) c.args.parts.now.linked.now.packages.items)
    c.args.places.now c.loop-place.place-index c.loop-place.items.items c.loop-place-test.false
    (c.loop-place.invariant all)
