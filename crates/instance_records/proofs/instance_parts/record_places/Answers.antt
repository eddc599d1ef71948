-- One attribute more, and all of them.
use Rattle.std.proofs.Common.{◌≡◌, ◌<◌, ◌≤◌, Some, arith, length}
use Rattle.std.specs.Prelude.{slice_get}
use Rattle.std.proofs.Math.Path.{subst}
use Rattle.class_faults.proofs.PlaceFaultLaws.{got_at}
use Rattle.instance_records.proofs.PlaceLaws.{places_added, places_none, places_whole}
use Rattle.instance_records.proofs.instance_parts.record_places.Goals as goal

pub loop-attribute-init : goal.loop-attribute-init
loop-attribute-init c = λ ms attributes.
    places_none ms c.args.linked.now c.args.records.now c.new-places.result.items c.new-places.ensures.items attributes

pub loop-attribute-preserved : goal.loop-attribute-preserved
loop-attribute-preserved c = λ ms attributes.
    let linked = c.args.linked.now in
    let i = c.loop-attribute.attribute-index in
    let slice = c.deref-attribute-items.result.now in
    let part = c.attribute-item.result in
    let within : i < length slice = omega (arith, c.loop-attribute-test.true) in
    let at = subst (λ xs. slice_get xs i ≡ Some part) c.deref-attribute-items.ensures.value
    (got_at slice i part within c.attribute-item.is) in
    places_added ms linked c.args.records.now c.loop-attribute.places.items c.push.new.self.items i
    c.loop-attribute.next c.place_behind-next.result part c.record_place-place.result
    (c.loop-attribute.invariant ms attributes) at c.record_place-place.ensures c.in_ok-push.ensures.items
    c.place_behind-next.ensures

pub returns : goal.returns
returns c = λ ms attributes. places_whole ms c.args.linked.now c.args.records.now c.loop-attribute.places.items
    c.loop-attribute.attribute-index c.loop-attribute.next
    (subst (λ xs. length xs ≤ c.loop-attribute.attribute-index) c.deref-attribute-items.ensures.value
    c.loop-attribute-test.false)
    (c.loop-attribute.invariant ms attributes)
