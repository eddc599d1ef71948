-- One attribute more, and all of them.
use Rattle.std.proofs.Common.{◌≡◌, ◌<◌, ◌≤◌, Some, arith, length}
use Rattle.std.specs.Prelude.{slice_get}
use Rattle.std.proofs.Math.Path.{subst}
use Rattle.class_faults.proofs.PlaceFaultLaws.{got_at}
use Rattle.schema_records.proofs.AttributeLaws.{attributes_added, attributes_none, attributes_whole}
use Rattle.schema_records.proofs.member_records.attribute_records.Goals as goal

pub loop-place-init : goal.loop-place-init
loop-place-init c = λ ms known have. attributes_none ms c.args.parts.now.linked.now c.new-records.result c.new-records.ensures

pub loop-place-preserved : goal.loop-place-preserved
loop-place-preserved c = λ ms known have.
    let linked = c.args.parts.now.linked.now in
    let i = c.loop-place.place in
    let slice = c.deref-part-items.result.now in
    let part = c.part-item.result in
    let within : i < length slice = omega (arith, c.loop-place-test.true) in
    let at = subst (λ xs. slice_get xs i ≡ Some part) c.deref-part-items.ensures.value
    (got_at slice i part within c.part-item.is) in
    attributes_added ms linked linked.attributes.items i part c.loop-place.records c.push_attribute.new.records at
    (c.loop-place.invariant ms known have) (c.in_ok-push_attribute.ensures ms known have at)

pub returns : goal.returns
returns c = λ ms known have. attributes_whole ms c.args.parts.now.linked.now
    c.args.parts.now.linked.now.attributes.items c.loop-place.place c.loop-place.records
    (subst (λ xs. length xs ≤ c.loop-place.place) c.deref-part-items.ensures.value c.loop-place-test.false)
    (c.loop-place.invariant ms known have)
