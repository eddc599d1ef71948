-- One record more, and all of them.
use Rattle.std.proofs.Common.{◌≡◌, ◌<◌, ◌≤◌, ◌∙◌, Some, arith, length}
use Rattle.std.specs.Prelude.{slice_get}
use Rattle.std.proofs.Math.Path.{subst}
use Rattle.asn1_names.proofs.TableAnswers.{item_is}
use Rattle.class_faults.proofs.PlaceFaultLaws.{got_at}
use Rattle.section_values.specs.SectionRecords.{IsInstance}
use Rattle.schema_records.proofs.EachLaws.{all_at, each_added, each_none, each_whole}
use Rattle.instance_records.specs.InstanceRecords.{IsInstanceRecord}
use Rattle.instance_records.specs.RegisteredInstances.{IsRegisteredInstance}
use Rattle.instance_records.proofs.PairLaws.{each_at}
use Rattle.instance_records.proofs.object_records.all_records.Goals as goal

pub loop-place-init : goal.loop-place-init
loop-place-init c = λ ms known registered each.
    each_none (IsInstanceRecord ms c.args.parts.now.linked.now) c.new-items.result.items c.new-items.ensures.items

pub loop-place-preserved : goal.loop-place-preserved
loop-place-preserved c = λ ms known registered each.
    let linked = c.args.parts.now.linked.now in
    let xs = linked.instances.items in
    let values = c.args.values.now in
    let i = c.loop-place.place in
    let slice = c.deref-instance-items.result.now in
    let instance = c.instance-item.result in
    let within : i < length slice = omega (arith, c.loop-place-test.true) in
    let at = subst (λ ys. slice_get ys i ≡ Some instance) c.deref-instance-items.ensures.value
    (got_at slice i instance within c.instance-item.is) in
    let held = each_at (IsInstance ms linked) xs values i instance each at in
    let got = item_is values i c.get.result c.get.ensures.lookup.0 c.get.ensures.lookup.1 in
    each_added (IsInstanceRecord ms linked) xs i instance c.loop-place.items.items c.push_record.new.items.items at
    (c.loop-place.invariant ms known registered each)
    (c.in_ok-push_record.ensures ms held.0 known (all_at (IsRegisteredInstance linked) xs i instance registered at)
    (got ∙ held.1) held.2)

pub returns : goal.returns
returns c = λ ms known registered each. each_whole (IsInstanceRecord ms c.args.parts.now.linked.now)
    c.args.parts.now.linked.now.instances.items c.loop-place.place c.loop-place.items.items
    (subst (λ xs. length xs ≤ c.loop-place.place) c.deref-instance-items.ensures.value c.loop-place-test.false)
    (c.loop-place.invariant ms known registered each)
