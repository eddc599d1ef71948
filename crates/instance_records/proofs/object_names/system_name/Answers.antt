-- The name of the first ROOT; one instance more that is none.
use Rattle.std.proofs.Common.{◌≡◌, ◌<◌, ◌∙◌, Some, arith, length, sym}
use Rattle.std.specs.Prelude.{slice_get}
use Rattle.std.proofs.Math.Path.{subst}
use Rattle.linked_parts.specs.declared.linked.LinkedInstance.{LinkedInstance}
use Rattle.asn1_names.proofs.TableAnswers.{item_is}
use Rattle.class_faults.proofs.PlaceFaultLaws.{got_at}
use Rattle.section_values.specs.SectionRecords.{IsInstance}
use Rattle.schema_records.proofs.EachLaws.{all_at, ok_by}
use Rattle.instance_records.specs.InstanceRecords.{IsStatedName}
use Rattle.instance_records.specs.RegisteredInstances.{IsRegisteredInstance}
use Rattle.instance_records.proofs.PairLaws.{each_at}
use Rattle.instance_records.proofs.RootLaws.{first_found, none_further}
use Rattle.instance_records.proofs.object_names.system_name.Goals as goal

pub returns-then-part : goal.returns-then-part
returns-then-part c = ok_by c.stated_name.result _ _ (λ name told ms known registered each.
    let linked = c.args.parts.now.linked.now in
    let xs = linked.instances.items in
    let values = c.args.values.now in
    let i = c.loop-place.place in
    let slice = c.deref-part-items.result.now in
    let part = c.part-item.result in
    let within : i < length slice = omega (arith, c.loop-place-test.true) in
    let at = subst (λ ys. slice_get ys i ≡ Some part) c.deref-part-items.ensures.value
    (got_at slice i part within c.part-item.is) in
    let held = each_at (IsInstance ms linked) xs values i part each at in
    let got = item_is values i c.get.result c.get.ensures.lookup.0 c.get.ensures.lookup.1 in
    let first = first_found (λ (x : LinkedInstance). x.is_root) xs i part c.loop-place.invariant at c.if-part.true in
    subst (λ o. IsStatedName ms linked o name) (sym first)
    (told ms held.0 known (all_at (IsRegisteredInstance linked) xs i part registered at) (got ∙ held.1) held.2))
    c.stated_name.ensures

pub loop-place-preserved : goal.loop-place-preserved
loop-place-preserved c =
    let linked = c.args.parts.now.linked.now in
    let xs = linked.instances.items in
    let i = c.loop-place.place in
    let slice = c.deref-part-items.result.now in
    let part = c.part-item.result in
    let within : i < length slice = omega (arith, c.loop-place-test.true) in
    let at = subst (λ ys. slice_get ys i ≡ Some part) c.deref-part-items.ensures.value
    (got_at slice i part within c.part-item.is) in
    none_further (λ (x : LinkedInstance). x.is_root) xs i part c.loop-place.invariant at c.if-part.false
