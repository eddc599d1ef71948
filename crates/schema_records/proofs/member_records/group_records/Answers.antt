-- One record more, and all of them.
use Rattle.std.proofs.Common.{◌≡◌, ◌<◌, ◌≤◌, Some, arith, length}
use Rattle.std.specs.Prelude.{slice_get}
use Rattle.std.proofs.Math.Path.{subst}
use Rattle.class_faults.proofs.PlaceFaultLaws.{got_at}
use Rattle.schema_records.specs.MemberRecords.{IsGroup}
use Rattle.schema_records.specs.RegisteredParts.{IsRegisteredGroup}
use Rattle.schema_records.proofs.EachLaws.{all_at, each_added, each_none, each_whole}
use Rattle.schema_records.proofs.member_records.group_records.Goals as goal

pub loop-part-init : goal.loop-part-init
loop-part-init c = λ registered. each_none (IsGroup c.args.parts.now.linked.now) c.new-items.result.items c.new-items.ensures.items

pub loop-part-preserved : goal.loop-part-preserved
loop-part-preserved c = λ registered.
    let linked = c.args.parts.now.linked.now in
    let i = c.loop-part.part-index in
    let slice = c.deref-part-items.result.now in
    let within : i < length slice = omega (arith, c.loop-part-test.true) in
    let at = subst (λ xs. slice_get xs i ≡ Some c.part-item.result) c.deref-part-items.ensures.value
    (got_at slice i c.part-item.result within c.part-item.is) in
    each_added (IsGroup linked) linked.groups.items i c.part-item.result c.loop-part.items.items c.push_group.new.items.items
    at (c.loop-part.invariant registered)
    (c.in_ok-push_group.ensures (all_at (IsRegisteredGroup linked) linked.groups.items i c.part-item.result registered.groups at))

pub returns : goal.returns
returns c = λ registered. each_whole (IsGroup c.args.parts.now.linked.now) c.args.parts.now.linked.now.groups.items
    c.loop-part.part-index c.loop-part.items.items
    (subst (λ xs. length xs ≤ c.loop-part.part-index) c.deref-part-items.ensures.value c.loop-part-test.false)
    (c.loop-part.invariant registered)
