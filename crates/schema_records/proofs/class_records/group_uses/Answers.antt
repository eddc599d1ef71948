-- One more, and all of them.
use Rattle.std.proofs.Common.{◌<◌, arith, length}
use Rattle.schema_records.specs.ClassRecords.{IsGroupUse}
use Rattle.schema_records.specs.RegisteredParts.{IsRegisteredUse}
use Rattle.class_faults.proofs.PlaceFaultLaws.{got_at}
use Rattle.schema_records.proofs.EachLaws.{all_at, each_added, each_none, each_whole}
use Rattle.schema_records.proofs.class_records.group_uses.Goals as goal

pub loop-stated-init : goal.loop-stated-init
loop-stated-init c = λ all. each_none (IsGroupUse c.args.parts.now.linked.now) c.new-items.result.items c.new-items.ensures.items

pub loop-stated-preserved : goal.loop-stated-preserved
loop-stated-preserved c = λ all.
    let linked = c.args.parts.now.linked.now in
    let i = c.loop-stated.stated-index in
    let xs = c.args.uses.now in
    let x = c.stated-item.result in
    let within : i < length xs = omega (arith, c.loop-stated-test.true) in
    let at = got_at xs i x within c.stated-item.is in
    each_added (IsGroupUse linked) xs i x c.loop-stated.items.items c.push_group_use.new.items.items at
    (c.loop-stated.invariant all)
    (c.in_ok-push_group_use.ensures (all_at (IsRegisteredUse linked) xs i x all at))

pub returns : goal.returns
returns c = λ all. each_whole (IsGroupUse c.args.parts.now.linked.now) c.args.uses.now c.loop-stated.stated-index
    c.loop-stated.items.items c.loop-stated-test.false (c.loop-stated.invariant all)
