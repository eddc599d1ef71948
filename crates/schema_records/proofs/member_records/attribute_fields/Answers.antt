-- One more, and all of them.
use Rattle.std.proofs.Common.{◌<◌, arith, length}
use Rattle.linked_parts.specs.declared.linked.LinkedField.{LinkedField}
use Rattle.schema_records.specs.MemberRecords.{IsField}
use Rattle.schema_records.specs.RegisteredParts.{IsAttributePlace}
use Rattle.class_faults.proofs.PlaceFaultLaws.{got_at}
use Rattle.schema_records.proofs.EachLaws.{all_at, each_added, each_none, each_whole}
use Rattle.schema_records.proofs.member_records.attribute_fields.Goals as goal

pub loop-field-init : goal.loop-field-init
loop-field-init c = λ all. each_none (IsField c.args.parts.now.linked.now) c.new-items.result.items c.new-items.ensures.items

pub loop-field-preserved : goal.loop-field-preserved
loop-field-preserved c = λ all.
    let linked = c.args.parts.now.linked.now in
    let i = c.loop-field.field-index in
    let xs = c.args.fields.now in
    let x = c.field-item.result in
    let within : i < length xs = omega (arith, c.loop-field-test.true) in
    let at = got_at xs i x within c.field-item.is in
    each_added (IsField linked) xs i x c.loop-field.items.items c.push_field.new.items.items at
    (c.loop-field.invariant all)
    (c.in_ok-push_field.ensures (all_at (λ (field : LinkedField). IsAttributePlace linked field.attribute) xs i x all at))

pub returns : goal.returns
returns c = λ all. each_whole (IsField c.args.parts.now.linked.now) c.args.fields.now c.loop-field.field-index
    c.loop-field.items.items c.loop-field-test.false (c.loop-field.invariant all)
