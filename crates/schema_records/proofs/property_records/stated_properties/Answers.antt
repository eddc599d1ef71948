-- One statement more, and all of them.
use Rattle.std.proofs.Common.{◌<◌, arith, length}
use Rattle.joined_properties.specs.declared.statement.Statement.{Statement}
use Rattle.linked_parts.specs.declared.linked.Linked.{Linked}
use Rattle.term_model.specs.declared.packages.Property.{Property}
use Rattle.class_faults.proofs.PlaceFaultLaws.{got_at}
use Rattle.schema_records.specs.PropertyRecords.{IsJoinedProperty}
use Rattle.schema_records.specs.RegisteredParts.{IsAttributePlace}
use Rattle.schema_records.proofs.EachLaws.{all_at, each_added, each_none, each_whole}
use Rattle.schema_records.proofs.property_records.stated_properties.Goals as goal

pub loop-statement-init : goal.loop-statement-init
loop-statement-init c = λ all. each_none (λ (statement : Statement) (x : Property).
    IsJoinedProperty c.args.parts.now.linked.now c.args.parts.now.table.now c.args.parts.now.values.now
    statement.attribute statement.joined x) c.new-items.result.items c.new-items.ensures.items

pub loop-statement-preserved : goal.loop-statement-preserved
loop-statement-preserved c = λ all.
    let parts = c.args.parts.now in
    let i = c.loop-statement.statement-index in
    let xs = c.args.statements.now in
    let statement = c.statement-item.result in
    let within : i < length xs = omega (arith, c.loop-statement-test.true) in
    let at = got_at xs i statement within c.statement-item.is in
    let added = c.in_ok-push_property.ensures
    (all_at (λ (s : Statement). IsAttributePlace parts.linked.now s.attribute) xs i statement all at) in
    each_added (λ (s : Statement) (x : Property).
    IsJoinedProperty parts.linked.now parts.table.now parts.values.now s.attribute s.joined x) xs i statement
    c.loop-statement.items.items c.push_property.new.items.items at (c.loop-statement.invariant all)
    (record { x = added.x; behind = added.behind; is = added.is })

pub returns : goal.returns
returns c = λ all. each_whole (λ (statement : Statement) (x : Property).
    IsJoinedProperty c.args.parts.now.linked.now c.args.parts.now.table.now c.args.parts.now.values.now
    statement.attribute statement.joined x) c.args.statements.now c.loop-statement.statement-index
    c.loop-statement.items.items c.loop-statement-test.false (c.loop-statement.invariant all)
