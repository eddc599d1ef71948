-- The properties of the statements so far.
use Rattle.std.proofs.Common.{take}
use Rattle.std.specs.Prelude.{All}
use Rattle.joined_properties.specs.declared.statement.Statement.{Statement}
use Rattle.linked_types.specs.PartIdentifiers.{AreEach}
use Rattle.schema_records.specs.PropertyRecords.{IsJoinedProperty}
use Rattle.schema_records.specs.RegisteredParts.{IsAttributePlace}
use Rattle.schema_records.proofs.property_records.stated_properties.Given as goal

abbrev pub invariant-loop-statement : goal.invariant-loop-statement
invariant-loop-statement l =
    All (λ (statement : Statement). IsAttributePlace l.parts.linked.now statement.attribute) l.statements →
    AreEach (λ (statement : Statement) x. IsJoinedProperty l.parts.linked.now l.parts.table.now l.parts.values.now
    statement.attribute statement.joined x) (take l.statement-index l.statements) l.items.items
