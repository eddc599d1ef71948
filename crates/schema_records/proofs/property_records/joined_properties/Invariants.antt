-- The properties of the entries so far.
use Rattle.std.proofs.Common.{◌≡◌, ◌++◌, ℕ, map}
use Rattle.std.specs.Map.Iter.{deref_pair}
use Rattle.joined_statements.specs.declared.joined.Joined.{Joined}
use Rattle.linked_types.specs.PartIdentifiers.{AreEach}
use Rattle.schema_records.specs.PropertyRecords.{AreAttributePlaces, IsJoinedProperty}
use Rattle.schema_records.proofs.property_records.joined_properties.Given as goal

abbrev pub invariant-loop-attribute : goal.invariant-loop-attribute
invariant-loop-attribute l = (map deref_pair l.yielded ++ l.attribute-iterator ≡ l.attributes.entries)
    × (AreAttributePlaces l.parts.linked.now l.attributes → AreEach (λ (entry : ℕ × Joined) x.
    IsJoinedProperty l.parts.linked.now l.parts.table.now l.parts.values.now entry.0 entry.1 x)
    (map deref_pair l.yielded) l.items.items)
