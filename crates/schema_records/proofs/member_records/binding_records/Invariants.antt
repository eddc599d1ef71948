-- The records of the name bindings so far.
use Rattle.std.proofs.Common.{take}
use Rattle.linked_types.specs.PartIdentifiers.{AreEach}
use Rattle.schema_records.specs.MemberRecords.{IsBinding}
use Rattle.schema_records.specs.RegisteredParts.{AreRegisteredParts}
use Rattle.schema_records.proofs.member_records.binding_records.Given as goal

abbrev pub invariant-loop-part : goal.invariant-loop-part
invariant-loop-part l = AreRegisteredParts l.parts.linked.now →
    AreEach (IsBinding l.parts.linked.now) (take l.part-index l.parts.linked.now.bindings.items) l.items.items
