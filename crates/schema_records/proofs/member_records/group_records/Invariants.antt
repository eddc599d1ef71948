-- The records of the groups so far.
use Rattle.std.proofs.Common.{take}
use Rattle.linked_types.specs.PartIdentifiers.{AreEach}
use Rattle.schema_records.specs.MemberRecords.{IsGroup}
use Rattle.schema_records.specs.RegisteredParts.{AreRegisteredParts}
use Rattle.schema_records.proofs.member_records.group_records.Given as goal

abbrev pub invariant-loop-part : goal.invariant-loop-part
invariant-loop-part l = AreRegisteredParts l.parts.linked.now →
    AreEach (IsGroup l.parts.linked.now) (take l.part-index l.parts.linked.now.groups.items) l.items.items
