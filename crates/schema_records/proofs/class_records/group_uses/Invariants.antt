-- Those so far.
use Rattle.std.proofs.Common.{take}
use Rattle.std.specs.Prelude.{All}
use Rattle.schema_records.specs.ClassRecords.{IsGroupUse}
use Rattle.schema_records.specs.RegisteredParts.{IsRegisteredUse}
use Rattle.linked_types.specs.PartIdentifiers.{AreEach}
use Rattle.schema_records.proofs.class_records.group_uses.Given as goal

abbrev pub invariant-loop-stated : goal.invariant-loop-stated
invariant-loop-stated l = All (IsRegisteredUse l.parts.linked.now) l.uses →
    AreEach (IsGroupUse l.parts.linked.now) (take l.stated-index l.uses) l.items.items
