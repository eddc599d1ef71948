-- The identifiers of the attributes so far.
use Rattle.std.proofs.Common.{take}
use Rattle.std.specs.Prelude.{All}
use Rattle.linked_types.specs.PartIdentifiers.{AreEach, IsAttributeId}
use Rattle.schema_records.specs.RegisteredParts.{IsAttributePlace}
use Rattle.schema_records.proofs.identifiers.attribute_ids.Given as goal

abbrev pub invariant-loop-place : goal.invariant-loop-place
invariant-loop-place l = All (IsAttributePlace l.parts.linked.now) l.places →
    AreEach (IsAttributeId l.parts.linked.now) (take l.place-index l.places) l.items.items
