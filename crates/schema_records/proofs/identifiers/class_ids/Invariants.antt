-- The identifiers of the classes so far.
use Rattle.std.proofs.Common.{take}
use Rattle.std.specs.Prelude.{All}
use Rattle.linked_types.specs.PartIdentifiers.{AreEach, IsClassId}
use Rattle.schema_records.specs.RegisteredParts.{IsClassPlace}
use Rattle.schema_records.proofs.identifiers.class_ids.Given as goal

abbrev pub invariant-loop-place : goal.invariant-loop-place
invariant-loop-place l = All (IsClassPlace l.parts.linked.now) l.places →
    AreEach (IsClassId l.parts.linked.now) (take l.place-index l.places) l.items.items
