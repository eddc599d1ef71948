-- The identifiers of the actions so far.
use Rattle.std.proofs.Common.{take}
use Rattle.std.specs.Prelude.{All}
use Rattle.linked_parts.specs.declared.linked.LinkedAction.{LinkedAction}
use Rattle.linked_types.specs.PartIdentifiers.{AreIdentified}
use Rattle.schema_records.specs.RegisteredParts.{IsActionPlace}
use Rattle.schema_records.proofs.identifiers.action_ids.Given as goal

abbrev pub invariant-loop-place : goal.invariant-loop-place
invariant-loop-place l = All (IsActionPlace l.parts.linked.now) l.places →
    AreIdentified (λ (x : LinkedAction). x.head) l.parts.linked.now.actions.items (take l.place-index l.places) l.items.items
