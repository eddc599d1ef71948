-- The identifiers of the notifications so far.
use Rattle.std.proofs.Common.{take}
use Rattle.std.specs.Prelude.{All}
use Rattle.linked_parts.specs.declared.linked.LinkedNotification.{LinkedNotification}
use Rattle.linked_types.specs.PartIdentifiers.{AreIdentified}
use Rattle.schema_records.specs.RegisteredParts.{IsNotificationPlace}
use Rattle.schema_records.proofs.identifiers.notification_ids.Given as goal

abbrev pub invariant-loop-place : goal.invariant-loop-place
invariant-loop-place l = All (IsNotificationPlace l.parts.linked.now) l.places →
    AreIdentified (λ (x : LinkedNotification). x.head) l.parts.linked.now.notifications.items
    (take l.place-index l.places) l.items.items
