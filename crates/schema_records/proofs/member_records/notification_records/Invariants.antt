-- The records of the notifications so far.
use Rattle.std.proofs.Common.{List, take}
use Rattle.asn1_names.specs.ModuleTerms.{ModuleTerm}
use Rattle.linked_types.specs.KnownParts.{AreClosingParts}
use Rattle.linked_types.specs.PartIdentifiers.{AreEach}
use Rattle.schema_records.specs.MeantParts.{HaveSyntaxes}
use Rattle.schema_records.specs.MemberRecords.{IsNotification}
use Rattle.schema_records.specs.RegisteredParts.{AreRegisteredParts}
use Rattle.schema_records.proofs.member_records.notification_records.Given as goal

abbrev pub invariant-loop-place : goal.invariant-loop-place
invariant-loop-place l = (ms : List ModuleTerm) → AreClosingParts ms l.parts → AreRegisteredParts l.parts.linked.now →
    HaveSyntaxes ms l.parts.linked.now → AreEach (IsNotification ms l.parts.linked.now)
    (take l.place l.parts.linked.now.notifications.items) l.items.items
