-- The types of the notifications so far.
use Rattle.std.proofs.Common.{List}
use Rattle.asn1_names.specs.ModuleTerms.{ModuleTerm}
use Rattle.filled_syntaxes.specs.KnownThings.{AreNamedThings}
use Rattle.linked_types.specs.PartTypes.{TellsNotification}
use Rattle.linked_types.specs.TypeTables.{IsTypeTable}
use Rattle.linked_types.proofs.NamingLaws.{NamedBefore}
use Rattle.linked_types.proofs.member_types.notification_types.Given as goal

abbrev pub invariant-loop-notification : goal.invariant-loop-notification
invariant-loop-notification l = (ms : List ModuleTerm) → AreNamedThings ms l.linked l.things →
    IsTypeTable ms l.linked l.initial.table → NamedBefore ms l.linked (TellsNotification ms l.linked)
    l.linked.notifications.items
    l.notification-index l.types.items l.initial.table l.table l.initial.bad.first l.bad.first
