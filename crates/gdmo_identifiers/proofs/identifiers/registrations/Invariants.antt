-- The templates so far.
use Rattle.std.proofs.Common.{take}
use Rattle.std.specs.Prelude.{map}
use Rattle.key_numbers.specs.NumberedLists.{Row}
use Rattle.gdmo_names.specs.FoundViews.{AreTemplates, found_view}
use Rattle.gdmo_names.specs.DocumentTemplates.{templates}
use Rattle.gdmo_names.specs.InStep.{AreEach}
use Rattle.gdmo_names.specs.PartTerms.{PartTerms}
use Rattle.gdmo_identifiers.specs.IdentifierTables.{IsRegistration, TellsOids, TellsRegistered}
use Rattle.gdmo_identifiers.proofs.identifiers.registrations.Given as goal

abbrev pub invariant-loop-number : goal.invariant-loop-number
invariant-loop-number l = (parts : PartTerms) (row : Row) → AreTemplates parts l.templates →
    AreEach (TellsRegistered parts row) (templates parts) l.lists →
    AreEach (TellsOids parts) (templates parts) l.identifiers →
    AreEach (IsRegistration parts row) (map found_view (take l.number l.templates)) l.registered.items
