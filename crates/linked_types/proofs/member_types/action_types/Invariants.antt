-- The types of the actions so far.
use Rattle.std.proofs.Common.{List}
use Rattle.asn1_names.specs.ModuleTerms.{ModuleTerm}
use Rattle.filled_syntaxes.specs.KnownThings.{AreNamedThings}
use Rattle.linked_types.specs.PartTypes.{TellsAction}
use Rattle.linked_types.specs.TypeTables.{IsTypeTable}
use Rattle.linked_types.proofs.NamingLaws.{NamedBefore}
use Rattle.linked_types.proofs.member_types.action_types.Given as goal

abbrev pub invariant-loop-action : goal.invariant-loop-action
invariant-loop-action l = (ms : List ModuleTerm) → AreNamedThings ms l.linked l.things →
    IsTypeTable ms l.linked l.initial.table → NamedBefore ms l.linked (TellsAction ms l.linked) l.linked.actions.items
    l.action-index l.types.items l.initial.table l.table l.initial.bad.first l.bad.first
