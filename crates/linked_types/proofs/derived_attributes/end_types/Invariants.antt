-- The types of the attributes at the ends so far.
use Rattle.std.proofs.Common.{List}
use Rattle.asn1_names.specs.ModuleTerms.{ModuleTerm}
use Rattle.linked_parts.specs.declared.linked.Linked.{Linked}
use Rattle.filled_syntaxes.specs.KnownThings.{AreNamedThings}
use Rattle.linked_types.specs.TypeTables.{IsTypeTable}
use Rattle.linked_types.proofs.NamingLaws.{NamedBefore, TellsEnd}
use Rattle.linked_types.proofs.derived_attributes.end_types.Given as goal

abbrev pub invariant-loop-end : goal.invariant-loop-end
invariant-loop-end l = (ms : List ModuleTerm) (linked : Linked) → AreNamedThings ms linked l.things →
    IsTypeTable ms linked l.initial.table → NamedBefore ms linked (TellsEnd ms linked l.attributes) l.ends l.end-index
    l.types.items l.initial.table l.table l.initial.bad.first l.bad.first
