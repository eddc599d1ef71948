-- What is stated of the attributes so far.
use Rattle.std.proofs.Common.{List}
use Rattle.asn1_names.specs.ModuleTerms.{ModuleTerm}
use Rattle.linked_parts.specs.declared.linked.Linked.{Linked}
use Rattle.filled_syntaxes.specs.KnownThings.{AreNamedThings}
use Rattle.linked_types.specs.TypeTables.{IsTypeTable}
use Rattle.linked_types.proofs.NamingLaws.{NamedBefore}
use Rattle.package_statements.proofs.StatementLaws.{KnownUse}
use Rattle.package_statements.proofs.statements.package_statements.Given as goal

abbrev pub invariant-loop-stated : goal.invariant-loop-stated
invariant-loop-stated l = (ms : List ModuleTerm) (linked : Linked) → AreNamedThings ms linked l.things →
    IsTypeTable ms linked l.initial.table → NamedBefore ms linked (KnownUse ms linked l.values)
    l.part.attributes.items l.stated-index l.statements.items l.initial.table l.table l.initial.bad.first l.bad.first
