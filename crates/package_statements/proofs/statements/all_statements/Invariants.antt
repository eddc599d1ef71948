-- What the packages so far state.
use Rattle.std.proofs.Common.{List}
use Rattle.asn1_names.specs.ModuleTerms.{ModuleTerm}
use Rattle.linked_parts.specs.declared.linked.Linked.{Linked}
use Rattle.filled_syntaxes.specs.KnownThings.{AreNamedThings}
use Rattle.linked_types.specs.TypeTables.{IsTypeTable}
use Rattle.linked_types.proofs.NamingLaws.{NamedBefore}
use Rattle.package_statements.proofs.StatementLaws.{KnownPackage}
use Rattle.package_statements.proofs.statements.all_statements.Given as goal

abbrev pub invariant-loop-part : goal.invariant-loop-part
invariant-loop-part l = (ms : List ModuleTerm) (linked : Linked) → AreNamedThings ms linked l.things →
    IsTypeTable ms linked l.initial.table → NamedBefore ms linked (KnownPackage ms linked l.values)
    l.packages l.part-index l.statements.items l.initial.table l.table l.initial.bad.first l.bad.first
