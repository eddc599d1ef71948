-- The place of the type alone, or none.
use Rattle.std.proofs.Common.{sym}
use Rattle.std.proofs.Math.Path.{subst}
use Rattle.filled_syntaxes.specs.BadDefaults.{BadBeside}
use Rattle.filled_syntaxes.specs.LinkedMeanings.{linked_arcs, linked_meaning}
use Rattle.linked_types.specs.NotedDefaults.{BadDefaults}
use Rattle.linked_types.proofs.TableLaws.{names_by, names_none}
use Rattle.package_statements.specs.PackageStatements.{TellsPlaces}
use Rattle.package_statements.proofs.statements.type_places.Goals as goal

pub returns-in_ok-one_place-in-Some-clause-told : goal.returns-in_ok-one_place-in-Some-clause-told
returns-in_ok-one_place-in-Some-clause-told c = λ ms linked known table.
    subst (λ name. TellsPlaces ms linked c.place.new.self name c.in_ok-one_place-in-Some.field-0) (sym c.in-Some.is) (
      c.in_ok-place-in-Some.place,
      c.in_ok-place-in-Some.ensures.told ms linked known table,
      c.in_ok-one_place-in-Some.ensures,
    )

pub returns-in_ok-one_place-in-Some-clause-names : goal.returns-in_ok-one_place-in-Some-clause-names
returns-in_ok-one_place-in-Some-clause-names c = λ ms linked known table.
    names_by (BadBeside ms (linked_arcs linked) (linked_meaning ms c.in-Some.name.meaning)) (BadDefaults ms linked)
    (λ text bad. (c.in-Some.name.meaning, bad)) (c.in_ok-place-in-Some.ensures.names ms linked known table)

pub returns-in-None-clause-names : goal.returns-in-None-clause-names
returns-in-None-clause-names c = λ ms linked known table.
    names_none (BadDefaults ms linked) c.args.table.now c.args.bad.now.first table
