-- The place of a type, or none.
use Rattle.filled_syntaxes.specs.BadDefaults.{BadBeside}
use Rattle.filled_syntaxes.specs.LinkedMeanings.{linked_arcs, linked_meaning}
use Rattle.linked_types.specs.NotedDefaults.{BadDefaults}
use Rattle.linked_types.specs.PartTypes.{TellsOptionalType}
use Rattle.std.proofs.Common.{Some, sym}
use Rattle.std.proofs.Math.Path.{subst}
use Rattle.linked_types.proofs.TableLaws.{names_by, names_none}
use Rattle.linked_types.proofs.type_table.TypeTable.optional_place.Goals as goal

pub returns-in-None-clause-names : goal.returns-in-None-clause-names
returns-in-None-clause-names c = λ ms linked known table.
    names_none (BadDefaults ms linked) c.args.self.now c.args.bad.now.first table

pub returns-in_ok-place-in-Some-clause-told : goal.returns-in_ok-place-in-Some-clause-told
returns-in_ok-place-in-Some-clause-told c = λ ms linked known table.
    subst (λ name. TellsOptionalType ms linked c.place.new.self name (Some c.in_ok-place-in-Some.field-0))
    (sym c.in-Some.is)
    (c.in_ok-place-in-Some.ensures.told ms linked known table)

pub returns-in_ok-place-in-Some-clause-names : goal.returns-in_ok-place-in-Some-clause-names
returns-in_ok-place-in-Some-clause-names c = λ ms linked known table.
    names_by (BadBeside ms (linked_arcs linked) (linked_meaning ms c.in-Some.name.meaning)) (BadDefaults ms linked)
    (λ place bad. (c.in-Some.name.meaning, bad)) (c.in_ok-place-in-Some.ensures.names ms linked known table)
