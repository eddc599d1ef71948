-- The type that is named, or none.
use Rattle.std.proofs.Common.{Some, sym}
use Rattle.std.proofs.Math.Path.{subst}
use Rattle.filled_syntaxes.specs.BadDefaults.{BadBeside}
use Rattle.filled_syntaxes.specs.LinkedMeanings.{linked_arcs, linked_meaning}
use Rattle.linked_types.specs.AttributeTypes.{type_name}
use Rattle.linked_types.specs.NotedDefaults.{BadDefaults}
use Rattle.linked_types.specs.PartTypes.{TellsOptionalType}
use Rattle.linked_types.proofs.TableLaws.{names_by, names_none}
use Rattle.linked_types.proofs.derived_attributes.type_place.Goals as goal

pub returns-in_ok-place-in-OfType-clause-told : goal.returns-in_ok-place-in-OfType-clause-told
returns-in_ok-place-in-OfType-clause-told c = λ ms linked known table.
    subst (λ s. TellsOptionalType ms linked c.place.new.self (type_name s) (Some c.in_ok-place-in-OfType.field-0))
    (sym c.in-OfType.is)
    (c.in_ok-place-in-OfType.ensures.told ms linked known table)

pub returns-in_ok-place-in-OfType-clause-names : goal.returns-in_ok-place-in-OfType-clause-names
returns-in_ok-place-in-OfType-clause-names c = λ ms linked known table.
    names_by (BadBeside ms (linked_arcs linked) (linked_meaning ms c.in-OfType.name.meaning)) (BadDefaults ms linked)
    (λ place bad. (c.in-OfType.name.meaning, bad)) (c.in_ok-place-in-OfType.ensures.names ms linked known table)

pub returns-in-OfAttribute-clause-names : goal.returns-in-OfAttribute-clause-names
returns-in-OfAttribute-clause-names c = λ ms linked known table.
    names_none (BadDefaults ms linked) c.args.table.now c.args.bad.now.first table
