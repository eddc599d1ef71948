-- A place that is kept, or one more.
use Rattle.filled_syntaxes.specs.BadDefaults.{BadBeside}
use Rattle.filled_syntaxes.specs.LinkedMeanings.{linked_arcs, linked_meaning}
use Rattle.linked_types.proofs.TableLaws.{names_none}
use Rattle.linked_types.proofs.type_table.TypeTable.place.Goals as goal

pub returns-in-Some-clause-told : goal.returns-in-Some-clause-told
returns-in-Some-clause-told c = λ ms linked known table.
    table.kept c.args.name.now.meaning c.meaning-meaning.result c.in-Some.place c.in-Some.ensures
    (c.meaning-meaning.ensures ms linked known)

pub returns-in-Some-clause-names : goal.returns-in-Some-clause-names
returns-in-Some-clause-names c = λ ms linked known table.
    names_none (BadBeside ms (linked_arcs linked) (linked_meaning ms c.args.name.now.meaning)) c.args.self.now
    c.args.bad.now.first table

pub returns-in_ok-add-in-None-clause-told : goal.returns-in_ok-add-in-None-clause-told
returns-in_ok-add-in-None-clause-told c = λ ms linked known table.
    c.in_ok-add-in-None.ensures.told ms linked known (c.meaning-meaning.ensures ms linked known)

pub returns-in_ok-add-in-None-clause-names : goal.returns-in_ok-add-in-None-clause-names
returns-in_ok-add-in-None-clause-names c = λ ms linked known table.
    c.in_ok-add-in-None.ensures.names ms linked known (c.meaning-meaning.ensures ms linked known) table
