-- The value of the name is judged, where it has one.
use Rattle.std.proofs.Common.{ap}
use Rattle.std.specs.Option.{option_copied}
use Rattle.filled_syntaxes.specs.LinkedMeanings.{linked_arcs, linked_meaning}
use Rattle.package_statements.proofs.FaultLaws.{misfit_noted, no_value}
use Rattle.package_statements.proofs.ValueLaws.{exactly, none_assigned}
use Rattle.package_statements.proofs.package_faults.note_named.Goals as goal

pub returns-in_ok-note_misfit-in-Some : goal.returns-in_ok-note_misfit-in-Some
returns-in_ok-note_misfit-in-Some c = λ ms known.
    let linked = c.args.parts.now.linked.now in
    let name = c.args.name.now in
    misfit_noted ms linked c.args.syntax.now c.args.document name c.in-Some.value.now
    (exactly ms (linked_arcs linked) (linked_meaning ms name.meaning) (option_copied c.named_value.result)
    c.in-Some.value.now (ap option_copied c.in-Some.is) (c.named_value.ensures ms known))
    c.in_ok-note_misfit-in-Some.ensures

pub returns-in-None : goal.returns-in-None
returns-in-None c = λ ms known.
    let linked = c.args.parts.now.linked.now in
    let name = c.args.name.now in
    no_value ms linked c.args.syntax.now c.args.document name c.args.faults.now.first
    (none_assigned ms (linked_arcs linked) (linked_meaning ms name.meaning) (option_copied c.named_value.result)
    (ap option_copied c.in-None.is) (c.named_value.ensures ms known))
