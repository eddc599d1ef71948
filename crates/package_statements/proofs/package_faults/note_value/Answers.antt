-- The name is judged, where one stands.
use Rattle.package_statements.proofs.FaultLaws.{name_noted, no_name}
use Rattle.package_statements.proofs.package_faults.note_value.Goals as goal

pub returns-in_ok-note_named-in-Some : goal.returns-in_ok-note_named-in-Some
returns-in_ok-note_named-in-Some c = λ ms known.
    name_noted ms c.args.parts.now.linked.now c.args.syntax.now c.args.document c.args.name.now
    c.in-Some.name c.in-Some.is
    (c.in_ok-note_named-in-Some.ensures ms known)

pub returns-in-None : goal.returns-in-None
returns-in-None c = λ ms known.
    no_name ms c.args.parts.now.linked.now c.args.syntax.now c.args.document c.args.name.now
    c.args.faults.now.first c.in-None.is
