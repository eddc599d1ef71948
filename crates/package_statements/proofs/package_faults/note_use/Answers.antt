-- What is stated is judged by the syntax of the attribute, where it has one.
use Rattle.std.proofs.Common.{ap}
use Rattle.std.specs.Option.{option_copied}
use Rattle.package_statements.proofs.FaultLaws.{no_use, use_noted}
use Rattle.package_statements.proofs.package_faults.note_use.Goals as goal

pub returns-in_ok-note_said-in-Some : goal.returns-in_ok-note_said-in-Some
returns-in_ok-note_said-in-Some c = λ ms known.
    use_noted ms c.args.parts.now.linked.now c.args.document c.args.stated.now (option_copied c.attribute_syntax.result)
    c.in-Some.syntax.now (ap option_copied c.in-Some.is) (c.attribute_syntax.ensures ms known)
    (c.in_ok-note_said-in-Some.ensures ms known)

pub returns-in-None : goal.returns-in-None
returns-in-None c = λ ms known.
    no_use ms c.args.parts.now.linked.now c.args.document c.args.stated.now (option_copied c.attribute_syntax.result)
    c.args.faults.now.first (ap option_copied c.in-None.is) (c.attribute_syntax.ensures ms known)
