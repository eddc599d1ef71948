-- There is no action, or the attribute is of another type, or it isn't.
use Rattle.std.proofs.Math.Path.{subst}
use Rattle.gdmo_names.specs.PartTerms.{body_of}
use Rattle.gdmo_rules.specs.StepFaults.{TellsStatedOf}
use Rattle.gdmo_rules.proofs.StepTypeLaws.{no_action_noted, other_noted}
use Rattle.gdmo_rules.proofs.step_types.note_type.Goals as goal

pub returns-in_default-clause-noted : goal.returns-in_default-clause-noted
returns-in_default-clause-noted c = λ parts rule x stated_of is are at kind told.
    no_action_noted parts c.args.numbers.now.lists rule x stated_of c.args.naming.document c.args.naming.label.now.at
    c.args.faults.now.first (subst (TellsStatedOf parts c.args.numbers.now.lists rule stated_of) c.in_default.is told)

pub returns-clause-noted : goal.returns-clause-noted
returns-clause-noted c = λ parts rule x stated_of is are at kind told.
    let row = c.args.numbers.now.lists in
    let type = subst (TellsStatedOf parts row rule stated_of) c.in-Some.is told in
    other_noted parts row rule x stated_of c.in-Some.other c.args.naming.document c.args.naming.label.now.at type
    (c.in_ok-note_other.ensures.noted parts x (stated_of (body_of type.0.template)) is are at kind type.2)
