-- The word is a label, or it isn't.
use Rattle.std.proofs.Math.Path.{subst}
use Rattle.gdmo_rules.proofs.StepTypeLaws.{TellsLabelled, label_noted, labelled_by, no_label_noted}
use Rattle.gdmo_rules.proofs.step_types.judge_other_word.Goals as goal

pub returns-then-branch-clause-noted : goal.returns-then-branch-clause-noted
returns-then-branch-clause-noted c = λ parts rule is are known other.
    let told = c.in_ok-is_label_of_nothing.ensures in
    label_noted parts rule c.args.word.now c.args.known.document known.is_in other
    (subst (TellsLabelled parts rule c.args.word.now) c.if-branch.true
    (labelled_by parts c.args.numbers.now.lists rule c.args.word.now c.args.known.types _ other known.types
    (λ action tells. told.told parts action are tells) told.missing))
    (c.note_label.ensures parts is.are_found.all is.are_labels)

pub returns-else-branch-clause-noted : goal.returns-else-branch-clause-noted
returns-else-branch-clause-noted c = λ parts rule is are known other.
    let told = c.in_ok-is_label_of_nothing.ensures in
    no_label_noted parts rule c.args.word.now c.args.faults.now.first other
    (subst (TellsLabelled parts rule c.args.word.now) c.if-branch.false
    (labelled_by parts c.args.numbers.now.lists rule c.args.word.now c.args.known.types _ other known.types
    (λ action tells. told.told parts action are tells) told.missing))
