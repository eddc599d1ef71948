-- Two words, and two values.
use Rattle.package_statements.proofs.FaultLaws.{said_noted}
use Rattle.package_statements.proofs.package_faults.note_said.Goals as goal

pub returns : goal.returns
returns c = λ ms known.
    said_noted ms c.args.parts.now.linked.now c.args.syntax.now c.args.document c.args.stated.now c.note_word.ensures
    c.note_word-2.ensures (c.in_ok-note_value.ensures ms known) (c.in_ok-note_value-2.ensures ms known)
