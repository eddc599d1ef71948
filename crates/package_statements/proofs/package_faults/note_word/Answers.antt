-- The word is noted where the syntax is no set.
use Rattle.class_faults.specs.FirstClassFault.ClassFault.{SetMissing}
use Rattle.package_statements.proofs.FaultLaws.{noted_for, word_noted}
use Rattle.package_statements.proofs.package_faults.note_word.Goals as goal

pub returns-in-Some : goal.returns-in-Some
returns-in-Some c =
    word_noted c.args.syntax.now c.args.document c.args.word.now c.in-Some.token c.in-Some.is
    (noted_for SetMissing c.args.document c.in-Some.token.at c.is_no_set-is_wrong.ensures c.note_where.ensures)
