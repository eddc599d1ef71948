-- The attribute is INTEGER, or it isn't.
use Rattle.gdmo_rules.proofs.TypeFaultLaws.{noted_where}
use Rattle.gdmo_rules.proofs.type_faults.note_added.Goals as goal

pub returns-clause-noted : goal.returns-clause-noted
returns-clause-noted c = λ parts x is are at kind.
    noted_where c.is_no_integer-is_wrong.result c.args.naming.document c.args.naming.label.now.at
    (c.is_no_integer-is_wrong.ensures parts x kind (c.in_ok-own.ensures.told parts x is are at)) c.note_where.ensures
