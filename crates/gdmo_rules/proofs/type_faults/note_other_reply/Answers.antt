-- The two types are other ones, or they aren't.
use Rattle.gdmo_names.specs.PartTerms.{body_of}
use Rattle.gdmo_names.specs.RuleWords.{information_of, reply_of}
use Rattle.gdmo_types.proofs.ComparedLaws.{other_types}
use Rattle.gdmo_rules.proofs.TypeFaultLaws.{by_way, noted_where}
use Rattle.gdmo_rules.proofs.type_faults.note_other_reply.Goals as goal

pub returns : goal.returns
returns c = λ parts row action once told.
    noted_where c.are_other.result c.args.document c.args.word.now.at
    (by_way c.are_other.ensures (other_types parts row (information_of (body_of action.template))
    (reply_of (body_of action.template)) c.args.types.information c.args.types.reply once told.information
    told.reply)) c.note_where.ensures
