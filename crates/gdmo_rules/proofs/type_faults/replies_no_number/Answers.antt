-- The type of the reply isn't there, none is stated, or it has a number.
use Rattle.std.proofs.Math.Path.{subst}
use Rattle.gdmo_names.specs.PartTerms.{body_of}
use Rattle.gdmo_names.specs.RuleWords.{reply_of}
use Rattle.gdmo_types.specs.ComparedTypes.{TellsStatedType}
use Rattle.gdmo_rules.proofs.TypeFaultLaws.{number_replied}
use Rattle.gdmo_rules.proofs.type_faults.replies_no_number.Goals as goal

pub returns-in_ok-names-in-Number-clause-told : goal.returns-in_ok-names-in-Number-clause-told
returns-in_ok-names-in-Number-clause-told c = λ parts action are told.
    let lists = c.args.numbers.now.lists in
    number_replied parts lists action c.args.word.now c.as_slice.result.now c.in-Number.number c.in_ok-names-in-Number.names
    c.as_slice.ensures
    (subst (TellsStatedType parts lists (reply_of (body_of action.template))) c.in-Number.is told)
    c.in_ok-names-in-Number.ensures.told
