-- What is told of the identifier, and noted.
use Rattle.gdmo_names.specs.MemberViews.{identifier_term}
use Rattle.gdmo_identifiers.proofs.identifiers.judge_known.Goals as goal

pub returns : goal.returns
returns c = λ parts known arcs.
    let x = identifier_term c.args.identifier.now in
    let told = c.in_ok-own.ensures parts x arcs in
    (told, c.note_no_arcs.ensures parts x told known)
