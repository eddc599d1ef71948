-- What the assignment with the number says, and where none has it.
use Rattle.std.proofs.Common.{refl}
use Rattle.asn1_names.specs.FirstNames.{found}
use Rattle.asn1_names.specs.TermViews.{assignment_term}
use Rattle.asn1_numbers.proofs.LeadingLaws.{if_ok_by}
use Rattle.identifier_arcs.proofs.KnownLaws.{value_none, value_said}
use Rattle.identifier_arcs.proofs.known_arcs.value_chain.Goals as goal

pub returns-in-Some : goal.returns-in-Some
returns-in-Some c =
    let own = c.in-Some.assignment.now in
    if_ok_by c.assigned_chain.result (λ chain tells parts has.
    value_said parts c.args.tables.now (found c.args.defined.now) c.args.number _ (assignment_term own) own.assigned
    chain has c.in-Some.ensures refl tells) c.assigned_chain.ensures

pub returns-in-None : goal.returns-in-None
returns-in-None c = λ parts has.
    value_none parts c.args.tables.now (found c.args.defined.now) c.args.number _ has c.in-None.ensures
