-- The arcs of a value, where it has some.
use Rattle.std.proofs.Common.{subst}
use Rattle.asn1_numbers.proofs.LeadingLaws.{if_ok_by}
use Rattle.identifier_arcs.specs.KnownArcs.{TellsSaid}
use Rattle.gdmo_names.specs.PartTerms.{arcs_at}
use Rattle.first_name_arcs.proofs.ToldLaws.{few_none, few_told}
use Rattle.first_name_arcs.proofs.linked_first_names.few_arcs.Goals as goal

pub returns-in-Some : goal.returns-in-Some
returns-in-Some c = if_ok_by c.numbers.result (λ told is parts modules has known whole x at.
    few_told parts modules c.args.known.now.numbers.lists c.args.number x c.in-Some.list has at
    (subst (TellsSaid parts c.args.known.now.numbers.lists (arcs_at parts x.in_module x.place)) c.in-Some.is
    (c.of_value.ensures parts known whole x at)) told is) c.numbers.ensures

pub returns-in-None : goal.returns-in-None
returns-in-None c = λ parts modules has known whole x at.
    few_none parts c.args.known.now.numbers.lists x
    (subst (TellsSaid parts c.args.known.now.numbers.lists (arcs_at parts x.in_module x.place)) c.in-None.is
    (c.of_value.ensures parts known whole x at))
