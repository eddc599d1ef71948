-- The name of the assignment, or none.
use Rattle.std.proofs.Common.{refl}
use Rattle.asn1_names.specs.TermViews.{assignment_term}
use Rattle.asn1_numbers.proofs.LeadingLaws.{if_ok_by}
use Rattle.first_name_arcs.proofs.ToldLaws.{absent_name, name_told}
use Rattle.first_name_arcs.proofs.linked_first_names.name_at.Goals as goal

pub returns-in_ok-few_arcs-in-Some : goal.returns-in_ok-few_arcs-in-Some
returns-in_ok-few_arcs-in-Some c = if_ok_by c.name_with.result (λ told is parts has known whole begun.
    let own = c.in-Some.assignment.now in
    let x = begun.defines.numbered in
    name_told parts c.args.tables.now c.args.number _ (assignment_term own) own.name has c.in-Some.ensures refl begun
    _ (c.in_ok-few_arcs-in-Some.ensures parts c.args.tables.now has known whole x begun.defines.at) told is)
    c.name_with.ensures

pub returns-in-None : goal.returns-in-None
returns-in-None c = λ parts has known whole begun.
    absent_name parts c.args.tables.now c.args.number has c.in-None.ensures
