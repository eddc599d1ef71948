-- A value that is assigned.
use Rattle.std.proofs.Common.{ap}
use Rattle.std.proofs.Math.Path.{subst}
use Rattle.asn1_names.specs.CodeMeanings.{IsAssignment}
use Rattle.asn1_names.specs.TermViews.{assigned_term, assignment_term, type_term, value_number}
use Rattle.asn1_values_syntax.specs.ValueTrees.{value_tree}
use Rattle.gdmo_types.proofs.FieldLaws.{on_ok_by}
use Rattle.begun_values.proofs.ModuleLaws.{assigned_value, number_marked}
use Rattle.begun_values.proofs.module_values.mark_number.Goals as goal

pub returns-in-OfValue-clause-marked : goal.returns-in-OfValue-clause-marked
returns-in-OfValue-clause-marked c = on_ok_by c.mark_value.result (λ marked ms are last.
    let of = type_term c.in-OfValue.of in
    let text = value_tree c.in-OfValue.value in
    let assignment = assignment_term c.in-Some.assignment.now in
    let x = assigned_value ms c.args.number c.in-Some.home assignment of (value_number c.in-OfValue.value) text
    (subst (λ z. IsAssignment z c.args.number c.in-Some.home assignment) are.of_tables c.in-Some.ensures)
    (ap assigned_term c.in-OfValue.is) in
    number_marked ms c.args.number c.in-Some.home of text x (marked ms are last x)) c.mark_value.ensures.marked
