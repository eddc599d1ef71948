-- The assignment with the number, and where none has it.
use Rattle.std.proofs.Common.{◌≡◌, None, sym}
use Rattle.std.proofs.Math.Path.{subst}
use Rattle.asn1_names.specs.AssignmentNumbers.{numbered_at}
use Rattle.asn1_names.specs.CodeMeanings.{IsAssignment}
use Rattle.asn1_names.specs.TermViews.{assignment_term, module_terms}
use Rattle.asn1_numbers.proofs.TargetLaws.{ok_by}
use Rattle.gdmo_first_names.proofs.NameSteps.{absent_told}
use Rattle.gdmo_first_names.proofs.assigned_names.keep_assigned.Goals as goal

pub returns-in-Some : goal.returns-in-Some
returns-in-Some c = ok_by c.keep_name.result (λ kept parts has are.
    kept parts has (assignment_term c.in-Some.assignment.now)
    (subst (λ ms. IsAssignment (module_terms ms) c.args.number c.in-Some.home
    (assignment_term c.in-Some.assignment.now)) c.tables.ensures c.in-Some.ensures) (sym c.as_slice-name.ensures) are)
    c.keep_name.ensures

pub returns-in-None : goal.returns-in-None
returns-in-None c = λ parts has are. absent_told parts c.args.numbers.now c.args.number c.args.assigned.now has
    (subst (λ ms. numbered_at (module_terms ms) c.args.number ≡ None) c.tables.ensures c.in-None.ensures) are
