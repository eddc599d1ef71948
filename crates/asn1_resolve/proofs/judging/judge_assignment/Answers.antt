-- The assignment that the number has.
use Rattle.std.proofs.Common.{List, Some, ◌≡◌, ◌∙◌, None, slice_get, sym}
use Rattle.std.proofs.Math.Path.{subst}
use Rattle.asn1_syntax.specs.declared.module.Module.{Module}
use Rattle.asn1_names.specs.CodeMeanings.{IsAssignment}
use Rattle.asn1_names.specs.TermViews.{assignment_term, module_term, module_terms}
use Rattle.asn1_resolve.proofs.AssignmentLaws.{found_at, no_module_there}
use Rattle.asn1_resolve.proofs.judging.judge_assignment.Goals as goal

pub returns-in-None-module_at-clause-counted : goal.returns-in-None-module_at-clause-counted
returns-in-None-module_at-clause-counted c = λ m of told.
    let same = c.tables-tables.ensures ∙ c.numbers.ensures in
    absurd (no_module_there (module_terms c.args.facts.now) c.args.number c.in-Some.place
    (assignment_term c.in-Some.assignment.now)
    (subst (λ (xs : List Module). IsAssignment (module_terms xs) c.args.number c.in-Some.place
    (assignment_term c.in-Some.assignment.now)) same c.in-Some.ensures)
    (subst (λ (xs : List Module). slice_get (module_terms xs) c.in-Some.place ≡ None) same
    c.in-None-module_at.ensures))

pub returns-in-Some-module_at-clause-first : goal.returns-in-Some-module_at-clause-first
returns-in-Some-module_at-clause-first c =
    let ms = module_terms c.args.facts.now in
    let same = c.tables-tables.ensures ∙ c.numbers.ensures in
    let a = assignment_term c.in-Some.assignment.now in
    let is : IsAssignment ms c.args.number c.in-Some.place a =
    subst (λ (xs : List Module). IsAssignment (module_terms xs) c.args.number c.in-Some.place a) same
    c.in-Some.ensures in
    let there = subst (λ (xs : List Module). slice_get (module_terms xs) c.in-Some.place ≡
    Some (module_term c.in-Some-module_at.text.now)) same c.in-Some-module_at.ensures in
    found_at ms c.home_of-home.result.document c.args.number c.in-Some.place a
    (module_term c.in-Some-module_at.text.now) c.judge_assigned.result is there (sym c.home_of-home.ensures.document)
    (c.judge_assigned.ensures.first
    (subst (λ k. IsAssignment ms c.args.number k a) (sym c.home_of-home.ensures.place) is) is.numbered is.at)
