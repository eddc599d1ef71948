-- A type has no value; its DEFAULTs are noted.
use Rattle.std.proofs.Common.{◌≡◌, rules}
use Rattle.std.proofs.Math.Path.{subst}
use Rattle.asn1_syntax.specs.declared.module.Assigned.TheVariants.{OfType}
use Rattle.asn1_names.specs.ModuleTerms.AssignedTerm.{AssignsType}
use Rattle.asn1_names.specs.TermViews.{assigned_term, type_term}
use Rattle.filled_syntaxes.specs.JudgedAssignments.{IsJudging}
use Rattle.filled_syntaxes.specs.LinkedMeanings.{linked_arcs}
use Rattle.filled_syntaxes.proofs.JudgedLaws.{type_noted}
use Rattle.filled_syntaxes.proofs.named_things.NamedThings.judge.Goals as goal

pub returns-in_ok-judge_type-in-OfType-clause-noted : goal.returns-in_ok-judge_type-in-OfType-clause-noted
returns-in_ok-judge_type-in-OfType-clause-noted c = λ ms linked x j is_of.
    let of = type_term c.in-OfType.of in
    let is : c.args.assignment.now.assigned ≡ OfType c.in-OfType.of = search rules in
    let judging : IsJudging ms linked c.args.self.now c.args.number x (AssignsType of) =
    subst (λ a. IsJudging ms linked c.args.self.now c.args.number x (assigned_term a)) is j in
    type_noted ms (linked_arcs linked) x of judging.assigns
    (c.in_ok-judge_type-in-OfType.ensures ms linked x judging)
