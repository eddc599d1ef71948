-- The nodes, the cycle and the type together.
use Rattle.std.proofs.Common.{◌∙◌, ap, sym}
use Rattle.asn1_names.specs.AssignmentNumbers.{Numbered}
use Rattle.asn1_names.specs.CodeMeanings.{IsTypeOf}
use Rattle.asn1_names.specs.ModuleTerms.{AssignmentTerm}
use Rattle.asn1_names.specs.Occurrences.{type_assigned}
use Rattle.asn1_names.specs.TermViews.{assignment_term, module_terms, type_term}
use Rattle.asn1_names.proofs.TableAnswers.{some_is}
use Rattle.std.specs.Prelude.{IsTrue}
use Rattle.asn1_resolve.specs.TypeFaults.{IsFew}
use Rattle.asn1_resolve.proofs.AssignmentLaws.{assigned_judged}
use Rattle.asn1_resolve.proofs.judging.judge_assigned.Goals as goal

pub returns-clause-first : goal.returns-clause-first
returns-clause-first c = λ is x at.
    let ms = module_terms c.args.facts.now in
    let m = c.args.home.module in
    let of = type_term c.type_of-of.result.now in
    let same = some_is is.numbered x (sym is.at ∙ at) in
    let type_of : IsTypeOf ms c.args.number m of = record {
      numbered = is.numbered;
      at = is.at;
      module_is = is.module_is;
      is = ap (λ (b : AssignmentTerm). type_assigned b.assigned) is.is ∙ sym c.type_of-of.ensures;
    } in
    let small : IsTrue c.is_few-few.result → IsFew ms m of = λ told. c.is_few-few.ensures.few told m of type_of in
    assigned_judged ms c.args.home.document c.args.number x c.is_few-few.result c.judge_nodes-nodes.result
    c.judge_cycle-cycle.result c.earlier.result c.in_ok-within.within c.earlier-2.result m
    (assignment_term c.args.assignment.now) of at c.earlier.ensures c.earlier-2.ensures
    (ap (λ (y : Numbered). y.in_module) (sym same) ∙ is.module_is)
    (ap (λ (y : Numbered). y.assignment) (sym same) ∙ is.is) c.type_of-of.ensures small
    (λ told. c.is_few-few.ensures.large told m of type_of) c.judge_nodes-nodes.ensures c.judge_cycle-cycle.ensures
    (c.in_ok-within.ensures small)
