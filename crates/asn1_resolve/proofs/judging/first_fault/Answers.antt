-- The first of the faults of imports and of assignments.
use Rattle.std.proofs.Common.{List, Some, length, refl, ◌∙◌}
use Rattle.std.proofs.Math.Path.{subst}
use Rattle.asn1_syntax.specs.declared.module.Module.{Module}
use Rattle.asn1_names.specs.AssignmentNumbers.{assignment_count}
use Rattle.asn1_names.specs.NotedFaults.{kind_of}
use Rattle.asn1_names.specs.TermViews.{module_terms}
use Rattle.asn1_resolve.specs.AllFaults.{AllFaults, Below, FaultsAt, ImportFaultsAt}
use Rattle.asn1_resolve.specs.FaultSets.{IsFirstOf}
use Rattle.asn1_resolve.proofs.FirstFaults.{both}
use Rattle.asn1_resolve.proofs.FoundFaults.{all_found}
use Rattle.asn1_resolve.proofs.NotedFaults.{first_is, none_wrong}
use Rattle.asn1_resolve.proofs.judging.first_fault.Goals as goal

pub returns-in-Some-clause-told : goal.returns-in-Some-clause-told
returns-in-Some-clause-told c =
    let ms = module_terms c.args.facts.now in
    let imports = subst (λ (xs : List Module). IsFirstOf (Below (ImportFaultsAt (module_terms xs))
    (length (module_terms xs))) c.judge_all_imports-imports.result) (c.tables.ensures ∙ c.numbers.ensures)
    c.judge_all_imports-imports.ensures in
    let whole : IsFirstOf (AllFaults ms) (Some c.in-Some.fault) =
    subst (λ first. IsFirstOf (AllFaults ms) first) c.in-Some.is
    (both (Below (ImportFaultsAt ms) (length ms)) (Below (FaultsAt ms) (assignment_count ms)) c.earlier.ensures imports
    c.in_ok-assignments.ensures.first) in
    let fault = c.in-Some.fault in (
      c.refusal_of.ensures.there ms (all_found ms (kind_of fault.kind) fault.document fault.token
          (whole.there fault refl)),
      λ order. c.refusal_of.ensures.first ms (first_is ms fault c.in_ok-assignments.ensures.counted whole order),
    )

pub returns-in-None-clause-told : goal.returns-in-None-clause-told
returns-in-None-clause-told c =
    let ms = module_terms c.args.facts.now in
    let imports = subst (λ (xs : List Module). IsFirstOf (Below (ImportFaultsAt (module_terms xs))
    (length (module_terms xs))) c.judge_all_imports-imports.result) (c.tables.ensures ∙ c.numbers.ensures)
    c.judge_all_imports-imports.ensures in
    none_wrong ms c.in_ok-assignments.ensures.counted (subst (λ first. IsFirstOf (AllFaults ms) first) c.in-None.is
    (both (Below (ImportFaultsAt ms) (length ms)) (Below (FaultsAt ms) (assignment_count ms)) c.earlier.ensures imports
    c.in_ok-assignments.ensures.first))
