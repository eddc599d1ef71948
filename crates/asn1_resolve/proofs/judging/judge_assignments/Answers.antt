-- One more assignment.
use Rattle.std.proofs.Common.{List, ap, arith, sym, ◌∙◌, ◌≡◌, ◌<◌}
use Rattle.std.proofs.Math.Path.{subst}
use Rattle.asn1_syntax.specs.declared.module.Module.{Module}
use Rattle.asn1_names.specs.AssignmentNumbers.{assignment_count}
use Rattle.asn1_names.specs.TermViews.{module_terms}
use Rattle.asn1_resolve.specs.AllFaults.{Below, FaultsAt}
use Rattle.asn1_resolve.specs.FaultSets.{IsFirstOf}
use Rattle.asn1_resolve.proofs.PlaceLaws.{numbered_within}
use Rattle.asn1_resolve.proofs.AssignmentLaws.{below_more, below_none, counted_more}
use Rattle.asn1_resolve.proofs.judging.judge_assignments.Goals as goal

pub loop-number-init : goal.loop-number-init
loop-number-init c =
    (below_none (FaultsAt (module_terms c.args.facts.now)), λ k within. absurd (omega (arith, within)))

pub loop-number-preserved : goal.loop-number-preserved
loop-number-preserved c = (
  below_more (FaultsAt (module_terms c.args.facts.now)) c.loop-number.number c.earlier-first.ensures
      c.loop-number.invariant.0 c.in_ok-own.ensures.first,
  counted_more (module_terms c.args.facts.now) c.loop-number.number c.loop-number.invariant.1
      c.in_ok-own.ensures.counted,
)

pub returns-clause-first : goal.returns-clause-first
returns-clause-first c =
    let past = c.loop-number-test.false in
    let most = c.loop-number.auto.number-end in
    let end : c.loop-number.number ≡ c.count-number-end.result = omega (arith, past, most) in
    let all = end ∙ c.count-number-end.ensures ∙
    ap (λ (xs : List Module). assignment_count (module_terms xs)) (c.tables.ensures ∙ c.numbers.ensures) in
    subst (λ n. IsFirstOf (Below (FaultsAt (module_terms c.args.facts.now)) n) c.loop-number.first) all
    c.loop-number.invariant.0

pub returns-clause-counted : goal.returns-clause-counted
returns-clause-counted c = λ number m of is.
    let past = c.loop-number-test.false in
    let most = c.loop-number.auto.number-end in
    let end : c.loop-number.number ≡ c.count-number-end.result = omega (arith, past, most) in
    let all = end ∙ c.count-number-end.ensures ∙
    ap (λ (xs : List Module). assignment_count (module_terms xs)) (c.tables.ensures ∙ c.numbers.ensures) in
    let within = numbered_within (module_terms c.args.facts.now) number is.numbered is.at in
    c.loop-number.invariant.1 number (subst (λ n. number < n) (sym all) within) m of is
