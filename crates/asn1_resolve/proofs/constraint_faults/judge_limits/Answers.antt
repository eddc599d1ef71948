-- One more constraint.
use Rattle.std.proofs.Math.Path.{subst}
use Rattle.asn1_names.specs.ModuleTerms.{TypeTerm}
use Rattle.asn1_names.specs.NumbersFound.{StatesNumbers}
use Rattle.asn1_names.specs.TermViews.{limit_term, module_terms, type_term}
use Rattle.asn1_resolve.specs.TypeFaults.{LimitFaults}
use Rattle.asn1_resolve.proofs.ConstraintLaws.{tells_names}
use Rattle.asn1_resolve.proofs.FirstFaults.{any_none, view_end, view_step}
use Rattle.asn1_resolve.proofs.constraint_faults.judge_limits.Goals as goal

pub loop-constraint-init : goal.loop-constraint-init
loop-constraint-init c =
    any_none (LimitFaults (module_terms c.args.numbers.now) c.args.home.module (type_term c.args.of.now))

pub loop-constraint-preserved : goal.loop-constraint-preserved
loop-constraint-preserved c =
    let ms = module_terms c.args.numbers.now in
    let states = subst (λ (t : TypeTerm). StatesNumbers c.in_ok-own.own t) c.beneath_tags.ensures c.in_ok-own.ensures in
    view_step (LimitFaults ms c.args.home.module (type_term c.args.of.now)) limit_term c.args.constraints.now
    c.loop-constraint.constraint-index c.constraint-item.result c.loop-constraint-test.true c.constraint-item.is
    c.earlier-first.ensures c.loop-constraint.invariant
    (c.judge_limit.ensures (tells_names ms c.args.home.module (type_term c.args.of.now) c.base-base.result
    c.in_ok-own.own c.base-base.ensures.found c.base-base.ensures.own states) c.base-base.ensures.found)

pub returns : goal.returns
returns c = view_end (LimitFaults (module_terms c.args.numbers.now) c.args.home.module (type_term c.args.of.now))
    limit_term c.args.constraints.now c.loop-constraint.constraint-index c.loop-constraint-test.false
    c.loop-constraint.invariant
