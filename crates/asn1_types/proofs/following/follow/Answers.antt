-- The way by names.
use Rattle.std.proofs.Common.{◌≡◌, ap, arith, ◌∙◌}
use Rattle.asn1_names.specs.AssignmentNumbers.{assignment_count}
use Rattle.asn1_names.specs.TermViews.{module_terms, type_term}
use Rattle.asn1_types.proofs.FollowLaws.{way_begins, way_ends, way_goes_on, way_to_standard, way_to_type}
use Rattle.asn1_types.proofs.following.follow.Goals as goal

pub loop-step-init : goal.loop-step-init
loop-step-init c = way_begins (module_terms c.args.numbers.now) c.args.home (type_term c.args.of.now)
    c.new-passed.result.items c.new-passed.ensures.items

pub returns-in-Standard : goal.returns-in-Standard
returns-in-Standard c = λ document sound stands.
    way_to_standard (module_terms c.args.numbers.now) c.args.home (type_term c.args.of.now) c.loop-step.passed.items
    c.loop-step._step c.loop-step.at c.loop-step.left c.in-Standard.standard _ c.loop-step.invariant
    c.in-Standard.ensures c.in_ok-push-in-Standard.ensures.items

pub returns-in-Nothing : goal.returns-in-Nothing
returns-in-Nothing c =
    way_to_type (module_terms c.args.numbers.now) c.args.home (type_term c.args.of.now) c.loop-step._step _
    c.loop-step.invariant c.in-Nothing.ensures

pub loop-step-preserved : goal.loop-step-preserved
loop-step-preserved c =
    way_goes_on (module_terms c.args.numbers.now) c.args.home (type_term c.args.of.now) c.loop-step.passed.items
    c.push.new.self.items c.loop-step._step c.loop-step.at c.in-Type.further c.loop-step.left
    (type_term c.in-Type.named.now) c.loop-step.invariant c.in-Type.ensures c.in_ok-push-in-Type.ensures.items

pub returns : goal.returns
returns c = λ document sound stands.
    let counted : c.count.result ≡ assignment_count (module_terms c.args.numbers.now) =
    c.count.ensures ∙ ap (λ ms. assignment_count (module_terms ms)) c.tables.ensures in
    absurd (way_ends (module_terms c.args.numbers.now) c.args.home (type_term c.args.of.now) c.loop-step.passed.items
    c.loop-step._step c.loop-step.at (type_term c.loop-step.left.now) sound c.loop-step.invariant
    (omega (arith, counted, c.loop-step-test.false)))
