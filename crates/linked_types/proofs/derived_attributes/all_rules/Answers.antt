-- One more attribute, and all of them.
use Rattle.std.proofs.Common.{◌<◌, ◌∙◌, ap, arith, get_or, length, map, sym}
use Rattle.std.proofs.Math.Path.{subst}
use Rattle.link_graphs.specs.Cycles.{IsBehindTargets}
use Rattle.linked_parts.specs.declared.linked.LinkedAttribute.{LinkedAttribute}
use Rattle.class_faults.specs.CyclicFaults.{bases_of_each}
use Rattle.linked_types.specs.RuleSteps.{stated_rules, stepped_rules}
use Rattle.linked_types.proofs.RuleLaws.{all_first, all_step, all_whole}
use Rattle.linked_types.proofs.TableLaws.{got_any}
use Rattle.linked_types.proofs.derived_attributes.all_rules.Goals as goal

pub loop-place-init : goal.loop-place-init
loop-place-init c = λ linked same behind. all_first linked c.args.order.now c.in_ok-rules.rules.items
    (c.in_ok-rules.ensures ∙ ap (map (λ (x : LinkedAttribute). stated_rules x.rules.items)) (sym same))

pub loop-place-preserved : goal.loop-place-preserved
loop-place-preserved c = λ linked same behind.
    let order = c.args.order.now in
    let i = c.loop-place.place-index in
    let within : i < length order = omega (arith, c.loop-place-test.true) in
    let place = get_or order i 0 in
    all_step linked order i place c.loop-place.rules.items c.join_base.new.rules.items
    (subst (λ xs. IsBehindTargets (bases_of_each xs) order) (sym same) behind) (got_any order i 0 within)
    (c.join_base.ensures ∙ ap (λ xs. stepped_rules xs c.loop-place.rules.items place) (sym same))
    (c.loop-place.invariant linked same behind)

pub returns : goal.returns
returns c = λ linked same behind. all_whole linked c.args.order.now c.loop-place.place-index c.loop-place.rules.items
    (subst (λ xs. IsBehindTargets (bases_of_each xs) c.args.order.now) (sym same) behind) c.loop-place-test.false
    (c.loop-place.invariant linked same behind)
