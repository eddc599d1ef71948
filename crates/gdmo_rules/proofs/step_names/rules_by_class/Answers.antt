-- One more rule, and all of them.
use Rattle.std.proofs.Common.{◌<◌, [], ap, arith, length, ◌∙◌}
use Rattle.std.proofs.Math.Path.{subst}
use Rattle.std.proofs.lemmas.List.{length-replicate}
use Rattle.link_graphs.specs.Leading.{target_lists}
use Rattle.link_graphs.specs.Marking.{IsTarget}
use Rattle.gdmo_types.proofs.StepLaws.{got_at}
use Rattle.class_graphs.proofs.NamedLaws.{none_linked}
use Rattle.gdmo_rules.proofs.StepNameLaws.{class_all, class_begun, class_step}
use Rattle.gdmo_rules.proofs.step_names.rules_by_class.Goals as goal

pub loop-place-init : goal.loop-place-init
loop-place-init c = (
  ap length c.in_ok-graph.ensures ∙ length-replicate c.args.count [],
  class_begun c.args.targets.now (target_lists c.in_ok-graph.graph) (λ class place has.
      none_linked c.args.count class place (subst (λ xs. IsTarget xs class place) c.in_ok-graph.ensures has)),
)

pub loop-place-preserved : goal.loop-place-preserved
loop-place-preserved c =
    let targets = c.args.targets.now in
    let k = c.loop-place.place in
    let own = c.index-targets-place.result in
    let within : k < length targets = omega (arith, c.loop-place-test.true) in
    let gains = c.in_ok-add_links.ensures in (
      gains.size ∙ c.loop-place.invariant.0,
      class_step targets (target_lists c.loop-place.graph) (target_lists c.add_links.new.graph) k own
          (got_at targets k own within c.index-targets-place.is) c.loop-place.invariant.1 gains,
    )

pub returns-clause-size : goal.returns-clause-size
returns-clause-size c = c.loop-place.invariant.0

pub returns-clause-told : goal.returns-clause-told
returns-clause-told c = class_all c.args.targets.now (target_lists c.loop-place.graph) c.loop-place.place
    (omega (arith, c.loop-place-test.false)) c.loop-place.invariant.1
