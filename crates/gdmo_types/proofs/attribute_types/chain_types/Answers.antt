-- The end of a chain more.
use Rattle.std.proofs.Common.{◌<◌, arith, length}
use Rattle.std.proofs.Math.Path.{subst}
use Rattle.std.proofs.lemmas.Option.{get_or_from_slice_get}
use Rattle.gdmo_types.specs.TypeChains.{TellsChain}
use Rattle.gdmo_types.proofs.StepLaws.{each_step}
use Rattle.gdmo_types.proofs.attribute_types.chain_types.Goals as goal

pub loop-end-preserved : goal.loop-end-preserved
loop-end-preserved c = λ parts same.
    let within : c.loop-end.end-index < length c.args.ends.now = omega (arith, c.loop-end-test.true) in
    each_step (TellsChain parts c.args.templates.now) c.args.ends.now c.loop-end.answers.items c.push.new.self.items
    c.loop-end.end-index c.chain_type.result within
    (λ end at. subst (λ one. TellsChain parts c.args.templates.now one c.chain_type.result)
    (get_or_from_slice_get c.args.ends.now c.loop-end.end-index end _ at) (c.chain_type.ensures parts same))
    (c.loop-end.invariant parts same) c.in_ok-push.ensures.items
