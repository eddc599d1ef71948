-- One more template, and all of them.
use Rattle.std.proofs.Common.{arith}
use Rattle.gdmo_targets.proofs.TargetLaws.{first_none, first_step, first_end, mentions_of}
use Rattle.gdmo_targets.proofs.labels.targets_of.Goals as goal

pub loop-found-init : goal.loop-found-init
loop-found-init c = λ parts are tells.
    first_none parts c.args.templates.now c.new-targets.result.items c.args.faults.now.first
    c.new-targets.ensures.items

pub loop-found-preserved : goal.loop-found-preserved
loop-found-preserved c = λ parts are tells.
    let own = c.in_ok-own_targets.ensures parts are.all tells (mentions_of c.args.templates.now c.args.templates.now
    c.loop-found.found-index c.found-item.result c.loop-found-test.true c.found-item.is are.mentions) in
    first_step parts c.args.templates.now c.args.templates.now c.loop-found.found-index c.found-item.result
    c.loop-found.targets.items c.push.new.self.items c.in_ok-own_targets.field-0 c.loop-found-test.true
    c.found-item.is c.in_ok-push.ensures.items (c.loop-found.invariant parts are tells) own.0 own.1

pub returns : goal.returns
returns c = λ parts are tells.
    first_end parts c.args.templates.now c.loop-found.found-index c.loop-found.targets.items are.all
    (omega (arith, c.loop-found-test.false)) (c.loop-found.invariant parts are tells)
