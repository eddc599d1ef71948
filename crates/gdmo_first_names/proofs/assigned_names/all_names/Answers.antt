-- One more assignment, and all of them.
use Rattle.std.proofs.Common.{arith}
use Rattle.gdmo_first_names.proofs.NameSteps.{all_told, begun_told}
use Rattle.gdmo_first_names.proofs.assigned_names.all_names.Goals as goal

pub loop-number-init : goal.loop-number-init
loop-number-init c = λ parts has.
    begun_told parts _ c.new-definers.ensures.items c.new-names.ensures.empty c.new-defined.ensures.empty

pub loop-number-preserved : goal.loop-number-preserved
loop-number-preserved c = λ parts has. c.in_ok-keep_assigned.ensures parts has (c.loop-number.invariant parts has)

pub returns : goal.returns
returns c = λ parts has. all_told parts c.args.numbers.now c.loop-number.number c.loop-number.assigned has
    (let t = c.loop-number-test.false in let u = c.loop-number.auto.number-end in
    let n = c.count_of-number-end.ensures in omega (arith, t, u, n)) (c.loop-number.invariant parts has)
