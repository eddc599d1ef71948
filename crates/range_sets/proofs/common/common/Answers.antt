use Rattle.std.proofs.Common.{pos, ◌≤ℤ◌, get_or, w64, arith, rules}
use Rattle.std.proofs.lemmas.Int.{ints}
use mir.Val.{SFits}
use Rattle.range_sets.proofs.RisingLaws.{rise_told, told_rise}
use Rattle.range_sets.proofs.CommonLaws.{ends_behind, ends_front, next_left_at, next_right_at}
use Rattle.range_sets.proofs.common.common.Goals as goal
use Rattle.range_sets.proofs.common.common.Goals.{then-loop-i-test+else-j-ys, else-loop-i-test}

pub loop-i-preserved-then-x-y : goal.loop-i-preserved-then-x-y
loop-i-preserved-then-x-y c = λ h k.
    let x = get_or c.args.xs.now c.loop-i.i (pos 0, pos 0) in
    let y = get_or c.args.ys.now c.loop-i.j (pos 0, pos 0) in
    let a : SFits w64 x.1 = search rules in
    let b : SFits w64 y.1 = search rules in
    let order : x.1 ≤ℤ y.1 = grind (arith, ints) in
    next_left_at _ _ c.loop-i.both.items _ c.loop-i.i c.loop-i.j (pos 0, pos 0) (omega arith) (omega arith)
    c.in_ok-push_common.ensures order (c.loop-i.invariant h k)

pub loop-i-preserved : goal.loop-i-preserved
loop-i-preserved c = λ h k.
    let x = get_or c.args.xs.now c.loop-i.i (pos 0, pos 0) in
    let y = get_or c.args.ys.now c.loop-i.j (pos 0, pos 0) in
    let a : SFits w64 x.1 = search rules in
    let b : SFits w64 y.1 = search rules in
    let order : y.1 ≤ℤ x.1 = grind (arith, ints) in
    next_right_at _ _ c.loop-i.both.items _ c.loop-i.i c.loop-i.j (pos 0, pos 0) (omega arith) (omega arith)
    c.in_ok-push_common.ensures order (c.loop-i.invariant h k)

pub returns-clause-rising : goal.returns-clause-rising
returns-clause-rising c = λ h k.
    rise_told _ (c.loop-i.invariant (told_rise _ h) (told_rise _ k)).rises

pub returns-clause-same : goal.returns-clause-same
returns-clause-same c = λ h k.
    let gone = c.loop-i.invariant (told_rise _ h) (told_rise _ k) in
    elim c.loop-i-test.branch [
      | then-loop-i-test+else-j-ys w ↦ (ends_behind _ _ _ c.loop-i.i c.loop-i.j (omega arith) gone).same
      | else-loop-i-test w ↦ (ends_front _ _ _ c.loop-i.i c.loop-i.j (omega arith) gone).same
    ]
