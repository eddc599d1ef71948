use Rattle.std.proofs.Common.{pos, subst, sym, arith}
use Rattle.range_sets.specs.RangeSteps.{IsInOrder}
use Rattle.range_sets.proofs.RisingLaws.{rise_told, joined_more}
use Rattle.range_sets.proofs.rising.rising.Goals as goal

pub loop-pair-preserved : goal.loop-pair-preserved
loop-pair-preserved c =
    let order = subst IsInOrder (sym c.deref-pair-items.ensures.value) c.in_order-sorted.ensures.order in
    joined_more _ c.loop-pair.joined.items _ c.loop-pair.pair-index (pos 0, pos 0)
    order (omega arith) c.in_ok-join.ensures c.loop-pair.invariant

pub returns-clause-rising : goal.returns-clause-rising
returns-clause-rising c = rise_told _ c.loop-pair.invariant.rises
