use Rattle.std.proofs.Common.{◌≡◌, ◌<◌, arith}
use Rattle.value_match.specs.declared.told.MemberOrder.TheVariants.{Before, Alike, After}
use Rattle.value_match.proofs.ArcLaws.{places_before, places_same, places_end}
use Rattle.value_match.proofs.arc_order.order_of_arcs.Goals as goal

pub returns-then-place-other : goal.returns-then-place-other
returns-then-place-other c =
    let less : c.arc_place-place.result < c.arc_place-other.result = omega arith in
    c.loop-i.invariant Before (places_before c.loop-i.i c.args.arcs.now c.args.others.now c.arc_place-place.result
    c.arc_place-other.result (omega arith) (omega arith) c.arc_place-place.ensures.exact
    c.arc_place-other.ensures.exact less)

pub returns-then-other-place : goal.returns-then-other-place
returns-then-other-place c =
    let less : c.arc_place-other.result < c.arc_place-place.result = omega arith in
    c.loop-i.invariant After (places_before c.loop-i.i c.args.others.now c.args.arcs.now c.arc_place-other.result
    c.arc_place-place.result (omega arith) (omega arith) c.arc_place-other.ensures.exact
    c.arc_place-place.ensures.exact less)

pub loop-i-preserved : goal.loop-i-preserved
loop-i-preserved c told t =
    let same : c.arc_place-place.result ≡ c.arc_place-other.result = omega arith in
    c.loop-i.invariant told (places_same told c.loop-i.i c.args.arcs.now c.args.others.now c.arc_place-place.result
    c.arc_place-other.result (omega arith) (omega arith) c.arc_place-place.ensures.exact
    c.arc_place-other.ensures.exact same t)

pub returns-then-arcs-others : goal.returns-then-arcs-others
returns-then-arcs-others c =
    c.loop-i.invariant Alike (places_end c.loop-i.i c.args.arcs.now c.args.others.now (omega arith) (omega arith))
