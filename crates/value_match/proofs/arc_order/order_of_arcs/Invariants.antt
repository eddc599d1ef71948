use Rattle.std.proofs.Common.{drop, map}
use Rattle.value_match.specs.LeafKeys.{arc_place}
use Rattle.value_match.specs.MemberOrder.{TellsOrder}
use Rattle.value_match.specs.declared.told.MemberOrder.{MemberOrder}
use Rattle.value_match.proofs.arc_order.order_of_arcs.Given as goal

abbrev pub invariant-loop-i : goal.invariant-loop-i
invariant-loop-i l =
    (told : MemberOrder) → TellsOrder told (map arc_place (drop l.i l.arcs)) (map arc_place (drop l.i l.others))
    → TellsOrder told (map arc_place l.arcs) (map arc_place l.others)
