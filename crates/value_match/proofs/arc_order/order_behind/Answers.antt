use Rattle.std.proofs.Common.{◌≡◌, ◌+◌, [], ◌∷◌, map}
use Rattle.value_match.specs.LeafKeys.{arc_place, arc_size, arcs_size}
use Rattle.value_match.proofs.OrderLaws.{tells_as}
use Rattle.value_match.proofs.arc_order.order_behind.Goals as goal

pub returns : goal.returns
returns c =
    let xs = c.args.arcs.now in
    let ys = c.args.others.now in
    let n = c.args.first in
    let m = c.args.other in
    let size : c.arc_size.result + c.arcs_size.result ≡ arc_size n + arcs_size xs =
    λ i. c.arc_size.ensures.exact i + c.arcs_size.ensures.exact i in
    let other_size : c.arc_size-2.result + c.arcs_size-2.result ≡ arc_size m + arcs_size ys =
    λ i. c.arc_size-2.ensures.exact i + c.arcs_size-2.ensures.exact i in
    c.order_then-2.ensures ((arc_size n + arcs_size xs) ∷ []) ((arc_size m + arcs_size ys) ∷ [])
    (arc_place n ∷ map arc_place xs) (arc_place m ∷ map arc_place ys)
    (tells_as c.order_of_sizes.result (c.arc_size.result + c.arcs_size.result) (arc_size n + arcs_size xs)
    (c.arc_size-2.result + c.arcs_size-2.result) (arc_size m + arcs_size ys) size other_size c.order_of_sizes.ensures)
    (c.order_then.ensures (arc_place n ∷ []) (arc_place m ∷ []) (map arc_place xs) (map arc_place ys)
    (tells_as c.order_of_numbers.result c.arc_place.result (arc_place n) c.arc_place-2.result (arc_place m)
    c.arc_place.ensures.exact c.arc_place-2.ensures.exact c.order_of_numbers.ensures) c.order_of_arcs.ensures)
