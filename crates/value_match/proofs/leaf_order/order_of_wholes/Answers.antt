use Rattle.std.proofs.Common.{[], ◌∷◌, ap, ◌∙◌}
use Rattle.std.proofs.Math.Facts.{to_z-of_z}
use Rattle.term_values.specs.Octets.{count_signed}
use Rattle.value_match.specs.LeafKeys.{magnitude, whole_place}
use Rattle.value_match.proofs.OrderLaws.{tells_as}
use Rattle.value_match.proofs.leaf_order.order_of_wholes.Goals as goal

pub returns : goal.returns
returns c =
    let n = c.args.number in
    let m = c.args.other in
    let same = to_z-of_z c.ranges.number in
    let other_same = to_z-of_z c.ranges.other in
    c.order_then.ensures (count_signed (magnitude n) ∷ []) (count_signed (magnitude m) ∷ []) (whole_place n ∷ [])
    (whole_place m ∷ [])
    (tells_as c.order_of_numbers.result c.signed_octets-size.result (count_signed (magnitude n))
    c.signed_octets-other_size.result (count_signed (magnitude m))
    (c.signed_octets-size.ensures ∙ ap count_signed (c.magnitude.ensures ∙ ap magnitude same))
    (c.signed_octets-other_size.ensures ∙ ap count_signed (c.magnitude-2.ensures ∙ ap magnitude other_same))
    c.order_of_numbers.ensures)
    (tells_as c.order_of_numbers-2.result c.whole_place.result (whole_place n) c.whole_place-2.result (whole_place m)
    (c.whole_place.ensures ∙ ap whole_place same) (c.whole_place-2.ensures ∙ ap whole_place other_same)
    c.order_of_numbers-2.ensures)
