use Rattle.std.proofs.Common.{[], ◌∷◌, length, ap}
use Rattle.value_match.proofs.OrderLaws.{tells_as}
use Rattle.value_match.proofs.leaf_order.order_of_bits.Goals as goal

pub returns : goal.returns
returns c =
    let xs = c.args.octets.now in
    let ys = c.args.others.now in
    c.order_then-2.ensures (length xs ∷ []) (length ys ∷ []) (c.args.unused ∷ xs) (c.args.other ∷ ys)
    (tells_as c.order_of_lengths.result (length c.as_slice.result.now) (length xs) (length c.as_slice-2.result.now)
    (length ys) (ap length c.as_slice.ensures) (ap length c.as_slice-2.ensures) c.order_of_lengths.ensures)
    (c.order_then.ensures (c.args.unused ∷ []) (c.args.other ∷ []) xs ys c.order_of_numbers.ensures
    c.order_of_raw.ensures)
