use Rattle.std.proofs.Common.{◌≡◌, length, ap, arith}
use Rattle.value_match.proofs.OrderLaws.{before_first, tells_behind, tells_lists}
use Rattle.value_match.proofs.leaf_order.order_of_octets.Goals as goal

pub returns-then-first-second : goal.returns-then-first-second
returns-then-first-second c =
    before_first (length c.args.octets.now) (length c.args.others.now) c.args.octets.now c.args.others.now
    (omega (arith, ap length c.as_slice-first.ensures, ap length c.as_slice-second.ensures))

pub returns-then-second-first : goal.returns-then-second-first
returns-then-second-first c =
    before_first (length c.args.others.now) (length c.args.octets.now) c.args.others.now c.args.octets.now
    (omega (arith, ap length c.as_slice-first.ensures, ap length c.as_slice-second.ensures))

pub returns-else-second-first : goal.returns-else-second-first
returns-else-second-first c =
    let same : length c.args.octets.now ≡ length c.args.others.now =
    omega (arith, ap length c.as_slice-first.ensures, ap length c.as_slice-second.ensures) in
    tells_behind c.order_of_fronts.result (length c.args.octets.now) (length c.args.others.now) c.args.octets.now
    c.args.others.now same
    (tells_lists c.order_of_fronts.result c.as_slice-first.result.now c.args.octets.now c.as_slice-second.result.now
    c.args.others.now c.as_slice-first.ensures c.as_slice-second.ensures c.order_of_fronts.ensures)
