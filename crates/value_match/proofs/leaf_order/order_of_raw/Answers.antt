use Rattle.value_match.specs.declared.told.MemberOrder.TheVariants.{Before, After}
use Rattle.value_match.proofs.OrderLaws.{before_fronts, tells_lists}
use Rattle.value_match.proofs.leaf_order.order_of_raw.Goals as goal

pub returns-in-Before : goal.returns-in-Before
returns-in-Before c =
    let first = c.as_slice-first.result.now in
    let second = c.as_slice-second.result.now in
    tells_lists Before first c.args.octets.now second c.args.others.now c.as_slice-first.ensures
    c.as_slice-second.ensures (before_fronts c.min-count.result first second c.in-Before.ensures)

pub returns-in-After : goal.returns-in-After
returns-in-After c =
    let first = c.as_slice-first.result.now in
    let second = c.as_slice-second.result.now in
    tells_lists After first c.args.octets.now second c.args.others.now c.as_slice-first.ensures
    c.as_slice-second.ensures (before_fronts c.min-count.result second first c.in-After.ensures)
