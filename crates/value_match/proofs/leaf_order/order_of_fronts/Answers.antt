use Rattle.std.proofs.Common.{sym, ◌∙◌}
use Rattle.value_match.proofs.OrderLaws.{less_before, greater_after, equal_same}
use Rattle.value_match.proofs.leaf_order.order_of_fronts.Goals as goal

pub returns-in-Less : goal.returns-in-Less
returns-in-Less c = less_before c.args.octets.now c.args.others.now c.requires (sym c.cmp.ensures ∙ c.in-Less.is)

pub returns-in-Equal : goal.returns-in-Equal
returns-in-Equal c = equal_same c.args.octets.now c.args.others.now (sym c.cmp.ensures ∙ c.in-Equal.is)

pub returns-in-Greater : goal.returns-in-Greater
returns-in-Greater c =
    greater_after c.args.octets.now c.args.others.now c.requires (sym c.cmp.ensures ∙ c.in-Greater.is)
