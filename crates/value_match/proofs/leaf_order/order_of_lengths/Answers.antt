use Rattle.std.proofs.Common.{arith}
use Rattle.value_match.proofs.OrderLaws.{before_one}
use Rattle.value_match.proofs.leaf_order.order_of_lengths.Goals as goal

pub returns-then-size-other : goal.returns-then-size-other
returns-then-size-other c = before_one c.args.size c.args.other (omega arith)

pub returns-then-other-size : goal.returns-then-other-size
returns-then-other-size c = before_one c.args.other c.args.size (omega arith)
