use Rattle.std.proofs.Common.{arith}
use Rattle.value_match.proofs.OrderLaws.{before_one}
use Rattle.value_match.proofs.told.order_of_numbers.Goals as goal

pub returns-then-number-other : goal.returns-then-number-other
returns-then-number-other c = before_one c.args.number c.args.other (omega arith)

pub returns-then-other-number : goal.returns-then-other-number
returns-then-other-number c = before_one c.args.other c.args.number (omega arith)
