-- The members that stay, as a list of values.
use Rattle.op_life.proofs.ValueLaws.{left_at_end}
use Rattle.op_life.proofs.created_values.without_full.Goals as goal

pub returns : goal.returns
returns c =
    left_at_end c.args.values.now c.loop-value.value-index c.loop-value.items.items c.loop-value.invariant
    c.loop-value-test.false
