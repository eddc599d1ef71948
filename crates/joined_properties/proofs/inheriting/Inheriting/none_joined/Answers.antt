-- As many tables as there are classes.
use Rattle.std.proofs.Common.{arith}
use Rattle.joined_properties.proofs.inheriting.Inheriting.none_joined.Goals as goal

pub returns : goal.returns
returns c = record {
  size = (let known = c.loop.invariant.0 in let past = c.loop-test.false in let end = c.loop.auto.counter-end in
      omega arith);
  none_ = c.loop.invariant.1;
}
