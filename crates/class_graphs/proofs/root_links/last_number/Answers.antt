-- The last one, or none.
use Rattle.std.proofs.Common.{arith, length, ◌-◌}
use Rattle.class_graphs.proofs.RootLaws.{last_got, none_last}
use Rattle.class_graphs.proofs.root_links.last_number.Goals as goal

pub returns-then-count-eq0 : goal.returns-then-count-eq0
returns-then-count-eq0 c = none_last c.args.numbers.now c.if-count-eq0.true

pub returns : goal.returns
returns c =
    last_got c.args.numbers.now (length c.args.numbers.now - 1) (let n = c.if-count-eq0.false in omega arith)
