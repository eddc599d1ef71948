-- Pairs of numbers behind a list.
use Rattle.std.proofs.Common.{take}
use Rattle.key_numbers.specs.KeyNumbers.{pairs_code}
use Rattle.key_numbers.proofs.BuildingLaws.{built_more, pairs_more}
use Rattle.key_numbers.proofs.number_lists.NumberLists.extended_by_pairs.Goals as goal

pub loop-i-preserved : goal.loop-i-preserved
loop-i-preserved c = built_more c.args.self.now c.loop-i.self c.extended_by_pair.new.self c.args.before c.loop-i.list
    c.in_ok-list.list (pairs_code (take c.loop-i.i c.args.pairs.now)) _ _
    (pairs_more c.args.pairs.now c.loop-i.i _ c.loop-i-test.true) c.loop-i.invariant c.extended_by_pair.ensures.grows
    c.in_ok-list.ensures.is
