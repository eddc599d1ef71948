-- At the end of one of the lists nothing is left.
use Rattle.std.proofs.Common.{◌++◌, ◌≤◌, min, length, sym, ap, ◌∙◌, arith}
use Rattle.std.proofs.lemmas.List.{append-nil}
use Rattle.object_modifications.proofs.ListEnds.{differing_end}
use Rattle.object_modifications.proofs.object_set.differing.Goals as goal

pub returns : goal.returns
returns c =
    let past : min (length c.args.before.now) (length c.args.now.now) ≤ c.loop-i.i =
    omega (arith, c.loop-i-test.false, c.min-count.ensures) in
    sym
    (c.loop-i.invariant
    ∙ ap (λ xs. c.loop-i.diffs.items ++ xs)
    (differing_end c.args.records.now c.args.before.now c.args.now.now c.loop-i.i past)
    ∙ append-nil c.loop-i.diffs.items)
