-- What was appended is every member in the order that the sort left, which is the rising one.
use Rattle.std.proofs.Common.{◌≡◌, ◌++◌, drop, reverse, arith, ap, ◌∙◌}
use Rattle.term_values.specs.Rearranged.{joined, rising}
use Rattle.term_values.proofs.RisingLaws.{rising_is_sorted}
use Rattle.ber_values.proofs.encoding.write_rising.Goals as goal

pub returns-clause-written : goal.returns-clause-written
returns-clause-written c =
    let order : c.sort.new.self.items ≡ rising c.args.members.items =
    rising_is_sorted _ _ c.in_ok-sort.ensures.permutation c.in_ok-sort.ensures.sorted in
    let first : c.loop-i.i ≡ 0 = omega arith in
    c.loop-i.invariant.0
    ∙ ap (λ n. c.args.into.now.items ++ reverse (joined (drop n c.sort.new.self.items))) first
    ∙ ap (λ xs. c.args.into.now.items ++ reverse (joined xs)) order
