use Rattle.std.proofs.Common.{◌≡◌, ◌++◌, drop, reverse}
use Rattle.ber_tree.specs.Writing.{Extends}
use Rattle.term_values.specs.Rearranged.{joined}
use Rattle.ber_values.proofs.encoding.write_rising.Given as goal

abbrev pub invariant-loop-i : goal.invariant-loop-i
invariant-loop-i l =
    (l.into.items ≡ l.fn.into.items ++ reverse (joined (drop l.i l.members.items)))
    × Extends l.fn.into.items l.into.items
