-- What is left to put in, the last first.
use Rattle.std.proofs.Common.{◌≡◌, length}
use Rattle.term_values.specs.Typed.{listed}
use Rattle.fitting_members.specs.TakingBack.{with_all}
use Rattle.fitting_members.proofs.member_change.put_all.Given as goal

abbrev pub invariant-loop-removal : goal.invariant-loop-removal
invariant-loop-removal l =
    with_all l.left.items (listed l.items.items) ≡ with_all l.fn.removals.items (listed l.fn.items.items)

abbrev pub decreases-loop-removal : goal.decreases-loop-removal
decreases-loop-removal l = length l.left.items
