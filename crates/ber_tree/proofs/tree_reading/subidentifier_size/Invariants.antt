use Rattle.std.proofs.Common.{ℕ, ◌<◌, ◌≤◌, get_or}
use Rattle.ber_tree.proofs.tree_reading.subidentifier_size.Given as goal

abbrev pub invariant-loop-i : goal.invariant-loop-i
invariant-loop-i l = (l.i ≤ 5) × ((k : ℕ) → k < l.i → 128 ≤ get_or l.octets k 0)
