use Rattle.std.proofs.Common.{◌≡◌, ◌≤◌, ◌+◌, ◌*◌, drop}
use Rattle.value_match.specs.LeafKeys.{arcs_size}
use Rattle.value_match.proofs.arc_order.arcs_size.Given as goal

abbrev pub invariant-loop-i : goal.invariant-loop-i
invariant-loop-i l = (l.size + arcs_size (drop l.i l.arcs) ≡ arcs_size l.arcs) × (l.size ≤ 5 * l.i)
