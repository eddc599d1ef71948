use Rattle.std.proofs.Common.{◌-◌, length}
use Rattle.ber_tree.proofs.IdentifierSteps.{Spelt}
use Rattle.ber_tree.proofs.tree_reading.read_oid_contents.Given as goal

abbrev pub invariant-loop-at : goal.invariant-loop-at
invariant-loop-at l = Spelt l.octets l.at l.arcs.items

abbrev pub decreases-loop-at : goal.decreases-loop-at
decreases-loop-at l = length l.octets - l.at
