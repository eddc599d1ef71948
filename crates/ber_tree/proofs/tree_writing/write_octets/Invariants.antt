use Rattle.std.proofs.Common.{◌≡◌, ◌++◌, ◌≤◌}
use Rattle.ber_tree.specs.Writing.{last_octets, Extends}
use Rattle.ber_tree.proofs.tree_writing.write_octets.Given as goal

abbrev pub invariant-loop-place : goal.invariant-loop-place
invariant-loop-place l =
    (l.place ≤ l.count) × (l.into.items ++ last_octets l.turned l.place l.number ≡ l.fn.into.items
    ++ last_octets l.turned l.count l.number) × Extends l.fn.into.items l.into.items
