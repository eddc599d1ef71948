use Rattle.std.proofs.Common.{◌≡◌, drop, flat_map}
use Rattle.term_values.specs.Lengths.{octet_count}
use Rattle.term_values.specs.Oid.{subidentifier}
use Rattle.term_values.proofs.leaf_lengths.arcs_length.Given as goal

abbrev pub invariant-loop-i : goal.invariant-loop-i
invariant-loop-i l = l.total ≡ octet_count (flat_map subidentifier (drop l.i l.arcs))
