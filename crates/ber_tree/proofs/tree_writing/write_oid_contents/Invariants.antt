use Rattle.std.proofs.Common.{◌≡◌, ◌++◌, drop, flat_map}
use Rattle.term_values.specs.Oid.{subidentifier, oid_contents}
use Rattle.ber_tree.specs.Writing.{Extends}
use Rattle.ber_tree.proofs.tree_writing.write_oid_contents.Given as goal

abbrev pub invariant-loop-arc : goal.invariant-loop-arc
invariant-loop-arc l = (l.into.items ++ flat_map subidentifier (drop l.arc-index l.others) ≡ l.fn.into.items
    ++ oid_contents l.oid) × Extends l.fn.into.items l.into.items
