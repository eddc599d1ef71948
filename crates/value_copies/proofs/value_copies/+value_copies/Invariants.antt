use Rattle.std.proofs.Common.{◌≡◌, map, take}
use Rattle.asn1_values_syntax.specs.ValueTrees.{part_tree}
use Rattle.value_copies.proofs.value_copies.+value_copies.Given as goal

abbrev pub invariant-copy_content-loop-part : goal.invariant-copy_content-loop-part
invariant-copy_content-loop-part l = map part_tree l.copies.items ≡ map part_tree (take l.part-index l.part-items)
