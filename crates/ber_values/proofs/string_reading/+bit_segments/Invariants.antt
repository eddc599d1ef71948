use Rattle.std.proofs.Common.{◌≡◌, drop}
use Rattle.ber_values.specs.Appending.{bits_appended, bits_go_on}
use Rattle.term_values.specs.LeafReading.{bit_segments_in}
use Rattle.term_values.specs.Tree.{listed}
use Rattle.ber_values.proofs.string_reading.+bit_segments.Given as goal

abbrev pub invariant-append_bit_segments-loop-tree : goal.invariant-append_bit_segments-loop-tree
invariant-append_bit_segments-loop-tree l =
    bits_appended l.fn.into.items (bit_segments_in (listed l.tree-items))
    ≡ bits_appended l.into.items (bits_go_on l.unused (listed (drop l.tree-index l.tree-items)))
