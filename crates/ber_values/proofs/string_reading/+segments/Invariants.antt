use Rattle.std.proofs.Common.{◌≡◌, drop}
use Rattle.ber_values.specs.Appending.{appended}
use Rattle.term_values.specs.LeafReading.{segments_in}
use Rattle.term_values.specs.Tree.{listed}
use Rattle.ber_values.proofs.string_reading.+segments.Given as goal

abbrev pub invariant-append_segments-loop-tree : goal.invariant-append_segments-loop-tree
invariant-append_segments-loop-tree l =
    appended l.fn.into.items (segments_in (listed l.tree-items))
    ≡ appended l.into.items (segments_in (listed (drop l.tree-index l.tree-items)))
