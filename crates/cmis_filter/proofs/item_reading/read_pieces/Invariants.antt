use Rattle.std.proofs.Common.{◌≡◌, drop, option_map}
use Rattle.term_values.specs.Tree.{listed}
use Rattle.term_model.specs.FilterReading.{pieces_in}
use Rattle.cmis_filter.proofs.ReadingLaws.{pieces_before}
use Rattle.cmis_filter.proofs.item_reading.read_pieces.Given as goal

abbrev pub invariant-loop-tree : goal.invariant-loop-tree
invariant-loop-tree l =
    pieces_in l.set.attributes (listed l.tree-items)
    ≡ option_map (pieces_before l.items.items) (pieces_in l.set.attributes (listed (drop l.tree-index l.tree-items)))
