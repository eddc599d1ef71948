use Rattle.std.proofs.Common.{◌≡◌, drop, option_map}
use Rattle.term_model.specs.FilterTruth.{pieces_listed}
use Rattle.ber_values.specs.Left.{values_before}
use Rattle.cmis_filter.proofs.item_reading.pieces_value.Given as goal

abbrev pub invariant-loop-piece : goal.invariant-loop-piece
invariant-loop-piece l =
    pieces_listed l.pieces ≡ option_map (values_before l.items.items) (pieces_listed (drop l.piece-index l.pieces))
