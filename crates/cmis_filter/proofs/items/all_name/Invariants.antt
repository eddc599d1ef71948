use Rattle.std.proofs.Common.{◌≡◌, drop}
use Rattle.std.specs.List.{list_all}
use Rattle.term_model.specs.declared.filter_item.Piece.{Piece}
use Rattle.term_model.specs.FilterTruth.{is_same_ref}
use Rattle.cmis_filter.proofs.items.all_name.Given as goal

abbrev pub invariant-loop-piece : goal.invariant-loop-piece
invariant-loop-piece l =
    list_all (λ (piece : Piece). is_same_ref piece.given.id l.id) (drop l.piece-index l.pieces)
    ≡ list_all (λ (piece : Piece). is_same_ref piece.given.id l.id) l.pieces
