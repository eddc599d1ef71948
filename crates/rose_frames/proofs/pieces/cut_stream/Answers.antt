-- What each piece adds to the frames, and the frames of all pieces.
use Rattle.std.proofs.Common.{rules, ◌∙◌, arith}
use Rattle.std.proofs.lemmas.Result.{err_from_is_err_and}
use Rattle.rose_frames.proofs.StreamLaws.{all_cut, cutting_on, refused_in}
use Rattle.rose_frames.proofs.pieces.cut_stream.Goals as goal

pub returns-in_err-feed_piece-clause-refused : goal.returns-in_err-feed_piece-clause-refused
returns-in_err-feed_piece-clause-refused c =
    let p = err_from_is_err_and c.from_residual.result c.from_residual.ensures.1 in
    rw (p.1, p.2) (refused_in c.args.pieces.now c.pieces.piece-index c.pieces.framer c.args.apdus.now.items
    c.pieces.apdus.items c.feed_piece.new.apdus.items c.as_slice.result.now _ _ (search rules)
    (c.as_slice.ensures ∙ c.piece-item.is)
    c.pieces.invariant c.in_err-feed_piece.ensures.refused)

pub pieces-preserved : goal.pieces-preserved
pieces-preserved c =
    cutting_on c.args.pieces.now c.pieces.piece-index c.pieces.framer c.feed_piece.new.framer c.args.apdus.now.items
    c.pieces.apdus.items c.feed_piece.new.apdus.items c.as_slice.result.now _ (search rules)
    (c.as_slice.ensures ∙ c.piece-item.is)
    c.pieces.invariant c.in_ok-feed_piece.ensures.fed c.in_ok-feed_piece.ensures.stops

pub returns-clause-cut : goal.returns-clause-cut
returns-clause-cut c =
    all_cut c.args.pieces.now c.pieces.piece-index c.pieces.framer c.args.apdus.now.items c.pieces.apdus.items
    (omega arith) c.pieces.invariant
