-- The frames of the pieces so far.
use Rattle.rose_frames.proofs.StreamLaws.{Cutting}
use Rattle.rose_frames.proofs.pieces.cut_stream.Given as goal

abbrev pub invariant-pieces : goal.invariant-pieces
invariant-pieces l = Cutting l.pieces l.piece-index l.framer l.fn.apdus.items l.apdus.items
