-- The frames so far, and what is left of the piece.
use Rattle.std.proofs.Common.{◌+◌, ◌-◌, length}
use Rattle.rose_frames.proofs.CuttingLaws.{Feeding}
use Rattle.rose_frames.proofs.pieces.feed_piece.Given as goal

abbrev pub invariant-frames : goal.invariant-frames
invariant-frames l = Feeding l.fn.framer l.framer l.fn.piece l.at l.fn.apdus.items l.apdus.items

abbrev pub decreases-frames : goal.decreases-frames
decreases-frames l = length l.framer.octets + (length l.fn.piece - l.at)
