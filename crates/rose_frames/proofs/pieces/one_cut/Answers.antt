-- Octets are cut in one way.
use Rattle.rose_frames.proofs.StreamLaws.{one_way}
use Rattle.rose_frames.proofs.pieces.one_cut.Goals as goal

pub returns : goal.returns
returns c = one_way
