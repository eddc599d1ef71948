use Rattle.operation_laws.proofs.LinkedContents.{contents_are_read}
use Rattle.operation_laws.proofs.laws.contents_are_read.Goals as goal

pub returns : goal.returns
returns c = contents_are_read
