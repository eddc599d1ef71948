use Rattle.opening_laws.proofs.Elsewhere.{names_read}
use Rattle.opening_laws.proofs.laws.names_are_read.Goals as goal

pub returns : goal.returns
returns c = names_read
