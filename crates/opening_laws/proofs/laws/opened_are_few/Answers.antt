use Rattle.opening_laws.proofs.Built.{opened_few}
use Rattle.opening_laws.proofs.laws.opened_are_few.Goals as goal

pub returns : goal.returns
returns c = opened_few
