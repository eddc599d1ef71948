use Rattle.opening_laws.proofs.Good.{opened_good}
use Rattle.opening_laws.proofs.laws.opened_are_good.Goals as goal

pub returns : goal.returns
returns c = opened_good
