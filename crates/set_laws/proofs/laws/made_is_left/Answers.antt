use Rattle.set_laws.proofs.Left.{made_is_left}
use Rattle.set_laws.proofs.laws.made_is_left.Goals as goal

pub returns : goal.returns
returns c = made_is_left
