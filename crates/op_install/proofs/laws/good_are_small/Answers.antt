use Rattle.op_install.proofs.Staying.{good_are_small}
use Rattle.op_install.proofs.laws.good_are_small.Goals as goal

pub returns : goal.returns
returns c = good_are_small
