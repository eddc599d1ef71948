use Rattle.op_install.proofs.Staying.{outcomes_stay_good}
use Rattle.op_install.proofs.laws.outcomes_stay_good.Goals as goal

pub returns : goal.returns
returns c = outcomes_stay_good
