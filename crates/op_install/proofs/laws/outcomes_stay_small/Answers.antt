use Rattle.op_install.proofs.Staying.{outcomes_stay_small}
use Rattle.op_install.proofs.laws.outcomes_stay_small.Goals as goal

pub returns : goal.returns
returns c = outcomes_stay_small
