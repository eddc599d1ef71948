use Rattle.set_laws.proofs.Sizes.{size_stays}
use Rattle.set_laws.proofs.Values.{values_stay_short}
use Rattle.set_laws.proofs.laws.limits_stay.Goals as goal

pub returns-clause-size : goal.returns-clause-size
returns-clause-size c = size_stays

pub returns-clause-values : goal.returns-clause-values
returns-clause-values c = values_stay_short
