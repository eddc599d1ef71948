use Rattle.lock_model.proofs.Plans.{plan_stays}
use Rattle.lock_model.proofs.laws.plans_stay.Goals as goal

pub returns : goal.returns
returns c = plan_stays
