use Rattle.lock_model.proofs.Disjoint.{read_set_stays}
use Rattle.lock_model.proofs.laws.read_sets_stay.Goals as goal

pub returns : goal.returns
returns c = read_set_stays
