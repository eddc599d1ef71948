use Rattle.lock_model.proofs.Plain.{units_are_plain}
use Rattle.lock_model.proofs.laws.units_are_plain.Goals as goal

pub returns : goal.returns
returns c = units_are_plain
