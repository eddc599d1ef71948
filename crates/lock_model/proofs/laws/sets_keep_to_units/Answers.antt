use Rattle.lock_model.proofs.WholeLaws.{set_keeps_to_unit}
use Rattle.lock_model.proofs.laws.sets_keep_to_units.Goals as goal

pub returns : goal.returns
returns c = set_keeps_to_unit
