use Rattle.lock_model.proofs.WholeLaws.{get_keeps_to_unit}
use Rattle.lock_model.proofs.laws.gets_keep_to_units.Goals as goal

pub returns : goal.returns
returns c = get_keeps_to_unit
